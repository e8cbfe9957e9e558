use Rattle.std.proofs.Common.{◌≡◌, ◌++◌, List, sym, ap, subst, ◌∙◌}
use Rattle.page_codec.specs.declared.page.Page.{Page}
use Rattle.page_codec.specs.declared.page.Page.TheVariants.{Header}
use Rattle.page_codec.specs.declared.parts.FinalEntry.{FinalEntry}
use Rattle.page_codec.specs.Bounds.{IsPage, IsParams}
use Rattle.page_codec.specs.Spelling.{spelling_of}
use Rattle.share_model.specs.declared.share.Share.{Share}
use Rattle.share_model.specs.Shares.{IsShare}
use Rattle.share_file.specs.Spelling.{share_spelling}
use Rattle.share_file.proofs.Shares.{no_head, no_page, no_rows, whole_share}
use Rattle.share_file.proofs.decoding.decode_share.Goals as goal

pub returns-in_default-clause-none : goal.returns-in_default-clause-none
returns-in_default-clause-none c = no_head c.args.bytes.now (rw c.in_default.is at c.head_at.ensures.none)

pub returns-in_default-2-clause-none : goal.returns-in_default-2-clause-none
returns-in_default-2-clause-none c =
    let head = rw c.in-Some.is at c.head_at.ensures.some in
    no_page c.args.bytes.now c.in-Some.id c.in-Some.pages.now head.0 head.1 (rw c.in_default-2.is at c.in_ok-page.ensures.none)

pub returns-in_default-3-clause-none : goal.returns-in_default-3-clause-none
returns-in_default-3-clause-none c =
    let head = rw c.in-Some.is at c.head_at.ensures.some in
    let found = rw c.in-Some-2.is at c.in_ok-page.ensures.found in
    let params : IsParams c.in-Header.params = subst IsPage c.in-Header.is found.0 in
    let first : c.in-Some.pages.now ≡ spelling_of (Header c.in-Header.params) ++ c.in-Some-2.rest.now =
    found.1 ∙ ap (λ (q : Page). spelling_of q ++ c.in-Some-2.rest.now) c.in-Header.is in
    no_rows c.args.bytes.now c.in-Some.id c.in-Some.pages.now head.0 head.1 c.in-Header.params c.in-Some-2.rest.now params first
    c.in_ok-relations.relations c.in_ok-relations.ensures (rw c.in_default-3.is at c.in_ok-rows.ensures.none)

pub returns-clause-some : goal.returns-clause-some
returns-clause-some c =
    let head = rw c.in-Some.is at c.head_at.ensures.some in
    let found = rw c.in-Some-2.is at c.in_ok-page.ensures.found in
    let params : IsParams c.in-Header.params = subst IsPage c.in-Header.is found.0 in
    let first : c.in-Some.pages.now ≡ spelling_of (Header c.in-Header.params) ++ c.in-Some-2.rest.now =
    found.1 ∙ ap (λ (q : Page). spelling_of q ++ c.in-Some-2.rest.now) c.in-Header.is in
    let rows = rw c.in-Some-3.is at c.in_ok-rows.ensures.some in
    let whole = whole_share c.args.bytes.now c.in-Some.id c.in-Some.pages.now head.0 head.1 c.in-Header.params c.in-Some-2.rest.now params first
    c.in_ok-relations.relations c.in_ok-relations.ensures c.in-Some-3.rows.items rows.0 rows.1 in
    subst (λ (l : List FinalEntry). let s : Share = record { params = c.in-Header.params; id = c.in-Some.id; rows = l } in
    IsShare s × (c.args.bytes.now ≡ share_spelling s)) (sym c.from_vec-rows.ensures) whole
