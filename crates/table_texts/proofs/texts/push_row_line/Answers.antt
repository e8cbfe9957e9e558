use Rattle.std.proofs.Common.{◌≡◌, ◌∷◌, ◌++◌, string_bytes, ◌<◌, [], length, get_or, slice_get, Some, sym, ap, subst, ◌∙◌}
use Rattle.std.proofs.lemmas.Option.{get_or_from_slice_get}
use Rattle.page_rows.specs.Written.{AreResidues}
use Rattle.sparse_rows.specs.Entries.{IsBelow}
use Rattle.poly_print.specs.Polynomials.{row_text}
use Rattle.whole_runs.specs.FileTexts.{row_line}
use Rattle.table_texts.proofs.ShownTexts.{row_residues, residues_behind, row_below, row_line-pieces, on_ok_from}
use Rattle.table_texts.proofs.texts.push_row_line.Goals as goal

pub negative-requires : goal.negative-requires
negative-requires g c =
    let m = g.R.Ring.modulus c.args.ring.now in
    let n = length c.args.columns.now.list in
    let begins : c.args.row.now ≡ c.in-Some.lead.now ∷ c.in-Some.rest.now = sym c.as_slice.ensures ∙ c.in-Some.ensures.cases.0 in
    residues_behind m c.in-Some.lead.now c.in-Some.rest.now
    (subst (AreResidues (λ k. k) m) begins (row_residues n m c.args.row.now c.requires.data c.requires.below))

pub at-requires : goal.at-requires
at-requires g c =
    let m = g.R.Ring.modulus c.args.ring.now in
    let n = length c.args.columns.now.list in
    let below : IsBelow (λ k. k) n (c.in-Some.lead.now ∷ c.in-Some.rest.now) =
    subst (IsBelow (λ k. k) n) (sym c.as_slice.ensures ∙ c.in-Some.ensures.cases.0) (row_below n m c.args.row.now c.requires.below) in
    subst (λ k. k < n) (sym c.from.ensures) below.0

pub push_row-requires-clause-below : goal.push_row-requires-clause-below
push_row-requires-clause-below g c =
    let m = g.R.Ring.modulus c.args.ring.now in
    let n = length c.args.columns.now.list in
    let below : IsBelow (λ k. k) n (c.in-Some.lead.now ∷ c.in-Some.rest.now) =
    subst (IsBelow (λ k. k) n) (sym c.as_slice.ensures ∙ c.in-Some.ensures.cases.0) (row_below n m c.args.row.now c.requires.below) in
    c.in_ok-polynomial.ensures.below n below.1

pub returns : goal.returns
returns g c =
    let m = g.R.Ring.modulus c.args.ring.now in
    let columns = c.args.columns.now.list in
    let lead = c.in-Some.lead.now in
    let begins : c.args.row.now ≡ lead ∷ c.in-Some.rest.now = sym c.as_slice.ensures ∙ c.in-Some.ensures.cases.0 in
    let at : slice_get columns lead.0 ≡ Some c.at.result.now = sym (ap (slice_get columns) c.from.ensures) ∙ c.at.ensures.at in
    let same : get_or columns lead.0 [] ≡ c.at.result.now = get_or_from_slice_get columns lead.0 c.at.result.now [] at in
    on_ok_from c.push_str-2.result (string_bytes c.push_str-2.new.self) (string_bytes c.push_row.new.text ++ 10 ∷ [])
    (string_bytes c.args.lines.now ++ row_line m columns c.args.row.now) _
    (row_line-pieces m columns c.args.row.now lead c.in-Some.rest.now c.at.result.now _ (string_bytes c.args.lines.now) (string_bytes c.push_monomial.new.text)
    (string_bytes c.push_str.new.self) (string_bytes c.push_row.new.text) begins same c.in_ok-push_monomial.ensures c.in_ok-push_str.ensures.bytes
    c.in_ok-push_row.ensures (ap (row_text columns) c.in_ok-polynomial.ensures.written)) c.push_str-2.ensures.bytes
