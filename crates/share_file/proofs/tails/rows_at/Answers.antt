use Rattle.std.proofs.Common.{◌≡◌, ◌++◌, ℕ, List, true, false, sym, ap, subst, ◌∙◌, length, arith}
use Rattle.page_codec.specs.declared.page.Page.{Page}
use Rattle.page_codec.specs.declared.page.Page.TheVariants.{Header, Forward, Final, Done}
use Rattle.page_codec.specs.declared.parts.FinalEntry.{FinalEntry}
use Rattle.page_codec.specs.Bounds.{IsPage}
use Rattle.page_codec.specs.Spelling.{spelling_of}
use Rattle.share_file.specs.Inner.{Walked, Follows, FitsTail}
use Rattle.share_file.proofs.Walking.{walked_start, walked_none, walked_off, walked_done, walked_on}
use Rattle.share_file.proofs.tails.rows_at.Goals as goal

pub pages-init : goal.pages-init
pages-init c = subst (λ (l : List FinalEntry). Walked c.args.params.now c.args.relations c.args.bytes.now l c.args.bytes.now)
    (sym c.new-rows.ensures.items) (walked_start c.args.params.now c.args.relations c.args.bytes.now)

pub returns-in_default-clause-none : goal.returns-in_default-clause-none
returns-in_default-clause-none c =
    let none = rw c.in_default.is at c.in_ok-page.ensures.none in
    walked_none c.args.params.now c.args.relations c.requires c.args.bytes.now c.pages.rows.items c.pages.rest.now c.pages.invariant none

pub returns-then-not-follows-clause-none : goal.returns-then-not-follows-clause-none
returns-then-not-follows-clause-none c =
    let found = rw c.in-Some.is at c.in_ok-page.ensures.found in
    let is : IsPage (Final c.in-Final.page) = subst IsPage c.in-Final.is found.0 in
    let begins : c.pages.rest.now ≡ spelling_of (Final c.in-Final.page) ++ c.in-Some.behind.now =
    found.1 ∙ ap (λ (q : Page). spelling_of q ++ c.in-Some.behind.now) c.in-Final.is in
    let long : length c.pages.rows.items ≡ c.len.result = omega arith in
    let refused : ¬ (Follows c.args.params.now c.args.relations (length c.pages.rows.items) c.in-Final.page) =
    λ follows.
    let yes : c.follows.result ≡ true =
    c.follows.ensures.1 (subst (λ (k : ℕ). Follows c.args.params.now c.args.relations k c.in-Final.page) long follows) in
    let no : c.follows.result ≡ false = c.if-not-follows.true in
    absurd (cc (yes, no)) in
    walked_off c.args.params.now c.args.relations c.requires c.args.bytes.now c.pages.rows.items c.pages.rest.now c.pages.invariant
    (Final c.in-Final.page) c.in-Some.behind.now is begins refused

pub pages-preserved : goal.pages-preserved
pages-preserved c =
    let found = rw c.in-Some.is at c.in_ok-page.ensures.found in
    let is : IsPage (Final c.in-Final.page) = subst IsPage c.in-Final.is found.0 in
    let begins : c.pages.rest.now ≡ spelling_of (Final c.in-Final.page) ++ c.in-Some.behind.now =
    found.1 ∙ ap (λ (q : Page). spelling_of q ++ c.in-Some.behind.now) c.in-Final.is in
    let long : c.len.result ≡ length c.pages.rows.items = omega arith in
    let follows : Follows c.args.params.now c.args.relations (length c.pages.rows.items) c.in-Final.page =
    subst (λ (k : ℕ). Follows c.args.params.now c.args.relations k c.in-Final.page) long (c.follows.ensures.0 c.if-not-follows.false) in
    let items : c.append_copies.new.rows.items ≡ c.pages.rows.items ++ c.in-Final.page.entries =
    c.in_ok-append_copies-in-Final.ensures ∙ ap (λ (l : List FinalEntry). c.pages.rows.items ++ l) c.as_slice.ensures in
    subst (λ (l : List FinalEntry). Walked c.args.params.now c.args.relations c.args.bytes.now l c.in-Some.behind.now) (sym items)
    (walked_on c.args.params.now c.args.relations c.requires c.args.bytes.now c.pages.rows.items c.pages.rest.now c.pages.invariant
    c.in-Final.page c.in-Some.behind.now is begins follows)

pub returns-then-not-ends-clause-none : goal.returns-then-not-ends-clause-none
returns-then-not-ends-clause-none c =
    let found = rw c.in-Some.is at c.in_ok-page.ensures.found in
    let is : IsPage (Done c.in-Done.count) = subst IsPage c.in-Done.is found.0 in
    let begins : c.pages.rest.now ≡ spelling_of (Done c.in-Done.count) ++ c.in-Some.behind.now =
    found.1 ∙ ap (λ (q : Page). spelling_of q ++ c.in-Some.behind.now) c.in-Done.is in
    let refused : ¬ (FitsTail c.args.params.now c.args.relations (length c.pages.rows.items) (Done c.in-Done.count) c.in-Some.behind.now) =
    λ fits.
    let same : c.in-Done.count ≡ c.len-in-Done.result = omega (arith, fits.0) in
    let yes : c.ends.result ≡ true = c.ends.ensures.1 (same, fits.1) in
    let no : c.ends.result ≡ false = c.if-not-ends.true in
    absurd (cc (yes, no)) in
    walked_off c.args.params.now c.args.relations c.requires c.args.bytes.now c.pages.rows.items c.pages.rest.now c.pages.invariant
    (Done c.in-Done.count) c.in-Some.behind.now is begins refused

pub returns-in-Done-clause-some : goal.returns-in-Done-clause-some
returns-in-Done-clause-some c =
    let found = rw c.in-Some.is at c.in_ok-page.ensures.found in
    let begins : c.pages.rest.now ≡ spelling_of (Done c.in-Done.count) ++ c.in-Some.behind.now =
    found.1 ∙ ap (λ (q : Page). spelling_of q ++ c.in-Some.behind.now) c.in-Done.is in
    let fits = c.ends.ensures.0 c.if-not-ends.false in
    let same : c.in-Done.count ≡ length c.pages.rows.items = omega (arith, fits.0) in (
      c.pages.invariant.are_rows,
      walked_done c.args.params.now c.args.relations c.requires c.args.bytes.now c.pages.rows.items c.pages.rest.now c.pages.invariant
          c.in-Done.count c.in-Some.behind.now same fits.1 begins,
    )

pub returns-in-Header-clause-none : goal.returns-in-Header-clause-none
returns-in-Header-clause-none c =
    let found = rw c.in-Some.is at c.in_ok-page.ensures.found in
    walked_off c.args.params.now c.args.relations c.requires c.args.bytes.now c.pages.rows.items c.pages.rest.now c.pages.invariant
    (Header c.in-Header.field-0) c.in-Some.behind.now (subst IsPage c.in-Header.is found.0)
    (found.1 ∙ ap (λ (q : Page). spelling_of q ++ c.in-Some.behind.now) c.in-Header.is) (λ fits. fits)

pub returns-in-Forward-clause-none : goal.returns-in-Forward-clause-none
returns-in-Forward-clause-none c =
    let found = rw c.in-Some.is at c.in_ok-page.ensures.found in
    walked_off c.args.params.now c.args.relations c.requires c.args.bytes.now c.pages.rows.items c.pages.rest.now c.pages.invariant
    (Forward c.in-Forward.field-0) c.in-Some.behind.now (subst IsPage c.in-Forward.is found.0)
    (found.1 ∙ ap (λ (q : Page). spelling_of q ++ c.in-Some.behind.now) c.in-Forward.is) (λ fits. fits)
