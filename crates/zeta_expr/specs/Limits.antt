-- How large a number may be where the reader stands.
use Rattle.std.specs.Prelude.{◌≡◌, ℕ, ◌*◌, ◌^◌, ◌≤◌, Option, Some}
use Rattle.std.proofs.Common.{true, refl, sym, ap, subst, leb}
use Rattle.std.proofs.lemmas.Bool.{leb-true}
use Rattle.line_tokens.specs.declared.marks.Mark.{Mark}
use Rattle.line_tokens.specs.declared.marks.Mark.TheVariants.{Plus, Minus, Star, Slash, Caret, Open, Close, Comma, Letter}
use Rattle.line_tokens.specs.declared.spots.Run.{Run}
use Rattle.line_tokens.specs.Limits.{HoldsRuns, HoldsMarks}
use Rattle.zeta_expr.specs.declared.place.Place.{Place}
use Rattle.zeta_expr.specs.declared.place.Place.TheVariants.{Start, BeforeFactor, AfterTop, BeforeBottom, AfterBottom, AfterLetter, BeforeIndex, AfterIndex, AfterZeta, BeforePower, AfterPower}
use Rattle.zeta_expr.specs.Places.{places, run_at, after_mark}

-- the value of the last run is below this
abbrev pub limit : Place → ℕ
limit AfterIndex = 1000
limit AfterPower = 100
limit _ = 10 ^ 38

below : (a b : ℕ) → leb a b ≡ true → a ≤ b
below a b e = leb-true a b e

pub limit_small : (p : Place) → limit p ≤ 10 ^ 38
limit_small AfterIndex = below 1000 (10 ^ 38) refl
limit_small AfterPower = below 100 (10 ^ 38) refl
limit_small _ = below (10 ^ 38) (10 ^ 38) refl

run_holds : (p : Place) (o : Option (Run Place)) → run_at p ≡ o → (r : Run Place) → o ≡ Some r → 10 * 10 ^ r.more ≤ limit r.next
run_holds Start o e r f = let g : record { lowest = 48; more = 37; next = AfterTop } ≡ r = cc in
    subst (λ (r : Run Place). 10 * 10 ^ r.more ≤ limit r.next) g (below (10 * 10 ^ 37) (10 ^ 38) refl)
run_holds BeforeFactor o e r f = let g : record { lowest = 48; more = 37; next = AfterTop } ≡ r = cc in
    subst (λ (r : Run Place). 10 * 10 ^ r.more ≤ limit r.next) g (below (10 * 10 ^ 37) (10 ^ 38) refl)
run_holds BeforeBottom o e r f = let g : record { lowest = 48; more = 37; next = AfterBottom } ≡ r = cc in
    subst (λ (r : Run Place). 10 * 10 ^ r.more ≤ limit r.next) g (below (10 * 10 ^ 37) (10 ^ 38) refl)
run_holds BeforeIndex o e r f = let g : record { lowest = 49; more = 2; next = AfterIndex } ≡ r = cc in
    subst (λ (r : Run Place). 10 * 10 ^ r.more ≤ limit r.next) g (below (10 * 10 ^ 2) 1000 refl)
run_holds BeforePower o e r f = let g : record { lowest = 48; more = 1; next = AfterPower } ≡ r = cc in
    subst (λ (r : Run Place). 10 * 10 ^ r.more ≤ limit r.next) g (below (10 * 10 ^ 1) 100 refl)
run_holds _ o e r f = cc

pub holds_runs : HoldsRuns places limit
holds_runs p r e = run_holds p (run_at p) refl r e

-- no mark leads behind a number of an index or a power
mark_holds : (p : Place) (m : Mark) (q : Place) → after_mark p m ≡ Some q → limit q ≡ 10 ^ 38
mark_holds Start Plus q e = let f : BeforeFactor ≡ q = cc in ap limit (sym f)
mark_holds Start Minus q e = let f : BeforeFactor ≡ q = cc in ap limit (sym f)
mark_holds Start Letter q e = let f : AfterLetter ≡ q = cc in ap limit (sym f)
mark_holds Start _ q e = cc
mark_holds BeforeFactor Letter q e = let f : AfterLetter ≡ q = cc in ap limit (sym f)
mark_holds BeforeFactor _ q e = cc
mark_holds AfterLetter Open q e = let f : BeforeIndex ≡ q = cc in ap limit (sym f)
mark_holds AfterLetter _ q e = cc
mark_holds AfterIndex Comma q e = let f : BeforeIndex ≡ q = cc in ap limit (sym f)
mark_holds AfterIndex Close q e = let f : AfterZeta ≡ q = cc in ap limit (sym f)
mark_holds AfterIndex _ q e = cc
mark_holds BeforeBottom _ q e = cc
mark_holds BeforeIndex _ q e = cc
mark_holds BeforePower _ q e = cc
mark_holds AfterTop Slash q e = let f : BeforeBottom ≡ q = cc in ap limit (sym f)
mark_holds AfterZeta Caret q e = let f : BeforePower ≡ q = cc in ap limit (sym f)
mark_holds _ Star q e = let f : BeforeFactor ≡ q = cc in ap limit (sym f)
mark_holds _ Plus q e = let f : BeforeFactor ≡ q = cc in ap limit (sym f)
mark_holds _ Minus q e = let f : BeforeFactor ≡ q = cc in ap limit (sym f)
mark_holds _ _ q e = cc

pub holds_marks : HoldsMarks places limit
holds_marks p q m e = subst (λ v. limit p ≤ v) (sym (mark_holds p m q e)) (limit_small p)
