-- What completes the bytes read so far to a line, by the token that was read last, and the laws of the places.
use Rattle.std.specs.Prelude.{[], codes, ◌*◌, ◌^◌, ◌≤◌}
use Rattle.std.proofs.Common.{◌≡◌, Some, refl, sym, ap, subst, arith}
use Rattle.std.proofs.lemmas.Bool.{leb-true}
use Rattle.line_tokens.specs.declared.spots.Run.{Run}
use Rattle.line_tokens.specs.Machine.{IsAlternating}
use Rattle.line_tokens.specs.Limits.{HoldsRuns, HoldsMarks}
use Rattle.line_tokens.specs.Prefixes.{IsProductive}
use Rattle.dual_reply.specs.declared.place.Place.{Place}
use Rattle.dual_reply.specs.declared.place.Place.TheVariants.{Start, BeforeZeta, AfterLetter, BeforeIndex, AfterIndex, AfterZeta}
use Rattle.dual_reply.specs.Places.{places, run_at, limit}

pub tails : (p : Place) → IsProductive places p
tails Start = (codes "z(1)", refl)
tails BeforeZeta = (codes "z(1)", refl)
tails AfterLetter = (codes "(1)", refl)
tails BeforeIndex = (codes "1)", refl)
tails AfterIndex = (codes ")", refl)
tails AfterZeta = ([], refl)

the_run : (p : Place) (r : Run Place) → run_at p ≡ Some r → record { lowest = 49; more = 2; next = AfterIndex } ≡ r
the_run BeforeIndex r e = cc
the_run _ r e = cc

pub alternating : IsAlternating places
alternating p r e = ap (λ (r : Run Place). run_at r.next) (sym (the_run p r e))

pub holds_runs : HoldsRuns places limit
holds_runs p r e = subst (λ (r : Run Place). 10 * 10 ^ r.more ≤ limit r.next) (the_run p r e) (leb-true (10 * 10 ^ 2) 1000 refl)

pub holds_marks : HoldsMarks places limit
holds_marks p q m e = omega arith

pub limit_small : (p : Place) → limit p ≤ 10 ^ 38
limit_small p = leb-true 1000 (10 ^ 38) refl
