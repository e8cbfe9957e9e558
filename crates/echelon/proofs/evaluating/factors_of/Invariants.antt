use Rattle.std.proofs.Common.{◌≡◌, ℕ, ◌<◌, length, true}
use Rattle.std.specs.List.{All}
use Rattle.echelon.specs.Inner.{numbers_of}
use Rattle.echelon.specs.Offers.{used_at}
use Rattle.echelon.proofs.evaluating.factors_of.Given as goal

abbrev pub invariant-loop-i : goal.invariant-loop-i
invariant-loop-i g l = record {
  count : length l.factors.items ≡ l.i;
  in_ring : All (λ a. g.R.Ring.has l.ring a ≡ true) l.factors.items;
  at : (i : ℕ) → i < l.i → numbers_of (g.R.Ring.value l.ring) l.factors.items i ≡ used_at (g.R.Ring.value l.ring) l.numbers l.uses i;
}
