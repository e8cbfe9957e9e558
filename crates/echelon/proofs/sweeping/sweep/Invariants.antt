use Rattle.std.proofs.Common.{◌≡◌, ℕ, ◌<◌, length, true}
use Rattle.std.specs.List.{All}
use Rattle.linear_model.specs.Forward.{IsSwept}
use Rattle.echelon.specs.Lists.{lead_at, row_at}
use Rattle.echelon.specs.Inner.{numbers_of}
use Rattle.echelon.proofs.sweeping.sweep.Given as goal

abbrev pub invariant-loop : goal.invariant-loop
invariant-loop g l = record {
  count : length l.factors.items ≡ l.counter;
  in_ring : All (λ a. g.R.Ring.has l.ring a ≡ true) l.factors.items;
  zero : (i : ℕ) → numbers_of (g.R.Ring.value l.ring) l.factors.items i ≡ 0;
}

abbrev pub invariant-loop-i : goal.invariant-loop-i
invariant-loop-i g l = record {
  count : length l.factors.items ≡ l.i;
  in_ring : All (λ a. g.R.Ring.has l.ring a ≡ true) l.factors.items;
  zero : (i : ℕ) → i < l.first → numbers_of (g.R.Ring.value l.ring) l.factors.items i ≡ 0;
  all_sums : All (g.R.Ring.is_sum l.ring) l.sums;
  swept : IsSwept (g.R.Ring.modulus l.ring) l.first l.i (lead_at l.rows) (row_at (g.R.Ring.value l.ring) l.rows)
      (numbers_of (g.R.Ring.value l.ring) l.factors.items)
      (numbers_of (g.R.Ring.total l.ring) l.fn.sums) (numbers_of (g.R.Ring.total l.ring) l.sums);
}
