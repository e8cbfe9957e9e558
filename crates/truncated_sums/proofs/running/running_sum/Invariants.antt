use Rattle.std.proofs.Common.{◌≡◌, ℕ, ◌+◌, true, length}
use Rattle.std.specs.Prelude.{All}
use Rattle.truncated_sums.specs.Running.{AreInverses, AreSums}
use Rattle.truncated_sums.proofs.running.running_sum.Given as goal

abbrev pub invariant-loop-k : goal.invariant-loop-k
invariant-loop-k g l = record {
  lengths : length l.sums.items ≡ l._k-index;
  zeros : All (λ a. a ≡ g.R.Ring.zero) l.sums.items;
}

abbrev pub invariant-loop-inverse : goal.invariant-loop-inverse
invariant-loop-inverse g l = record {
  lengths : length l.sums.items ≡ length l.index + 1;
  in_ring : All (λ a. g.R.Ring.has l.ring a ≡ true) l.sums.items;
  sums : (inverse : ℕ → ℕ) → AreInverses (g.R.Ring.modulus l.ring) (g.R.Ring.value l.ring) inverse l.inverses
      → AreSums (g.R.Ring.modulus l.ring) (g.R.Ring.value l.ring) inverse l.inverse-index l.index l.sums.items;
}
