use Rattle.std.proofs.Common.{◌≡◌, ℕ, ◌<◌, [], length, get_or}
use Rattle.echelon.specs.Inner.{IsEvaluated}
use Rattle.echelon.proofs.evaluating.all_evaluated.Given as goal

abbrev pub invariant-loop-i : goal.invariant-loop-i
invariant-loop-i g l = record {
  count : length l.sums.items ≡ l.i;
  sums : (j : ℕ) → j < length l.sums.items
      → IsEvaluated (g.R.Ring.modulus l.ring) (g.R.Ring.has l.ring) (g.R.Ring.value l.ring) l.numbers l.combinations (get_or l.uses j [])
      (get_or l.sums.items j []);
}
