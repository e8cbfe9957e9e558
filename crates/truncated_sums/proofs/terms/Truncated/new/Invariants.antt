use Rattle.std.proofs.Common.{◌≡◌, ℕ, ◌+◌, ◌<◌, ◌≤◌, true, length}
use Rattle.std.specs.Prelude.{All}
use Rattle.zeta_model.specs.Inverses.{HasInverse}
use Rattle.truncated_sums.specs.Inverses.{inverse_of}
use Rattle.truncated_sums.specs.Running.{AreInverses}
use Rattle.truncated_sums.proofs.terms.Truncated.new.Given as goal

abbrev pub invariant-loop-term : goal.invariant-loop-term
invariant-loop-term g l =
    let m = g.R.Ring.modulus l.ring in
    record {
      count : length l.inverses.items + 1 ≡ l.term;
      in_ring : All (λ a. g.R.Ring.has l.ring a ≡ true) l.inverses.items;
      values : AreInverses m (g.R.Ring.value l.ring) (inverse_of m) l.inverses.items;
      have : (a : ℕ) → 1 ≤ a → a < l.term → HasInverse m a;
    }
