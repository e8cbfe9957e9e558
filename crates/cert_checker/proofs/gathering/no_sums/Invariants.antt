use Rattle.std.proofs.Common.{◌≡◌, ℕ, length}
use Rattle.std.specs.List.{All}
use Rattle.cert_checker.specs.Inner.{numbers_of}
use Rattle.cert_checker.proofs.gathering.no_sums.Given as goal

abbrev pub invariant-loop : goal.invariant-loop
invariant-loop g l = record {
  len : length l.sums.items ≡ l.counter;
  all_sums : All (g.R.Ring.is_sum l.ring) l.sums.items;
  zero : (q : ℕ) → numbers_of (g.R.Ring.total l.ring) l.sums.items q ≡ 0;
}
