use Rattle.std.proofs.Common.{◌≡◌, ℕ, ◌<◌, [], length, get_or}
use Rattle.cert_checker.proofs.rows_check.no_values.Given as goal

abbrev pub invariant-loop : goal.invariant-loop
invariant-loop g l = record {
  count : length l.values.items ≡ l.counter;
  none : (n : ℕ) → n < length l.values.items → get_or l.values.items n [] ≡ [];
}
