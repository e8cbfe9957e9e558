use Rattle.std.proofs.Common.{◌≡◌, ◌≤◌}
use Rattle.table_tests.proofs.elimination.finished.Given as goal

abbrev pub invariant-loop-n : goal.invariant-loop-n
invariant-loop-n l = record {
  above : l.echelon.core.above ≤ l.n;
  columns : l.echelon.core.columns ≡ 40;
  ring : l.echelon.core.ring ≡ l.ring;
}
