use Rattle.std.proofs.Common.{◌≡◌, ◌≤◌}
use Rattle.table_tests.proofs.elimination.kept.Given as goal

abbrev pub invariant-loop-n : goal.invariant-loop-n
invariant-loop-n l = record {
  above : l.echelon.above ≤ l.n;
  columns : l.echelon.columns ≡ 40;
  ring : l.echelon.ring ≡ l.ring;
}
