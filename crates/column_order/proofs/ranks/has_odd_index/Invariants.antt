use Rattle.std.proofs.Common.{◌≡◌, ◌+◌, ◌≤◌, drop}
use Rattle.std.specs.List.{list_all}
use Rattle.zeta_model.specs.Indices.{index_of, index_from}
use Rattle.column_order.specs.Ranks.{is_odd_from_3}
use Rattle.column_order.proofs.ranks.has_odd_index.Given as goal

abbrev pub invariant-loop-i : goal.invariant-loop-i
invariant-loop-i l = record {
  short : l.run ≤ l.i + 1;
  rest : list_all is_odd_from_3 (index_from l.run (drop l.i l.w)) ≡ list_all is_odd_from_3 (index_of l.w);
}
