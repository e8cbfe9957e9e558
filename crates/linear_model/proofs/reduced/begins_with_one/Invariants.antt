use Rattle.std.proofs.Common.{ℕ, ◌<◌}
use Rattle.zeta_model.specs.Modular.{Same}
use Rattle.linear_model.specs.Tables.{entry_of}
use Rattle.linear_model.proofs.reduced.begins_with_one.Given as goal

abbrev pub invariant-loop-j : goal.invariant-loop-j
invariant-loop-j l = (j : ℕ) → j < l.j → Same l.m (entry_of l.width l.table l.fn.i j) 0
