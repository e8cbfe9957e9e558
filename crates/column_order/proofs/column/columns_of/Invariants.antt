use Rattle.std.proofs.Common.{take}
use Rattle.column_order.specs.Ranks.{rank_of}
use Rattle.column_order.specs.Inner.{AreOf}
use Rattle.column_order.proofs.column.columns_of.Given as goal

abbrev pub invariant-loop-word : goal.invariant-loop-word
invariant-loop-word g l = AreOf (rank_of l.rule.preference) (take l.word-index l.words) l.columns.items
