use Rattle.share_merge.specs.Turns.{AreSharesOf}
use Rattle.share_tests.proofs.merged.shares.Given as goal

abbrev pub invariant-loop-index : goal.invariant-loop-index
invariant-loop-index l = AreSharesOf l.table l.of l.shares.items
