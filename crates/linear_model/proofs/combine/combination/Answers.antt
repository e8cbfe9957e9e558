use Rattle.std.proofs.Common.{rules, slice_index}
use Rattle.linear_model.specs.Tables.{entry_of}
use Rattle.linear_model.proofs.Spans.{combination_one_more}
use Rattle.linear_model.proofs.combine.combination.Goals as goal

pub loop-i-preserved : goal.loop-i-preserved
loop-i-preserved c = combination_one_more c.args.m c.loop-i.i (entry_of c.args.width c.args.table.now)
    (slice_index c.args.coefficients.now) c.args.col _ _ c.loop-i.invariant (search rules)
