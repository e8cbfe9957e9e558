use Rattle.std.proofs.Common.{arith, length-drop, ◌∙◌}
use Rattle.page_file.proofs.Pieces.{length-put_mid}
use Rattle.table_migration.proofs.Taking.{filled}
use Rattle.table_migration.proofs.reading.fill.Goals as goal

pub loop-count-preserved : goal.loop-count-preserved
loop-count-preserved g c =
    let len = length-put_mid c.loop-count.buf c.read.new.buf c.loop-count.count _ c.loop-count.invariant.within c.read.auto.buf in
    record {
      within = omega (arith, len, c.in_ok-more.ensures.bound, c.read.auto.buf, length-drop c.loop-count.count c.loop-count.buf, c.loop-count.invariant.within);
      long = len ∙ c.loop-count.invariant.long;
      bytes = filled c.loop-count.buf c.read.new.buf c.loop-count.count _ c.in_ok-more.more _ _ _ c.loop-count.invariant.within c.in_ok-more.ensures.bound
          c.loop-count.invariant.bytes c.in_ok-more.ensures.bytes;
      faults = omega (arith, c.loop-count.invariant.faults, c.read.ensures.cause.later);
    }
