use Rattle.std.proofs.Common.{arith, length-drop, ◌∙◌}
use Rattle.page_file.proofs.Pieces.{filled_told, length-put_mid}
use Rattle.whole_files.proofs.reading.fill.Goals as goal

pub loop-count-preserved : goal.loop-count-preserved
loop-count-preserved g c =
    let len = length-put_mid c.loop-count.buf c.read_at.new.buf c.loop-count.count _ c.loop-count.invariant.within c.read_at.auto.buf in
    record {
      within = omega (arith, len, c.in_ok-more.ensures.bound, c.read_at.auto.buf, length-drop c.loop-count.count c.loop-count.buf, c.loop-count.invariant.within);
      long = len ∙ c.loop-count.invariant.long;
      bytes = filled_told _ _ c.loop-count.buf c.read_at.new.buf c.loop-count.count _ c.in_ok-more.more c.args.at c.loop-count.invariant.same c.loop-count.invariant.within
          c.in_ok-more.ensures.bound c.loop-count.invariant.bytes c.in_ok-more.ensures.bytes;
      same = c.read_at.ensures.same ∙ c.loop-count.invariant.same;
      faults = omega (arith, c.loop-count.invariant.faults, c.read_at.ensures.cause.later);
    }
