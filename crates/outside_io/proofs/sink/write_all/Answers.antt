use Rattle.std.proofs.Common.{arith, length-drop}
use Rattle.std.proofs.lemmas.Result.{err_from_is_err_and}
use Rattle.outside_io.proofs.Telling.{wrote_more, stopped_at}
use Rattle.outside_io.proofs.sink.write_all.Goals as goal

pub loop-at-preserved : goal.loop-at-preserved
loop-at-preserved g c = record {
  within = omega (arith, c.in_ok-at.ensures.bound, length-drop c.loop-at.at c.args.bytes.now);
  taken = wrote_more _ _ _ c.args.bytes.now c.loop-at.at c.in_ok-at.field-0 c.loop-at.invariant.taken c.in_ok-at.ensures.bytes;
  faults = omega (arith, c.loop-at.invariant.faults, c.write.ensures.cause.later);
}

pub returns-in_err-at-clause-err : goal.returns-in_err-at-clause-err
returns-in_err-at-clause-err g c =
    let p = err_from_is_err_and c.from_residual.result c.from_residual.ensures.1 in
    rw p.1 (stopped_at _ _ _ c.args.bytes.now c.loop-at.at c.loop-at.invariant.taken c.in_err-at.ensures.bytes)
