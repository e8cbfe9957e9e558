use Rattle.std.proofs.Common.{◌≤◌, ◌*◌, length, arith}
use Rattle.leading_word.proofs.Runs.{seen-fits, seen-step}
use Rattle.leading_word.proofs.greatest.factorials.Goals as goal

pub run_with-run-requires : goal.run_with-run-requires
run_with-run-requires c = (seen-fits c.args.p.now c.loop-i.i c.loop-i.last c.loop-i.run c.loop-i.count
    (omega (arith, c.len-i-end.ensures.length, c.len-i-end.ensures.within)) c.loop-i.invariant).0

pub loop-i-preserved : goal.loop-i-preserved
loop-i-preserved c = seen-step c.args.p.now c.loop-i.i c.factor-factor.result c.loop-i.last c.loop-i.run c.loop-i.count c.run_with-run.result c.len-i-end.ensures.monomial.falls c.factor-factor.ensures c.loop-i.invariant c.run_with-run.ensures

pub overflow_mul-count : goal.overflow_mul-count
overflow_mul-count c =
    let few : length c.args.p.now ≤ 12 = omega (arith, c.len-i-end.ensures.length, c.len-i-end.ensures.within) in
    omega (
      arith,
      (seen-fits c.args.p.now _ c.factor-factor.result c.run_with-run.result (c.loop-i.count * c.run_with-run.result) few
          (seen-step c.args.p.now c.loop-i.i c.factor-factor.result c.loop-i.last c.loop-i.run c.loop-i.count c.run_with-run.result c.len-i-end.ensures.monomial.falls c.factor-factor.ensures c.loop-i.invariant c.run_with-run.ensures)).1,
    )
