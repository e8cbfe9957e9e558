use Rattle.std.proofs.Common.{◌≡◌, ◌*◌, get_or, arith}
use Rattle.zeta_expr.proofs.WeightLemmas.{times_more, times_more_le}
use Rattle.zeta_expr.proofs.weights.zeta_weight.Goals as goal

pub overflow_add-weight : goal.overflow_add-weight
overflow_add-weight c =
    let l = times_more_le c.args.power c.args.word.now c.loop-number.number-index c.loop-number-test.true in
    let e : c.from.result * c.from-in-loop-number.result ≡ c.args.power * get_or c.args.word.now c.loop-number.number-index 0 =
    λ i. c.from.ensures i * c.from-in-loop-number.ensures i in
    omega (arith, l, e)

pub loop-number-preserved : goal.loop-number-preserved
loop-number-preserved c =
    let l = times_more c.args.power c.args.word.now c.loop-number.number-index c.loop-number-test.true in
    let e : c.from.result * c.from-in-loop-number.result ≡ c.args.power * get_or c.args.word.now c.loop-number.number-index 0 =
    λ i. c.from.ensures i * c.from-in-loop-number.ensures i in
    omega (arith, l, e)
