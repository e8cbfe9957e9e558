use Rattle.std.proofs.Common.{◌-◌, ◌+◌, ◌^◌, ◌<◌, arith, refl}
use Rattle.odd_residues.proofs.NewtonSteps.{newton_step, square_of_power, word_by_power}
use Rattle.odd_residues.proofs.newton.negated_inverse.Goals as goal

pub loop-i-preserved : goal.loop-i-preserved
loop-i-preserved c =
    let i = c.loop-i._i in
    let below : i < 6 = omega arith in
    rw (square_of_power i)
    (newton_step c.args.m c.loop-i.inverse _ (2 ^ (2 ^ i)) (2 ^ (64 - 2 ^ (i + 1))) (2 ^ 64) (word_by_power i below) c.loop-i.invariant refl)
