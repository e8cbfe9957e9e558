use Rattle.std.proofs.Common.{arith}
use Rattle.column_order.proofs.Preferring.{filled-push}
use Rattle.column_order.proofs.preferred.Preferred.push.Goals as goal

pub invariant_of-self : goal.invariant_of-self
invariant_of-self c =
    filled-push c.self.inside.words c.self.inside.count c.args.w c.self.invariant (omega (arith, c.self.invariant.few, c.if-self-eq-MAX_PREFERRED.false))
