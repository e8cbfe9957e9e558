use Rattle.std.proofs.Common.{arith}
use Rattle.share_core.specs.declared.events.Answer.TheVariants.{Freed}
use Rattle.share_core.proofs.ListFacts.{length-granted}
use Rattle.share_core.proofs.KeptLists.{granted_kept, delivered_kept, lose_keeps}
use Rattle.share_core.proofs.coordinator.Coordinator.step.Goals as goal

pub invariant_of-self : goal.invariant_of-self
invariant_of-self g c =
    granted_kept c.self.inside.setting c.self.inside.lists c.grant.new.lists c.of-of.result c.in-Grant.worker c.grant.result c.self.invariant
    c.of-of.ensures.of c.grant.ensures.ok c.grant.ensures.err

pub invariant_of-self-in-Deliver : goal.invariant_of-self-in-Deliver
invariant_of-self-in-Deliver g c =
    delivered_kept (g.R.Ring.value c.self.inside.setting.table.ring) c.self.inside.setting c.self.inside.lists c.deliver.new.lists c.in-Deliver.share
    c.deliver.result c.self.invariant c.deliver.ensures.ok c.deliver.ensures.err

pub lose-requires : goal.lose-requires
lose-requires g c =
    let few = length-granted c.self.inside.setting.of c.self.inside.lists.granted c.self.invariant.below c.self.invariant.granted_apart in
    omega (arith, few, c.of-of.ensures.of, c.of-of.ensures.few)

pub invariant_of-self-in-Lose : goal.invariant_of-self-in-Lose
invariant_of-self-in-Lose g c =
    lose_keeps c.self.inside.setting c.self.inside.lists c.in-Lose.worker (Freed c.lose.result) c.lose.new.lists c.self.invariant c.lose.ensures
