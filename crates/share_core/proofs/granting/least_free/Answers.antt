use Rattle.std.proofs.Common.{◌≡◌, true, false, below_more, arith}
use Rattle.share_core.specs.Lists.{IsFree}
use Rattle.share_core.proofs.granting.least_free.Goals as goal

pub loop-index-preserved : goal.loop-index-preserved
loop-index-preserved g c =
    below_more (λ k. ¬ (IsFree c.args.lists.now k)) c.loop-index.index c.loop-index.invariant
    (λ h. let yes : c.is_free.result ≡ true = c.is_free.ensures.1 h in let no : c.is_free.result ≡ false = c.if-is_free.false in absurd (cc (yes, no)))

pub returns-clause-none : goal.returns-clause-none
returns-clause-none g c i below = c.loop-index.invariant i (omega (arith, below, c.loop-index-test.false))
