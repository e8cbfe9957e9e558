use Rattle.std.proofs.Common.{[], sym, ◌∙◌, subst}
use Rattle.std.proofs.lemmas.Bool.{false≢true}
use Rattle.std.proofs.lemmas.List.{get_or_default}
use Rattle.share_check.specs.Inner.{AreOfShare}
use Rattle.share_check.proofs.share_numbers.first_foreign.Goals as goal

pub returns-then-not-is_of_share : goal.returns-then-not-is_of_share
returns-then-not-is_of_share g c =
    let there = c.index-combinations-i.is ∙ get_or_default c.args.combinations.now c.loop-i.i c.index-combinations-i.result [] c.loop-i-test.true in
    record {
      below = c.loop-i-test.true;
      lacks = λ all.
          absurd (false≢true (sym c.if-not-is_of_share.true ∙ c.is_of_share.ensures.1 (subst (AreOfShare c.args.id.index c.args.id.of) (sym there) all)));
      earlier = c.loop-i.invariant;
    }
