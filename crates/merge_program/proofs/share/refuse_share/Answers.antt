use Rattle.std.proofs.Common.{refl, subst, inr}
use Rattle.share_build.specs.Refusals.{IsBuildRefusal}
use Rattle.whole_runs.specs.Texts.{word_line, relation_line}
use Rattle.merge_program.specs.declared.status.MergeStatus.TheVariants as status
use Rattle.merge_program.specs.ShareRuns.IsRefusalLine.{at_word, at_relation}
use Rattle.merge_program.specs.Inner.HasRun.{ended}
use Rattle.merge_program.proofs.share.refuse_share.Goals as goal

pub returns-in-NoInverseWord : goal.returns-in-NoInverseWord
returns-in-NoInverseWord g c =
    let words = c.args.words.now in
    let value = c.in-NoInverseWord.value in
    let word = c.in-NoInverseWord.word in
    let refusal = subst (IsBuildRefusal words.params words.id) c.in-NoInverseWord.is c.requires.refusal in
    ended (word_line value word) status.NoInverse (inr (at_word value word refusal refl, refl)) c.refuse_word.ensures

pub returns-in-NoInverseRelation : goal.returns-in-NoInverseRelation
returns-in-NoInverseRelation g c =
    let words = c.args.words.now in
    let value = c.in-NoInverseRelation.value in
    let n = c.in-NoInverseRelation.n in
    let refusal = subst (IsBuildRefusal words.params words.id) c.in-NoInverseRelation.is c.requires.refusal in
    ended (relation_line value n) status.NoInverse (inr (at_relation value n refusal refl, refl)) c.refuse_relation.ensures
