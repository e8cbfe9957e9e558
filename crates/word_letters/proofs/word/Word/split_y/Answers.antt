use Rattle.std.proofs.Common.{◌++◌, drop, sym, ◌∙◌, add-one}
use Rattle.zeta_model.specs.Regularise.{y_word}
use Rattle.word_letters.proofs.IndexTexts.{y-split}
use Rattle.word_letters.proofs.word.Word.split_y.Goals as goal

pub loop-i-preserved : goal.loop-i-preserved
loop-i-preserved c =
    let w = c.args.self in
    y-split c.loop-i.i w c.in-Y.ensures c.loop-i.invariant ∙ (λ k. y_word (sym (add-one c.loop-i.i) k) ++ drop (sym (add-one c.loop-i.i) k) w)
