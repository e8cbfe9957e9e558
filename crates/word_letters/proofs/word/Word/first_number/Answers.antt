use Rattle.std.proofs.Common.{◌+◌, ◌∷◌, drop, sym, ◌∙◌, add-one}
use Rattle.zeta_model.specs.Words.{ends_with_y, has_index}
use Rattle.zeta_model.specs.Indices.{index_from}
use Rattle.word_letters.proofs.Indices.{index-step_x, index-step_y}
use Rattle.word_letters.proofs.IndexTexts.{ends-behind_x, index-behind_y}
use Rattle.word_letters.proofs.word.Word.first_number.Goals as goal

pub returns-in-Y-clause-first : goal.returns-in-Y-clause-first
returns-in-Y-clause-first c =
    let w = c.args.self in
    let i = c.loop-i.i in
    sym c.loop-i.invariant.read ∙ index-step_y (i + 1) i w c.in-Y.ensures ∙ (λ k. (i + 1) ∷ index_from 1 (drop (sym (add-one i) k) w))

pub returns-in-Y-clause-rest : goal.returns-in-Y-clause-rest
returns-in-Y-clause-rest c =
    (λ k. has_index (drop (add-one c.loop-i.i k) c.args.self)) ∙ index-behind_y c.loop-i.i c.args.self c.in-Y.ensures c.loop-i.invariant.ends

pub loop-i-preserved : goal.loop-i-preserved
loop-i-preserved c =
    let w = c.args.self in
    let i = c.loop-i.i in
    record {
      ends = (λ k. ends_with_y (drop (add-one i k) w)) ∙ ends-behind_x i w c.in-X.ensures c.loop-i.invariant.ends;
      read = (λ k. index_from (i + 1 + 1) (drop (add-one i k) w)) ∙ sym (index-step_x (i + 1) i w c.in-X.ensures) ∙ c.loop-i.invariant.read;
    }
