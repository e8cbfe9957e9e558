use Rattle.std.proofs.Common.{◌-◌, ◌++◌, sym, ◌∙◌, arith}
use Rattle.word_letters.specs.Inner.{words_behind}
use Rattle.word_letters.proofs.AdmissibleWords.{admissible_within-small, admissible_within-behind}
use Rattle.word_letters.proofs.admissible.admissible_words.Goals as goal

pub returns-then-weight-lt2 : goal.returns-then-weight-lt2
returns-then-weight-lt2 c = c.new-words.ensures.items ∙ sym (admissible_within-small c.args.weight c.args.depth (omega arith))

pub returns : goal.returns
returns c = c.in_ok-push_behind.ensures ∙ (λ i. c.new-words.ensures.items i ++ words_behind (c.of.ensures i) (c.args.weight - 1) c.args.depth)
    ∙ sym (admissible_within-behind c.args.weight c.args.depth (omega arith))
