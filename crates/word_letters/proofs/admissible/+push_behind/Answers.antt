use Rattle.std.proofs.Common.{◌++◌, sym, ap, ◌∙◌, arith}
use Rattle.std.proofs.lemmas.List.{append-nil}
use Rattle.word_letters.specs.Inner.{words_behind}
use Rattle.word_letters.proofs.AdmissibleWords.{words_behind-none, words_behind-last, words_behind-made}
use Rattle.word_letters.proofs.admissible.+push_behind.Goals as goal

pub returns-then-depth-eq0 : goal.returns-then-depth-eq0
returns-then-depth-eq0 t c =
    let none = ap (words_behind c.args.front c.args.more) c.if-depth-eq0.true ∙ words_behind-none c.args.front c.args.more in
    sym (append-nil c.args.words.now.items) ∙ ap (λ ws. c.args.words.now.items ++ ws) (sym none)

pub returns-then-more-eq1 : goal.returns-then-more-eq1
returns-then-more-eq1 t c =
    words_behind-last c.args.words.now.items _ c.args.front _ c.args.more c.args.depth c.if-more-eq1.true (omega arith)
    c.with_last-with_y.ensures c.in_ok-push.ensures.items

pub returns : goal.returns
returns t c =
    words_behind-made c.args.words.now.items _ _ c.args.front _ _ c.args.more c.args.depth (omega arith) (omega arith)
    c.with_last.ensures c.with_last-with_y.ensures c.in_ok-push_behind.ensures c.in_ok-push_behind-2.ensures
