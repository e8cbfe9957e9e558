use Rattle.std.proofs.Common.{◌++◌, ap, subst, ◌∙◌}
use Rattle.std.specs.Prelude.{codes, decimal}
use Rattle.std.proofs.lemmas.Result.{err_from_is_err_and, on_ok_weaker, on_err_weaker}
use Rattle.outside_io.specs.Told.{after_told, AppendsFront}
use Rattle.outside_io.proofs.Telling.{both_taken, front_more, front_of}
use Rattle.written_lines.specs.Inner.{at_word}
use Rattle.written_lines.proofs.WrittenLines.{word_line-pieces}
use Rattle.written_lines.proofs.no_inverse.write_word.Goals as goal

pub returns-in_err-write_begun-clause-err : goal.returns-in_err-write_begun-clause-err
returns-in_err-write_begun-clause-err g c =
    let p = err_from_is_err_and c.from_residual.result c.from_residual.ensures.1 in
    rw p.1 (subst (AppendsFront (g.K.Sink.taken c.args.sink.now) (g.K.Sink.taken c.write_begun.new.sink)) (word_line-pieces c.args.value c.args.word)
    (front_of _ _ (codes "no inverse: " ++ decimal c.args.value) (at_word c.args.word) c.in_err-write_begun.ensures.err))

pub returns-clause-ok : goal.returns-clause-ok
returns-clause-ok g c = on_ok_weaker c.write_at_word.result
    (λ e. both_taken _ _ _ (codes "no inverse: " ++ decimal c.args.value) (at_word c.args.word) c.in_ok-write_begun.ensures.ok e
    ∙ ap (after_told (g.K.Sink.taken c.args.sink.now)) (word_line-pieces c.args.value c.args.word)) c.write_at_word.ensures.ok

pub returns-clause-err : goal.returns-clause-err
returns-clause-err g c = on_err_weaker c.write_at_word.result
    (λ f. subst (AppendsFront (g.K.Sink.taken c.args.sink.now) (g.K.Sink.taken c.write_at_word.new.sink)) (word_line-pieces c.args.value c.args.word)
    (front_more _ _ _ (codes "no inverse: " ++ decimal c.args.value) (at_word c.args.word) c.in_ok-write_begun.ensures.ok f)) c.write_at_word.ensures.err
