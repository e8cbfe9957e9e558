use Rattle.std.proofs.Common.{false, ◌∷◌, drop, sym, ap, subst, ◌∙◌}
use Rattle.std.proofs.lemmas.Result.{err_from_is_err_and, on_err_weaker}
use Rattle.outside_io.specs.Told.{AppendsFront}
use Rattle.outside_io.proofs.Telling.{front_more, front_of}
use Rattle.word_letters.specs.Inner.{part_text}
use Rattle.zeta_model.specs.Indices.{index_of}
use Rattle.written_lines.specs.Inner.{numbers_text}
use Rattle.written_lines.proofs.WrittenLines.{numbers_text-next}
use Rattle.written_lines.proofs.no_inverse.+write_numbers.Goals as goal

pub returns-in_err-write_part-clause-err : goal.returns-in_err-write_part-clause-err
returns-in_err-write_part-clause-err g t c =
    let k = c.first_number-k.result in
    let rest = drop k c.args.word in
    let p = err_from_is_err_and c.from_residual.result c.from_residual.ensures.1 in
    rw p.1 (subst (AppendsFront (g.K.Sink.taken c.args.sink.now) (g.K.Sink.taken c.write_part.new.sink))
    (numbers_text-next c.args.first k c.args.word rest c.first_number-k.ensures.first)
    (front_of _ _ (part_text c.args.first k) (numbers_text false (index_of rest)) c.in_err-write_part.ensures.err))

pub returns-clause-err : goal.returns-clause-err
returns-clause-err g t c =
    let k = c.first_number-k.result in
    let rest = c.without_front.result in
    on_err_weaker c.write_numbers.result
    (λ f. subst (AppendsFront (g.K.Sink.taken c.args.sink.now) (g.K.Sink.taken c.write_numbers.new.sink))
    (numbers_text-next c.args.first k c.args.word rest (c.first_number-k.ensures.first ∙ ap (λ w. k ∷ index_of w) (sym c.without_front.ensures)))
    (front_more _ _ _ (part_text c.args.first k) (numbers_text false (index_of rest)) c.in_ok-write_part.ensures.ok f)) c.write_numbers.ensures.err
