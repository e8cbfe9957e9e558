use Rattle.std.proofs.Common.{true}
use Rattle.std.specs.Prelude.{codes}
use Rattle.std.proofs.lemmas.Result.{err_from_is_err_and, on_ok_weaker, on_err_weaker}
use Rattle.outside_io.proofs.Telling.{both_taken, front_more, front_of}
use Rattle.zeta_model.specs.Indices.{index_of}
use Rattle.written_lines.specs.Inner.{numbers_text}
use Rattle.written_lines.proofs.no_inverse.write_at_word.Goals as goal

pub returns-in_err-write_all-clause-err : goal.returns-in_err-write_all-clause-err
returns-in_err-write_all-clause-err g c =
    let p = err_from_is_err_and c.from_residual.result c.from_residual.ensures.1 in
    rw p.1 (front_of _ _ (codes " at word z(") (numbers_text true (index_of c.args.word)) c.in_err-write_all.ensures.err)

pub returns-clause-ok : goal.returns-clause-ok
returns-clause-ok g c = on_ok_weaker c.write_numbers.result
    (both_taken _ _ _ (codes " at word z(") (numbers_text true (index_of c.args.word)) c.in_ok-write_all.ensures.ok) c.write_numbers.ensures.ok

pub returns-clause-err : goal.returns-clause-err
returns-clause-err g c = on_err_weaker c.write_numbers.result
    (front_more _ _ _ (codes " at word z(") (numbers_text true (index_of c.args.word)) c.in_ok-write_all.ensures.ok) c.write_numbers.ensures.err
