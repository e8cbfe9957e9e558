use Rattle.std.proofs.Common.{List, ℕ, [], ◌∷◌, ◌++◌, ap, subst, ◌∙◌, append_assoc}
use Rattle.std.specs.Prelude.{decimal}
use Rattle.std.proofs.lemmas.Result.{err_from_is_err_and, on_ok_weaker, on_err_weaker}
use Rattle.outside_io.specs.Told.{after_told, AppendsFront}
use Rattle.outside_io.proofs.Telling.{both_taken, front_more, front_of}
use Rattle.written_lines.proofs.pieces.write_two.Goals as goal

abbrev behind : List ℕ → ℕ → List ℕ
behind second b = second ++ (decimal b ++ 10 ∷ [])

pub returns-in_err-write_begun-clause-err : goal.returns-in_err-write_begun-clause-err
returns-in_err-write_begun-clause-err g c =
    let first = c.args.first.now in
    let p = err_from_is_err_and c.from_residual.result c.from_residual.ensures.1 in
    rw p.1 (subst (AppendsFront (g.K.Sink.taken c.args.sink.now) (g.K.Sink.taken c.write_begun.new.sink))
    (append_assoc first (decimal c.args.a) (behind c.args.second.now c.args.b))
    (front_of _ _ (first ++ decimal c.args.a) (behind c.args.second.now c.args.b) c.in_err-write_begun.ensures.err))

pub returns-clause-ok : goal.returns-clause-ok
returns-clause-ok g c =
    let first = c.args.first.now in
    let rest = behind c.args.second.now c.args.b in
    on_ok_weaker c.write_number.result
    (λ e. both_taken _ _ _ (first ++ decimal c.args.a) rest c.in_ok-write_begun.ensures.ok e
    ∙ ap (after_told (g.K.Sink.taken c.args.sink.now)) (append_assoc first (decimal c.args.a) rest)) c.write_number.ensures.ok

pub returns-clause-err : goal.returns-clause-err
returns-clause-err g c =
    let first = c.args.first.now in
    let rest = behind c.args.second.now c.args.b in
    on_err_weaker c.write_number.result
    (λ f. subst (AppendsFront (g.K.Sink.taken c.args.sink.now) (g.K.Sink.taken c.write_number.new.sink)) (append_assoc first (decimal c.args.a) rest)
    (front_more _ _ _ (first ++ decimal c.args.a) rest c.in_ok-write_begun.ensures.ok f)) c.write_number.ensures.err
