use Rattle.std.proofs.Common.{◌++◌, ◌∷◌, [], subst, List, ℕ, ◌∙◌}
use Rattle.std.proofs.lemmas.Result.{on_err_weaker}
use Rattle.outside_io.specs.Told.{AppendsFront}
use Rattle.outside_io.proofs.Telling.{front_more}
use Rattle.written_lines.proofs.pieces.write_number.Goals as goal

pub returns-clause-err : goal.returns-clause-err
returns-clause-err g c =
    let digits = c.as_bytes.ensures.value ∙ c.format.ensures.text in
    on_err_weaker c.write_both.result
    (λ f. subst (λ (ds : List ℕ). AppendsFront (g.K.Sink.taken c.args.sink.now) (g.K.Sink.taken c.write_both.new.sink)
    (c.args.text.now ++ (ds ++ 10 ∷ []))) digits
    (front_more _ _ _ c.args.text.now _ c.in_ok-write_all.ensures.ok f))
    c.write_both.ensures.err
