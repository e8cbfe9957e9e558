use Rattle.std.proofs.Common.{◌++◌, ◌∷◌, [], ◌∙◌, ap}
use Rattle.lyndon_polys.proofs.rows_by_word.WordRows.push.Goals as goal

pub returns : goal.returns
returns g c = c.in_ok-push.ensures.items ∙ ap (λ rows. rows ++ (c.args.word, c.args.row) ∷ []) c.self.view_is
