use Rattle.std.proofs.Common.{subst, sym, ◌∙◌, rules}
use Rattle.std.specs.Prelude.{Contains, IfSome, IfNone}
use Rattle.std.specs.Map.{keys_of}
use Rattle.lyndon_polys.proofs.Halving.{at_guess}
use Rattle.lyndon_polys.proofs.rows_by_word.WordRows.find.Goals as goal

pub returns-then-eq-clause-some : goal.returns-then-eq-clause-some
returns-then-eq-clause-some g c =
    subst (λ rows. Contains rows (c.args.word, c.index-row.result.now.1)) c.self.view_is
    (at_guess c.self.inside.rows.items c.args.word c.match-get.place c.index-row.result.now c.index-row.ensures (search rules)
    (sym c.eq.ensures ∙ c.if-eq.true))

pub returns-clause-some : goal.returns-clause-some
returns-clause-some g c =
    subst (λ rows. IfSome c.row_at.result (λ row. Contains rows (c.args.word, row.now))) (c.deref-2.ensures.value ∙ c.self.view_is) c.row_at.ensures.some

pub returns-clause-none : goal.returns-clause-none
returns-clause-none g c =
    subst (λ rows. IfNone c.row_at.result (¬ (Contains (keys_of rows) c.args.word))) (c.deref-2.ensures.value ∙ c.self.view_is) c.row_at.ensures.none
