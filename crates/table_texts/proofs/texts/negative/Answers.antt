use Rattle.std.proofs.Common.{◌≡◌, ◌++◌, ◌∷◌, [], ◌<◌, ◌-◌, ℕ, ap, sym, subst, ◌∙◌}
use Rattle.std.specs.Prelude.{All}
use Rattle.std.proofs.lemmas.List.Elements.{All-tail}
use Rattle.std.proofs.lemmas.Result.{IfOk-weaker}
use Rattle.page_rows.specs.Written.{AreResidues}
use Rattle.whole_runs.specs.FileTexts.{negated}
use Rattle.table_texts.proofs.ShownTexts.{negated-next, negated-end, negated-residues, negative_below}
use Rattle.table_texts.proofs.texts.negative.Goals as goal

pub loop-pair-preserved : goal.loop-pair-preserved
loop-pair-preserved g c =
    let m = g.R.Ring.modulus c.args.ring.now in
    let e = c.in-Some.pair.now in
    let es = c.in-Some.behind.now in
    let done = c.loop-pair.negated.items in
    let begins : c.loop-pair.rest.now ≡ e ∷ es = c.in-Some.ensures.cases.0 in
    let P : ℕ × ℕ → Type 0 = λ d. d.1 < m in
    let pushed : c.push.new.self.items ≡ done ++ (e.0, m - e.1) ∷ [] =
    c.in_ok-push.ensures.items ∙ ap (λ k. done ++ (e.0, k - e.1) ∷ []) c.modulus.ensures in
    record {
      joined = negated-next m e es done _ _ pushed
          (subst (λ xs. done ++ negated m xs ≡ negated m c.args.pairs.now) begins c.loop-pair.invariant.joined);
      below = All-tail P e es (subst (All P) begins c.loop-pair.invariant.below);
    }

pub row_of_data-requires : goal.row_of_data-requires
row_of_data-requires g c =
    let m = g.R.Ring.modulus c.args.ring.now in
    let made = negated-end m c.loop-pair.rest.now _ _ c.in_default.ensures.cases c.loop-pair.invariant.joined in
    record { residues = subst (AreResidues (λ k. k) m) (sym (c.from_vec-data.ensures ∙ made)) (negated-residues m c.args.pairs.now c.requires) }

pub returns-clause-below : goal.returns-clause-below
returns-clause-below g c = λ high below.
    let m = g.R.Ring.modulus c.args.ring.now in
    let made = negated-end m c.loop-pair.rest.now _ _ c.in_default.ensures.cases c.loop-pair.invariant.joined in
    IfOk-weaker c.row_of_data.result _ _
    (λ row is. negative_below (g.R.Ring.value c.args.ring.now) m high row c.args.pairs.now (is ∙ c.from_vec-data.ensures ∙ made) below)
    c.row_of_data.ensures.written
