use Rattle.std.proofs.Common.{◌≡◌, ℕ, ◌%◌, List, ◌∙◌, ap, subst}
use Rattle.word_sums.specs.Terms.{coefficient_of}
use Rattle.echelon.specs.Lists.{row_at}
use Rattle.lyndon_polys.specs.Tables.{entries_of}
use Rattle.table_model.specs.Computed.{cols_by}
use Rattle.word_forms.specs.Forms.{RingForms}
use Rattle.word_forms.proofs.FormLists.{sum_form}
use Rattle.word_forms.proofs.word_forms.WordForms.row_of_sum.Goals as goal

pub returns-clause-entries : goal.returns-clause-entries
returns-clause-entries g c =
    let forms = c.args.self.now in
    let list = c.args.columns.now.list in
    let Says = λ (u : g.row.R.Denot) (fs : List (List (ℕ × g.row.R-Elem.Denot))). (q : ℕ) → entries_of (g.R.Ring.value u) c.in_ok-row.row q
    ≡ cols_by list (row_at (g.R.Ring.value u) fs) (coefficient_of (g.R.Ring.value u) c.args.sum.now) q % g.R.Ring.modulus u in
    let ring_is = ap (λ (v : RingForms g.row.R.Denot g.row.R-Elem.Denot). v.ring) c.self.view_is in
    let forms_is = c.deref-2.ensures.value ∙ ap (λ (v : RingForms g.row.R.Denot g.row.R-Elem.Denot). v.forms) c.self.view_is in
    subst (λ u. Says u forms.forms) ring_is (subst (λ fs. Says c.self.inside.ring fs) forms_is c.in_ok-row.ensures.entries)

pub returns-clause-polynomial : goal.returns-clause-polynomial
returns-clause-polynomial g c = λ rows table are within.
    let ring = c.args.self.now.ring in
    sum_form (g.R.Ring.modulus ring) (g.R.Ring.has ring) (g.R.Ring.value ring) c.args.columns.now rows c.args.self.now.forms table are
    (coefficient_of (g.R.Ring.value ring) c.args.sum.now) within _ (returns-clause-entries g c)
