use Rattle.std.proofs.Common.{◌≡◌, ℕ, ◌%◌, List, sym, ap, subst, ◌∙◌}
use Rattle.sparse_rows.specs.Entries.{AllIn}
use Rattle.lyndon_polys.specs.Tables.{entries_of}
use Rattle.std.specs.Prelude.{string_bytes}
use Rattle.std.proofs.lemmas.Result.{IfOk-weaker}
use Rattle.column_order.specs.Columns.{ColumnList}
use Rattle.word_sums.specs.Terms.{coefficient_of}
use Rattle.table_model.specs.Computed.{cols_by}
use Rattle.echelon.specs.Lists.{row_at}
use Rattle.fraction_replies.specs.Forms.{FractionForms, fractions_of}
use Rattle.fraction_replies.proofs.TextSteps.{text_of_residues}
use Rattle.fraction_replies.proofs.replies.FractionReplies.text_of_sum.Goals as goal

pub returns : goal.returns
returns g c =
    let r = g.met.R.Ring in
    let ring = c.ring.result.now in
    let columns = c.columns-columns.result.now in
    let words = c.self.inside.forms in
    let form = c.in_ok-form.form in
    let sum = c.args.sum.now in
    let ring_is = c.ring.ensures ∙ ap (λ (v : FractionForms g.row.R.Denot g.row.R-Elem.Denot). v.ring) c.self.view_is in
    let columns_is = c.columns-columns.ensures.columns ∙ ap (λ (v : FractionForms g.row.R.Denot g.row.R-Elem.Denot). v.columns) c.self.view_is in
    let forms_is = ap (λ (v : FractionForms g.row.R.Denot g.row.R-Elem.Denot). v.forms) c.self.view_is in
    let one_ring = c.self.invariant.0 ∙ sym c.ring.ensures in
    let residue = λ (u : g.row.R.Denot) (cs : ColumnList) (fs : List (List (ℕ × g.row.R-Elem.Denot))) (col : ℕ).
    cols_by cs.list (row_at (g.R.Ring.value u) fs) (coefficient_of (g.R.Ring.value u) sum) col % g.R.Ring.modulus u in
    let in_ring = subst (λ u. AllIn (g.R.Ring.has u) form) one_ring c.in_ok-form.ensures.in_ring in
    let entries = subst (λ u. (q : ℕ) → entries_of (g.R.Ring.value u) form q ≡ residue u columns words.forms q) one_ring c.in_ok-form.ensures.entries in
    IfOk-weaker c.print_fractions.result _ _
    (λ text printed.
    text_of_residues g.R.Ring.zero (g.R.Ring.has ring) (g.R.Ring.value ring) (g.R.Ring.modulus ring) (r.modulus_from ring) (r.value_zero ring)
    (r.has_zero ring) (r.value_below ring) (r.value_injective ring) columns form (residue ring columns words.forms) (string_bytes text)
    c.in_ok-form.ensures.row c.in_ok-form.ensures.below in_ring entries printed
    ∙ (λ i. fractions_of (g.R.Ring.modulus (ring_is i)) (columns_is i) (residue (ring_is i) (columns_is i) (forms_is i))))
    c.print_fractions.ensures
