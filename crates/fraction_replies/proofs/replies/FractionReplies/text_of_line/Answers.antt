use Rattle.std.proofs.Common.{◌≡◌, ℕ, ap, subst, ◌∙◌}
use Rattle.std.proofs.lemmas.Result.{IfOk-weaker}
use Rattle.column_order.specs.Columns.{ColumnList}
use Rattle.word_sums.specs.Terms.{coefficient_of}
use Rattle.zeta_expr.specs.LineMeaning.{means, refused, IsMeaning}
use Rattle.echelon.specs.Lists.{row_at}
use Rattle.table_rewrite.specs.Refusals.{IsRefusalOf}
use Rattle.table_rewrite.proofs.LineSums.{refusal_meant}
use Rattle.fraction_replies.specs.Forms.{FractionForms}
use Rattle.fraction_replies.proofs.TextSteps.{answered_line}
use Rattle.fraction_replies.proofs.replies.FractionReplies.text_of_line.Goals as goal

-- what is said of a ring and two numbers holds of equal ones
carried : {R : Type 0} (P : R → ℕ → ℕ → Type 0) (r r' : R) (w w' d d' : ℕ) → r ≡ r' → w ≡ w' → d ≡ d' → P r w d → P r' w' d'
carried P r r' w w' d d' e f h p = subst (λ n. P r' w' n) h (subst (λ n. P r' n d) f (subst (λ u. P u w d) e p))

pub returns-in-Ok : goal.returns-in-Ok
returns-in-Ok g c =
    let replies = c.args.self.now in
    let line = c.args.line.now in
    let sum = c.in-Ok.sum in
    let ring_is = c.ring.ensures ∙ ap (λ (v : FractionForms g.row.R.Denot g.row.R-Elem.Denot). v.ring) c.self.view_is in
    let columns_is = c.columns-columns.ensures.columns ∙ ap (λ (v : FractionForms g.row.R.Denot g.row.R-Elem.Denot). v.columns) c.self.view_is in
    let weight = c.weight.ensures.weight ∙ ap (λ (cs : ColumnList). cs.weight) columns_is in
    let depth = c.depth.ensures.depth ∙ ap (λ (cs : ColumnList). cs.depth) columns_is in
    let meant = carried (λ (u : g.row.R.Denot) w d. IsMeaning (g.R.Ring.modulus u) w d line (means (coefficient_of (g.R.Ring.value u) sum)))
    c.ring.result.now replies.ring c.weight.result replies.columns.weight c.depth.result replies.columns.depth ring_is weight depth c.in-Ok.ensures.means in
    IfOk-weaker c.text_of_sum.result _ _
    (λ text is. is
    ∙ answered_line (g.R.Ring.modulus replies.ring) replies.columns (row_at (g.R.Ring.value replies.ring) replies.forms) line
    (means (coefficient_of (g.R.Ring.value replies.ring) sum)) meant)
    c.text_of_sum.ensures

pub returns-in-Err : goal.returns-in-Err
returns-in-Err g c =
    let replies = c.args.self.now in
    let line = c.args.line.now in
    let fault = c.in-Err.fault in
    let ring_is = c.ring.ensures ∙ ap (λ (v : FractionForms g.row.R.Denot g.row.R-Elem.Denot). v.ring) c.self.view_is in
    let columns_is = c.columns-columns.ensures.columns ∙ ap (λ (v : FractionForms g.row.R.Denot g.row.R-Elem.Denot). v.columns) c.self.view_is in
    let weight = c.weight.ensures.weight ∙ ap (λ (cs : ColumnList). cs.weight) columns_is in
    let depth = c.depth.ensures.depth ∙ ap (λ (cs : ColumnList). cs.depth) columns_is in
    let told = carried (λ (u : g.row.R.Denot) w d. IsRefusalOf (g.R.Ring.modulus u) w d line fault)
    c.ring.result.now replies.ring c.weight.result replies.columns.weight c.depth.result replies.columns.depth ring_is weight depth c.in-Err.ensures.refused in
    IfOk-weaker c.text_of_refusal.result _ _
    (λ text is. is.0
    ∙ answered_line (g.R.Ring.modulus replies.ring) replies.columns (row_at (g.R.Ring.value replies.ring) replies.forms) line (refused fault)
    (refusal_meant (g.R.Ring.modulus replies.ring) replies.columns.weight replies.columns.depth line fault told is.1))
    c.text_of_refusal.ensures
