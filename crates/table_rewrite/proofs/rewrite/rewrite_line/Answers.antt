use Rattle.std.proofs.Common.{◌≡◌, ◌≤◌, ℕ, sym, ap, subst, ◌∙◌, arith}
use Rattle.std.proofs.lemmas.Result.{IfOk-weaker}
use Rattle.column_order.specs.Columns.{ColumnList}
use Rattle.word_sums.specs.Terms.{coefficient_of}
use Rattle.zeta_expr.specs.LineMeaning.{means, IsMeaning}
use Rattle.table_rewrite.specs.declared.reply.Reply.{Reply}
use Rattle.table_rewrite.specs.Refusals.{IsRefusalOf}
use Rattle.table_rewrite.specs.Replies.{IsReply}
use Rattle.table_rewrite.proofs.AcceptedWords.{none_in_line}
use Rattle.table_rewrite.proofs.LineSums.{refusal_meant}
use Rattle.table_rewrite.proofs.rewrite.rewrite_line.Goals as goal

-- what is said of numbers holds of equal ones
carried : (P : ℕ → ℕ → Type 0) (w d w' d' : ℕ) → w ≡ w' → d ≡ d' → P w d → P w' d'
carried P w d w' d' e f p = subst (λ n. P n d') e (subst (P w) f p)

pub polynomial-requires-clause-words : goal.polynomial-requires-clause-words
polynomial-requires-clause-words g c t other =
    let r = g.met.R.Ring in
    let ring = c.args.table.now.ring in
    let columns = c.args.table.now.columns in
    let line = c.args.line.now in
    let sum = c.in-Ok.sum in
    let m = g.R.Ring.modulus ring in
    let weight = c.weight.ensures.weight ∙ ap (λ (cs : ColumnList). cs.weight) c.columns-columns.ensures.columns in
    let depth = c.depth.ensures.depth ∙ ap (λ (cs : ColumnList). cs.depth) c.columns-columns.ensures.columns in
    let meant = carried (λ w d. IsMeaning m w d line (means (coefficient_of
    (g.R.Ring.value ring) sum))) c.weight.result c.depth.result columns.weight columns.depth
    weight depth
    (subst (λ (u : g.row.R.Denot). IsMeaning (g.R.Ring.modulus u) c.weight.result c.depth.result line (means (coefficient_of (g.R.Ring.value u) sum)))
    c.ring.ensures c.in-Ok.ensures.means) in
    let some : 2 ≤ columns.weight = subst (λ n. 2 ≤ n) weight c.weight.ensures.least in
    none_in_line m columns.weight columns.depth line (coefficient_of (g.R.Ring.value ring) sum) t (omega (arith, some)) (omega (arith, r.modulus_from ring))
    meant other

pub returns-in_ok-polynomial-in-Ok : goal.returns-in_ok-polynomial-in-Ok
returns-in_ok-polynomial-in-Ok g c =
    let ring = c.args.table.now.ring in
    let columns = c.args.table.now.columns in
    let line = c.args.line.now in
    let sum = c.in-Ok.sum in
    let weight = c.weight.ensures.weight ∙ ap (λ (cs : ColumnList). cs.weight) c.columns-columns.ensures.columns in
    let depth = c.depth.ensures.depth ∙ ap (λ (cs : ColumnList). cs.depth) c.columns-columns.ensures.columns in (
      coefficient_of (g.R.Ring.value ring) sum,
      carried (λ w d. IsMeaning (g.R.Ring.modulus ring) w d line (means (coefficient_of (g.R.Ring.value ring) sum))) c.weight.result c.depth.result
          columns.weight columns.depth weight depth
          (subst (λ (u : g.row.R.Denot). IsMeaning (g.R.Ring.modulus u) c.weight.result c.depth.result line (means (coefficient_of (g.R.Ring.value u) sum)))
          c.ring.ensures c.in-Ok.ensures.means),
      c.in_ok-polynomial-in-Ok.ensures,
    )

pub returns-in-Err : goal.returns-in-Err
returns-in-Err g c =
    let ring = c.args.table.now.ring in
    let columns = c.args.table.now.columns in
    let line = c.args.line.now in
    let fault = c.in-Err.fault in
    let weight = c.weight.ensures.weight ∙ ap (λ (cs : ColumnList). cs.weight) c.columns-columns.ensures.columns in
    let depth = c.depth.ensures.depth ∙ ap (λ (cs : ColumnList). cs.depth) c.columns-columns.ensures.columns in
    let told = carried (λ w d. IsRefusalOf (g.R.Ring.modulus ring) w d line fault) c.weight.result c.depth.result columns.weight columns.depth weight depth
    (subst (λ (u : g.row.R.Denot). IsRefusalOf (g.R.Ring.modulus u) c.weight.result c.depth.result line fault) c.ring.ensures c.in-Err.ensures.refused) in
    IfOk-weaker c.refuse.result _ _
    (λ reply h. subst (λ (v : Reply). IsReply (g.R.Ring.modulus ring) (g.R.Ring.value ring) columns c.args.rows.now.rows line v) (sym h.0)
    (refusal_meant (g.R.Ring.modulus ring) columns.weight columns.depth line fault told h.1))
    c.refuse.ensures
