use Rattle.std.proofs.Common.{◌≡◌, ℕ, List, [], length, sym, ◌∙◌, subst}
use Rattle.std.proofs.lemmas.Bool.{eqb-true}
use Rattle.std.specs.Prelude.{IfSome}
use Rattle.word_sums.specs.Terms.{coefficient_of}
use Rattle.column_order.specs.Columns.{ColumnList}
use Rattle.echelon.specs.Lists.{entries_of, lead_at, row_at}
use Rattle.table_model.specs.Conversion.{IsTable, IsTableSum}
use Rattle.table_model.specs.Complete.{IsPolynomial}
use Rattle.word_forms.specs.Forms.{AreForms}
use Rattle.known_sums.specs.Known.{HasForms}
use Rattle.known_sums.proofs.KnownLaws.{no_items, adds_nothing}
use Rattle.known_sums.proofs.known_sums.KnownSums.passes.Goals as goal

pub returns : goal.returns
returns g c = record {
  passes = λ nothing kept knows within.
      let t = c.args.table.now in
      let m = g.R.Ring.modulus t.ring in
      let has = g.R.Ring.has t.ring in
      let value = g.R.Ring.value t.ring in
      let k = c.in-Some.known in
      let f = k.forms in
      let left = c.in_ok-left.left in
      let sum = c.args.sum.now in
      let known : HasForms m has value t kept k.rows f = subst (λ o. IfSome o (λ x. HasForms m has value t kept x.rows x.forms)) c.in-Some.is knows in
      let none : left ≡ [] =
      sym c.entries.ensures.entries ∙ no_items c.entries.result.now (eqb-true (length c.entries.result.now) 0 (sym c.is_empty.ensures ∙ nothing)) in
      let Says = λ (u : g.row.R.Denot) (cs : ColumnList).
      (rows : List (List (ℕ × g.row.R-Elem.Denot))) → IsTable (g.R.Ring.modulus u) cs
      → AreForms (g.R.Ring.modulus u) (g.R.Ring.has u) (g.R.Ring.value u) cs rows f.forms
      → IsTableSum (g.R.Ring.modulus u) cs (coefficient_of (g.R.Ring.value u) sum)
      → IsPolynomial (g.R.Ring.modulus u) cs (length rows) (lead_at rows) (row_at (g.R.Ring.value u) rows) (coefficient_of (g.R.Ring.value u) sum)
      (entries_of (g.R.Ring.value u) left) in
      let told : Says t.ring t.columns =
      subst (λ cs. Says t.ring cs) c.columns.ensures.columns (subst (λ u. Says u c.columns.result.now) known.ring c.in_ok-left.ensures.polynomial) in
      adds_nothing m has value t kept k.rows f known sum c.columns.ensures.table c.columns.ensures.converts within left none told;
}
