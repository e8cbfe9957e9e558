use Rattle.std.proofs.Common.{◌<◌, length, subst, arith}
use Rattle.zeta_model.specs.Sums.{single}
use Rattle.sparse_rows.specs.Entries.{AllIn}
use Rattle.linear_model.specs.Reduced.{IsNormalForm}
use Rattle.echelon.specs.Lists.{entries_of, lead_at, row_at}
use Rattle.table_model.specs.Complete.{IsPolynomial}
use Rattle.word_forms.proofs.FormColumns.{polynomial_below}
use Rattle.word_forms.proofs.forms.form_of_word.Goals as goal

pub returns : goal.returns
returns g c =
    let r = g.met.R.Ring in
    let ring = c.args.table.now.ring in
    let columns = c.args.table.now.columns in
    let rows = c.args.rows.now.rows in
    let row = c.in_ok-row.row in
    let form = c.in_ok-form.form in
    let value = g.R.Ring.value ring in
    let m = g.R.Ring.modulus ring in
    let pos : 0 < m = omega (arith, r.modulus_from ring) in
    let left = subst (λ (u : g.row.R.Denot). IsNormalForm (g.R.Ring.modulus u) (length rows) (lead_at rows) (row_at (g.R.Ring.value u) rows)
    (entries_of (g.R.Ring.value u) row) (entries_of (g.R.Ring.value u) form)) c.ring.ensures c.in_ok-form.ensures.ok in
    let in_ring = subst (λ (u : g.row.R.Denot). AllIn (g.R.Ring.has u) form) c.ring.ensures c.in_ok-form.ensures.in_ring in
    let polynomial : IsPolynomial m columns (length rows) (lead_at rows) (row_at value rows) (single c.args.word) (entries_of value form) = record { cols = entries_of value row; is_cols = c.in_ok-row.ensures.cols; left = left } in
    record {
      below = polynomial_below value (g.R.Ring.has ring) g.R.Ring.zero m (r.has_zero ring) (r.value_zero ring) (r.value_below ring) (r.value_injective ring)
          columns rows (single c.args.word) form pos c.requires.columns polynomial c.entries.ensures.row in_ring;
      in_ring = in_ring;
      polynomial = polynomial;
    }
