use Rattle.std.proofs.Common.{◌≡◌, ℕ, ◌<◌}
use Rattle.echelon.specs.Lists.{row_at}
use Rattle.table_model.specs.Complete.{Evaluates}
use Rattle.cert_checker.specs.Inner.{AreValues}
use Rattle.cert_checker.proofs.rows_check.first_bad_row.Given as goal

abbrev pub invariant-loop-i : goal.invariant-loop-i
invariant-loop-i g l = record {
  same_ring : l.products.ring ≡ l.ring;
  values : AreValues (g.R.Ring.modulus l.ring) (g.R.Ring.has l.ring) (g.R.Ring.value l.ring) l.columns l.names l.values.items;
  earlier : (k : ℕ) → k < l.i
      → Evaluates (g.R.Ring.modulus l.ring) l.columns (row_at (g.R.Ring.value l.ring) l.rows k) (row_at (g.R.Ring.value l.ring) l.combinations k);
}
