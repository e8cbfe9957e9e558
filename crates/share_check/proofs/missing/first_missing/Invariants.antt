use Rattle.std.proofs.Common.{◌≡◌, ℕ, ◌<◌, length}
use Rattle.echelon.specs.Lists.{lead_at, row_at}
use Rattle.share_model.specs.Dealing.{LeavesNothingOfShare}
use Rattle.share_check.proofs.missing.first_missing.Given as goal

abbrev pub invariant-loop-n : goal.invariant-loop-n
invariant-loop-n g l = record {
  same_ring : l.products.ring ≡ l.table.ring;
  earlier : (k : ℕ) → k < l.n → LeavesNothingOfShare (g.R.Ring.modulus l.table.ring) l.table.columns l.id.index l.id.of (length l.list.rows)
      (lead_at l.list.rows) (row_at (g.R.Ring.value l.table.ring) l.list.rows) k;
}
