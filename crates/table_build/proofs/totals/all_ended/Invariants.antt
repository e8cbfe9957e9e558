use Rattle.std.proofs.Common.{◌≡◌, ℕ, ◌+◌, ◌<◌, [], length, get_or}
use Rattle.linear_model.specs.Rows.{SameRow}
use Rattle.row_sums.specs.Totals.{total_at}
use Rattle.echelon.specs.Lists.{row_at}
use Rattle.echelon.specs.States.{AllIns}
use Rattle.table_build.proofs.totals.all_ended.Given as goal

abbrev pub invariant-loop-j : goal.invariant-loop-j
invariant-loop-j g l = record {
  count : length l.ended.items ≡ l.j;
  in_ring : AllIns (g.R.Ring.has l.ring) l.ended.items;
  made : (k : ℕ) → k < length l.ended.items → SameRow (g.R.Ring.modulus l.ring) (row_at (g.R.Ring.value l.ring) l.ended.items k)
      (λ q. row_at (g.R.Ring.value l.ring) l.starts k q + total_at (g.R.Ring.total l.ring) (get_or l.sums k []) q);
}
