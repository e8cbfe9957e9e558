use Rattle.std.proofs.Common.{◌≡◌, ◌+◌, length}
use Rattle.std.specs.List.{All}
use Rattle.linear_model.specs.Rows.{combination, SameRow}
use Rattle.row_sums.specs.Totals.{total_at}
use Rattle.echelon.specs.Lists.{row_at}
use Rattle.echelon.specs.Offers.{used_at}
use Rattle.table_build.proofs.totals.add_used.Given as goal

abbrev pub invariant-loop-i : goal.invariant-loop-i
invariant-loop-i g l = record {
  len : length l.sum ≡ length l.initial.sum;
  is_sum : All (g.R.Ring.is_sum l.ring) l.sum;
  same : SameRow (g.R.Ring.modulus l.ring) (total_at (g.R.Ring.total l.ring) l.sum) (λ q. total_at (g.R.Ring.total l.ring) l.initial.sum q
      + combination l.i (row_at (g.R.Ring.value l.ring) l.combinations) (used_at (g.R.Ring.value l.ring) l.numbers l.uses) q);
}
