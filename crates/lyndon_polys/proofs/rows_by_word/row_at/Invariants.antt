use Rattle.std.proofs.Common.{◌-◌, ◌≤◌, length}
use Rattle.lyndon_polys.proofs.Halving.{Between}
use Rattle.lyndon_polys.proofs.rows_by_word.row_at.Given as goal

abbrev pub invariant-loop-low : goal.invariant-loop-low
invariant-loop-low g l = record {
  within : l.high ≤ length l.rows;
  between : Between l.rows l.word l.low l.high;
}

abbrev pub decreases-loop-low : goal.decreases-loop-low
decreases-loop-low g l = l.high - l.low
