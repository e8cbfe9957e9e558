use Rattle.std.proofs.Common.{◌≡◌, ◌-◌, ◌<◌, ◌≤◌, ℕ, Some, length, slice_get}
use Rattle.column_order.specs.Inner.{monomials_of}
use Rattle.column_order.proofs.columns.Columns.search.Given as goal

abbrev pub invariant-loop-low : goal.invariant-loop-low
invariant-loop-low l = record {
  within : l.high ≤ length l.self-inside.columns.items;
  place : (i : ℕ) × (l.low ≤ i) × (i < l.high) × (slice_get (monomials_of l.self-inside.columns.items) i ≡ Some l.p);
}

abbrev pub decreases-loop-low : goal.decreases-loop-low
decreases-loop-low l = l.high - l.low
