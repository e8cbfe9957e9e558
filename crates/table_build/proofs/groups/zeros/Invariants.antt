use Rattle.std.proofs.Common.{◌≡◌, ℕ, ◌-◌, ◌≤◌, [], length, get_or}
use Rattle.table_build.proofs.groups.zeros.Given as goal

abbrev pub invariant-loop-alloc : goal.invariant-loop-alloc
invariant-loop-alloc g l = record {
  few : length l.zeros.items ≤ l.count;
  zero : (i : ℕ) → get_or l.zeros.items i [] ≡ [];
}

abbrev pub decreases-loop-alloc : goal.decreases-loop-alloc
decreases-loop-alloc g l = l.count - length l.zeros.items
