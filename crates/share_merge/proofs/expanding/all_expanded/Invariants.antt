use Rattle.std.proofs.Common.{◌≡◌, ℕ, ◌<◌, [], length, get_or}
use Rattle.share_merge.specs.Inner.{IsExpanded}
use Rattle.share_merge.proofs.expanding.all_expanded.Given as goal

abbrev pub invariant-loop-i : goal.invariant-loop-i
invariant-loop-i g l = record {
  count : length l.all.items ≡ l.i;
  each : (k : ℕ) → k < length l.all.items → IsExpanded (g.R.Ring.modulus l.table.ring) (g.R.Ring.has l.table.ring) (g.R.Ring.value l.table.ring) g.R.Ring.zero
      l.table.columns l.shares (get_or l.combinations k []) (get_or l.all.items k []);
}
