use Rattle.std.proofs.Common.{◌≡◌, ℕ, Some, [], length, get_or, slice_get}
use Rattle.page_codec.specs.declared.parts.ForwardEntry.{ForwardEntry}
use Rattle.table_build.specs.Inner.{IsEntryOf}
use Rattle.table_build.proofs.sealing.forward_entries.Given as goal

abbrev pub invariant-loop-i : goal.invariant-loop-i
invariant-loop-i g l = record {
  count : length l.entries.items ≡ l.i;
  each : (k : ℕ) (e : ForwardEntry) → slice_get l.entries.items k ≡ Some e
      → IsEntryOf g.R.Ring.zero (g.R.Ring.value l.ring) (get_or l.kept.numbers.items k 0) (get_or l.kept.rows.items k []) (get_or l.combinations k []) e;
}
