use Rattle.std.proofs.Common.{◌≡◌, ℕ, Some, [], length, get_or, slice_get}
use Rattle.page_codec.specs.declared.parts.FinalEntry.{FinalEntry}
use Rattle.share_build.specs.Inner.{IsFinalEntryOf}
use Rattle.share_build.proofs.finishing.written.Given as goal

abbrev pub invariant-loop-i : goal.invariant-loop-i
invariant-loop-i g l = record {
  count : length l.entries.items ≡ l.i;
  each : (k : ℕ) (e : FinalEntry) → slice_get l.entries.items k ≡ Some e
      → IsFinalEntryOf g.R.Ring.zero (g.R.Ring.value l.ring) (get_or l.rows.rows k []) (get_or l.combinations k []) e;
}
