use Rattle.std.proofs.Common.{◌≡◌, ℕ, ◌<◌, Some, [], get_or, slice_get}
use Rattle.page_codec.specs.declared.parts.ForwardEntry.{ForwardEntry}
use Rattle.table_build.specs.Inner.{IsKeptEntry}
use Rattle.table_build.proofs.rereading.are_kept.Given as goal

abbrev pub invariant-loop-i : goal.invariant-loop-i
invariant-loop-i g l = (k : ℕ) (e : ForwardEntry) → k < l.i → slice_get l.entries k ≡ Some e
    → IsKeptEntry (g.R.Ring.modulus l.ring) g.R.Ring.zero (g.R.Ring.value l.ring) (get_or l.numbers k 0) (get_or l.rows k []) e
