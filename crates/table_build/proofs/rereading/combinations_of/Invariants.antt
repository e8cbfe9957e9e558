use Rattle.std.proofs.Common.{◌≡◌, ℕ, ◌<◌, Some, [], length, get_or, slice_get}
use Rattle.page_codec.specs.declared.parts.ForwardEntry.{ForwardEntry}
use Rattle.page_rows.specs.Written.{written}
use Rattle.echelon.specs.Lists.{row_at}
use Rattle.echelon.specs.States.{AllIns}
use Rattle.file_model.specs.Pages.{pairs_of}
use Rattle.table_build.proofs.rereading.combinations_of.Given as goal

abbrev pub invariant-loop-i : goal.invariant-loop-i
invariant-loop-i g l = record {
  count : length l.made.items ≡ l.i;
  in_ring : AllIns (g.R.Ring.has l.ring) l.made.items;
  are_written : (k : ℕ) → k < length l.made.items → (e : ForwardEntry) → slice_get l.entries k ≡ Some e
      → written (g.R.Ring.value l.ring) (get_or l.made.items k []) ≡ e.combination;
  made : (k : ℕ) → k < length l.made.items → (e : ForwardEntry) → slice_get l.entries k ≡ Some e
      → (q : ℕ) → row_at (g.R.Ring.value l.ring) l.made.items k q ≡ pairs_of e.combination q;
}
