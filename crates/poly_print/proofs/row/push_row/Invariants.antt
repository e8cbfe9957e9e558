use Rattle.std.proofs.Common.{◌≡◌, ◌++◌, length, drop, string_bytes, true}
use Rattle.sparse_rows.specs.Entries.{IsBelow, AllIn}
use Rattle.poly_print.proofs.TermSteps.{rest_terms}
use Rattle.poly_print.proofs.row.push_row.Given as goal

abbrev pub invariant-loop-entry : goal.invariant-loop-entry
invariant-loop-entry g l = record {
  text : string_bytes l.text ++ rest_terms (g.R.Ring.value l.ring) (g.R.Ring.has l.ring) l.columns.list l.first (drop l.entry-index l.entries)
      ≡ string_bytes l.initial.text ++ rest_terms (g.R.Ring.value l.ring) (g.R.Ring.has l.ring) l.columns.list true l.entries;
  below : IsBelow (λ col. col) (length l.columns.list) (drop l.entry-index l.entries);
  in_ring : AllIn (g.R.Ring.has l.ring) (drop l.entry-index l.entries);
}
