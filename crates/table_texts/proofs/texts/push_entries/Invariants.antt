use Rattle.std.proofs.Common.{◌≡◌, ◌++◌, length, drop, string_bytes}
use Rattle.std.specs.List.{AllByRecursion}
use Rattle.whole_runs.specs.FileTexts.{row_lines}
use Rattle.table_texts.specs.Texts.{IsShowable}
use Rattle.table_texts.proofs.texts.push_entries.Given as goal

abbrev pub invariant-loop-entry : goal.invariant-loop-entry
invariant-loop-entry g l = record {
  written : string_bytes l.lines ++ row_lines (g.R.Ring.modulus l.ring) l.columns.list (drop l.entry-index l.entries)
      ≡ string_bytes l.initial.lines ++ row_lines (g.R.Ring.modulus l.ring) l.columns.list l.entries;
  showable : AllByRecursion (IsShowable (length l.columns.list) (g.R.Ring.modulus l.ring)) (drop l.entry-index l.entries);
}
