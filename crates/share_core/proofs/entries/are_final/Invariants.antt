use Rattle.std.proofs.Common.{drop}
use Rattle.std.specs.Prelude.{◌↔◌}
use Rattle.std.specs.List.{AllByRecursion}
use Rattle.page_codec.specs.Bounds.{IsFinalEntry}
use Rattle.share_core.proofs.entries.are_final.Given as goal

abbrev pub invariant-loop-entry : goal.invariant-loop-entry
invariant-loop-entry l = AllByRecursion IsFinalEntry l.entries ↔ AllByRecursion IsFinalEntry (drop l.entry-index l.entries)
