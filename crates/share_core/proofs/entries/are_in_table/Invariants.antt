use Rattle.std.proofs.Common.{drop}
use Rattle.std.specs.Prelude.{◌↔◌}
use Rattle.std.specs.List.{AllByRecursion}
use Rattle.page_codec.specs.Places.{FinalInTable}
use Rattle.share_core.proofs.entries.are_in_table.Given as goal

abbrev pub invariant-loop-entry : goal.invariant-loop-entry
invariant-loop-entry l = AllByRecursion (FinalInTable l.p l.relations) l.entries ↔ AllByRecursion (FinalInTable l.p l.relations)
    (drop l.entry-index l.entries)
