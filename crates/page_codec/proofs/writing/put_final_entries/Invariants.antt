use Rattle.std.proofs.Common.{take}
use Rattle.std.specs.List.{flat_map}
use Rattle.page_codec.specs.Spelling.{final_entry}
use Rattle.page_codec.specs.Inner.{Wrote}
use Rattle.page_codec.proofs.writing.put_final_entries.Given as goal

abbrev pub invariant-loop-entry : goal.invariant-loop-entry
invariant-loop-entry l = Wrote l.fn.out l.out (flat_map final_entry (take l.entry-index l.entries))
