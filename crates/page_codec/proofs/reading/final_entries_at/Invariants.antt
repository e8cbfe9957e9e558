use Rattle.std.proofs.Common.{◌≡◌, ◌-◌}
use Rattle.page_codec.specs.Inner.{times_at, final_entry_at}
use Rattle.page_codec.proofs.Loop.{with_front}
use Rattle.page_codec.proofs.reading.final_entries_at.Given as goal

abbrev pub invariant-loop : goal.invariant-loop
invariant-loop l = with_front l.entries.items (times_at final_entry_at (l.count - l.counter) l.rest) ≡ times_at final_entry_at l.count l.bytes
