use Rattle.std.proofs.Common.{◌≡◌, ◌++◌, take}
use Rattle.share_file.proofs.copying.append_copies.Given as goal

abbrev pub invariant-loop-entry : goal.invariant-loop-entry
invariant-loop-entry l = l.rows.items ≡ l.fn.rows.items ++ take l.entry-index l.entries
