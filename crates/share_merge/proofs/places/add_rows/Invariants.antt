use Rattle.std.proofs.Common.{◌≡◌, ◌++◌}
use Rattle.share_merge.specs.Inner.{places_of}
use Rattle.share_merge.proofs.places.add_rows.Given as goal

abbrev pub invariant-loop-row : goal.invariant-loop-row
invariant-loop-row l = l.places.items ≡ l.initial.places.items ++ places_of l.share l.row
