use Rattle.std.proofs.Common.{◌≡◌, ℕ, length}
use Rattle.sparse_rows.specs.Entries.{entry_of, IsRow, AllIn}
use Rattle.sparse_rows.proofs.pairs.Pairs.entry.Given as goal

abbrev pub invariant-loop-first : goal.invariant-loop-first
invariant-loop-first g l =
    ((low : ℕ) × IsRow g.K.Key.number g.R.Ring.zero low l.rest)
    × AllIn (g.R.Ring.has l.ring) l.rest
    × (entry_of g.K.Key.number (g.R.Ring.value l.ring) l.initial.rest (g.K.Key.number l.key)
    ≡ entry_of g.K.Key.number (g.R.Ring.value l.ring) l.rest (g.K.Key.number l.key))

abbrev pub decreases-loop-first : goal.decreases-loop-first
decreases-loop-first g l = length l.rest
