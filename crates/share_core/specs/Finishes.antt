-- How a merge of shares that are all there may fail.
use Rattle.std.specs.Prelude.{ℕ}
use Rattle.share_merge.specs.declared.fault.MergeFault.{MergeFault}
use Rattle.share_merge.specs.declared.fault.MergeFault.TheVariants.{MissingShare, NoInverse, Memory}

-- the work breaks, or memory is wanting
abbrev pub IsBreak : (ℕ → ℕ → ℕ → Type 0) → MergeFault → Type 0
IsBreak Breaks (MissingShare i) = ⊥
IsBreak Breaks (NoInverse value share row) = Breaks value share row
IsBreak Breaks (Memory fault) = Unit {0}
