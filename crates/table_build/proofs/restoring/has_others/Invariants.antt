use Rattle.std.proofs.Common.{◌≡◌, ◌⊎◌, ◌<◌, ℕ, get_or}
use Rattle.table_build.specs.Inner.{Stands}
use Rattle.table_build.proofs.restoring.has_others.Given as goal

abbrev pub invariant-loop-pair : goal.invariant-loop-pair
invariant-loop-pair l = (k : ℕ) (d : ℕ × ℕ) → k < l.pair-index → ((get_or l.pairs k d).0 ≡ l.number) ⊎ Stands l.numbers (get_or l.pairs k d).0
