use Rattle.std.proofs.Common.{◌≡◌, ℕ, ◌<◌, length}
use Rattle.echelon.specs.Lists.{entries_of, lead_at}
use Rattle.echelon.proofs.quick.has_no_lead.Given as goal

abbrev pub invariant-loop-entry : goal.invariant-loop-entry
invariant-loop-entry g l = (value : g.row.R-Elem.Denot → ℕ) (k : ℕ) → k < length l.rows
    → entries_of value l.initial.rest (lead_at l.rows k) ≡ entries_of value l.rest (lead_at l.rows k)

abbrev pub decreases-loop-entry : goal.decreases-loop-entry
decreases-loop-entry g l = length l.rest
