use Rattle.std.proofs.Common.{◌≡◌, length, All}
use Rattle.sparse_rows.specs.Entries.{AllIn}
use Rattle.echelon.specs.Inner.{numbers_of}
use Rattle.echelon.proofs.AtLeads.{Cancelling}
use Rattle.echelon.proofs.remainder.cancel_at_leads.Given as goal

abbrev pub invariant-loop-entry : goal.invariant-loop-entry
invariant-loop-entry g l = record {
  count : length l.sums ≡ length l.initial.sums;
  all : All (g.R.Ring.is_sum l.ring) l.sums;
  in_ring : AllIn (g.R.Ring.has l.ring) l.rest;
  cancelling : Cancelling (g.R.Ring.modulus l.ring) (g.R.Ring.value l.ring) l.rows l.initial.rest (numbers_of (g.R.Ring.total l.ring) l.sums) l.rest;
}

abbrev pub decreases-loop-entry : goal.decreases-loop-entry
decreases-loop-entry g l = length l.rest
