use Rattle.std.proofs.Common.{◌≡◌, ℕ, length, slice_index}
use Rattle.linear_model.specs.Tables.{entry_of}
use Rattle.linear_model.specs.Forward.{IsSwept}
use Rattle.linear_model.proofs.normal.normal_form.Given as goal

abbrev pub invariant-loop-k : goal.invariant-loop-k
invariant-loop-k l =
    (length l.row ≡ l.width)
    × ((c : ℕ → ℕ) × IsSwept l.m 0 l.k (slice_index l.leads) (entry_of l.width l.table) c (slice_index l.fn.row) (slice_index l.row))
