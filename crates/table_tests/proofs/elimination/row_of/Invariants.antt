use Rattle.std.proofs.Common.{nat_lt}
use Rattle.sparse_rows.specs.Entries.{IsBelow, AllIn}
use Rattle.table_tests.proofs.elimination.row_of.Given as goal

abbrev pub invariant-loop-col : goal.invariant-loop-col
invariant-loop-col l = IsBelow (λ k. k) l.col l.row × AllIn (λ a. nat_lt a l.ring.modulus) l.row
