use Rattle.std.proofs.Common.{nat_lt}
use Rattle.sparse_rows.specs.Entries.{AllIn}
use Rattle.table_tests.proofs.elimination.evaluated.Given as goal

abbrev pub invariant-loop-n : goal.invariant-loop-n
invariant-loop-n l = AllIn (λ a. nat_lt a l.ring.modulus) l.sum
