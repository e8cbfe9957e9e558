use Rattle.std.proofs.Common.{◌+◌, nat_lt, subst, sym, arith}
use Rattle.sparse_rows.specs.Entries.{IsBelow, AllIn}
use Rattle.sparse_rows.proofs.EntryLemmas.{IsBelow-append, AllIn-append, below_more}
use Rattle.table_tests.proofs.elimination.random_row.Goals as goal

pub loop-col-preserved-then-is_zero : goal.loop-col-preserved-then-is_zero
loop-col-preserved-then-is_zero c =
    (below_more (λ k. k) c.loop-col.col (c.loop-col.col + 1) c.loop-col.row (omega arith) c.loop-col.invariant.0, c.loop-col.invariant.1)

pub loop-col-preserved : goal.loop-col-preserved
loop-col-preserved c = (
  subst (IsBelow (λ k. k) (c.loop-col.col + 1)) (sym c.in_ok-push.ensures.ok)
      (IsBelow-append (λ k. k) (c.loop-col.col + 1) c.loop-col.col c.of-residue.result c.loop-col.row c.loop-col.invariant.0 (omega arith)),
  subst (AllIn (λ a. nat_lt a c.args.ring.now.modulus)) (sym c.in_ok-push.ensures.ok)
      (AllIn-append (λ k. k) (λ a. nat_lt a c.args.ring.now.modulus) c.loop-col.col c.of-residue.result c.loop-col.row c.loop-col.invariant.1
      c.of-residue.ensures.has),
)
