use Rattle.std.proofs.Common.{length}
use Rattle.table_model.specs.MonomialWords.{column_at, words_of_monomial}
use Rattle.cert_checker.proofs.Gaining.{Gaining}
use Rattle.cert_checker.proofs.row_check.add_columns.Given as goal

abbrev pub invariant-loop-entry : goal.invariant-loop-entry
invariant-loop-entry g l =
    Gaining g.R.Ring.zero (g.R.Ring.has l.ring) (g.R.Ring.value l.ring) (g.R.Ring.modulus l.ring) (length l.columns.list) 1
    (λ col. words_of_monomial (column_at l.columns.list col)) l.initial.sum l.initial.rest l.sum l.rest

abbrev pub decreases-loop-entry : goal.decreases-loop-entry
decreases-loop-entry g l = length l.rest
