use Rattle.std.proofs.Common.{length}
use Rattle.table_model.specs.MonomialWords.{column_at, words_of_monomial}
use Rattle.cert_checker.proofs.SummingPlaces.{Summing}
use Rattle.cert_checker.proofs.evaluating.add_words.Given as goal

abbrev pub invariant-loop-entry : goal.invariant-loop-entry
invariant-loop-entry g l =
    Summing (g.R.Ring.modulus l.ring) (length l.columns.list) 1 (g.R.Ring.has l.ring) (g.R.Ring.value l.ring) (g.R.Ring.is_sum l.ring)
    (g.R.Ring.total l.ring) l.columns (λ col. words_of_monomial (column_at l.columns.list col)) l.initial.sums l.initial.rest l.sums l.rest

abbrev pub decreases-loop-entry : goal.decreases-loop-entry
decreases-loop-entry g l = length l.rest
