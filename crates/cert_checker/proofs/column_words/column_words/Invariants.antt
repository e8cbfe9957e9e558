use Rattle.std.proofs.Common.{take}
use Rattle.word_sums.specs.Sums.{IsSumOf}
use Rattle.table_model.specs.MonomialWords.{words_of_monomial}
use Rattle.cert_checker.proofs.column_words.column_words.Given as goal

abbrev pub invariant-loop-i : goal.invariant-loop-i
invariant-loop-i g l = IsSumOf g.R.Ring.zero (g.R.Ring.has l.ring) (g.R.Ring.value l.ring) (g.R.Ring.modulus l.ring)
    (words_of_monomial (take l.i l.p)) l.sum
