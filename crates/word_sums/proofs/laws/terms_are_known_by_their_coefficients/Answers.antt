use Rattle.word_sums.proofs.KnownTerms.{held, same_terms, coefficient_of-IsPermutation}
use Rattle.word_sums.proofs.laws.terms_are_known_by_their_coefficients.Goals as goal

pub returns-clause-words : goal.returns-clause-words
returns-clause-words g c ring terms is all =
    held (g.R.Ring.value ring) g.R.Ring.zero (g.R.Ring.has ring) (g.met.R.Ring.has_zero ring) (g.met.R.Ring.value_zero ring)
    (g.met.R.Ring.value_injective ring) terms is all

pub returns-clause-order : goal.returns-clause-order
returns-clause-order g c ring terms others moved t = coefficient_of-IsPermutation (g.R.Ring.value ring) terms others t moved

pub returns-clause-sorted : goal.returns-clause-sorted
returns-clause-sorted g c ring p q p_is q_is p_in q_in p_up q_up same =
    same_terms (g.R.Ring.value ring) g.R.Ring.zero (g.R.Ring.has ring) (g.met.R.Ring.has_zero ring) (g.met.R.Ring.value_zero ring)
    (g.met.R.Ring.value_injective ring) p q p_up q_up p_is.nonzero q_is.nonzero p_in q_in same
