use Rattle.zeta_model.proofs.product.+words_within.Given as goal

abbrev pub decreases-words_within : goal.decreases-words_within
decreases-words_within l = l.steps
