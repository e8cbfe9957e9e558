use Rattle.truncated_sums.proofs.Without.{same-terms_total, terms_total-words, continued-words}
use Rattle.truncated_sums.proofs.laws.total_laws.Goals as goal

pub returns-clause-same : goal.returns-clause-same
returns-clause-same c = same-terms_total

pub returns-clause-words : goal.returns-clause-words
returns-clause-words c = terms_total-words

pub returns-clause-places : goal.returns-clause-places
returns-clause-places c = continued-words
