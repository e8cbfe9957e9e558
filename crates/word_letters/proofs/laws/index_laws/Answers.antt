use Rattle.std.proofs.Common.{arith}
use Rattle.word_letters.proofs.IndexLemmas.{index_of-word_of_index, word_of_index-index_of, positive-index_from, length-word_of_index, depth_of-word_of_index, word_text-injective}
use Rattle.word_letters.proofs.laws.index_laws.Goals as goal

pub returns-clause-index : goal.returns-clause-index
returns-clause-index c = index_of-word_of_index

pub returns-clause-word : goal.returns-clause-word
returns-clause-word c = word_of_index-index_of

pub returns-clause-positive : goal.returns-clause-positive
returns-clause-positive c w = positive-index_from 1 w (omega arith)

pub returns-clause-weight : goal.returns-clause-weight
returns-clause-weight c = length-word_of_index

pub returns-clause-depth : goal.returns-clause-depth
returns-clause-depth c = depth_of-word_of_index

pub returns-clause-text : goal.returns-clause-text
returns-clause-text c = word_text-injective
