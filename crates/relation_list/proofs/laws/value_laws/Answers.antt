use Rattle.relation_list.proofs.ValueWords.{value_of-words}
use Rattle.relation_list.proofs.laws.value_laws.Goals as goal

pub returns : goal.returns
returns c = value_of-words
