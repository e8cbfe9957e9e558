use Rattle.table_model.specs.ListedSpan.{relation_count, listed_value}
use Rattle.cert_checker.proofs.laws.listed_rows_evaluate.Goals as goal

pub returns : goal.returns
unfolding relation_count listed_value
returns c = λ m columns row combination. (λ is. is, λ is. is)
