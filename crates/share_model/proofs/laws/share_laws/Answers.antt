use Rattle.share_model.proofs.ShareResults.{reduced_rows_are_result, result_is_reduced_rows, results_merge}
use Rattle.share_model.proofs.laws.share_laws.Goals as goal

pub returns-clause-result : goal.returns-clause-result
returns-clause-result c = reduced_rows_are_result

pub returns-clause-reduced : goal.returns-clause-reduced
returns-clause-reduced c = result_is_reduced_rows

pub returns-clause-merged : goal.returns-clause-merged
returns-clause-merged c = results_merge
