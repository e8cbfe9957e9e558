use Rattle.table_model.specs.ListedSpan.{relation_count}
use Rattle.table_tests.proofs.certificates.found.Goals as goal

pub check_rows-requires-clause-combinations : goal.check_rows-requires-clause-combinations
unfolding relation_count
check_rows-requires-clause-combinations c = c.requires.combinations
