use Rattle.table_migration.proofs.OldFiles.{old_file_read}
use Rattle.table_migration.proofs.Readings.{one_reading}
use Rattle.table_migration.proofs.laws.migration_laws.Goals as goal

pub returns-clause-one : goal.returns-clause-one
returns-clause-one c = one_reading

pub returns-clause-file : goal.returns-clause-file
returns-clause-file c = old_file_read
