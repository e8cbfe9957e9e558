use Rattle.page_file.proofs.Passing.{broke, put_passes}
use Rattle.page_file.proofs.putting.put.Goals as goal

pub returns-in_err-write_at-clause-moments : goal.returns-in_err-write_at-clause-moments
returns-in_err-write_at-clause-moments g c = broke c.args.at c.args.bytes.now _ _ c.in_err-write_at.ensures.written

pub returns-clause-moments : goal.returns-clause-moments
returns-clause-moments g c = put_passes c.args.at c.args.bytes.now _ _ _ c.sync.result c.in_ok-write_at.ensures.written c.sync.ensures.synced
