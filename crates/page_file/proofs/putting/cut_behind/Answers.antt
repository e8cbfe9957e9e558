use Rattle.page_file.proofs.Passing.{sync_passes, cut_passes, last_sync_passes}
use Rattle.page_file.proofs.putting.cut_behind.Goals as goal

pub returns-in_err-sync-clause-moments : goal.returns-in_err-sync-clause-moments
returns-in_err-sync-clause-moments g c = sync_passes c.args.end _ _ c.in_err-sync.ensures.synced

pub returns-in_err-cut-clause-moments : goal.returns-in_err-cut-clause-moments
returns-in_err-cut-clause-moments g c = cut_passes c.args.end _ _ _ c.requires c.in_ok-sync.ensures.synced c.in_err-cut.ensures.cut

pub returns-clause-moments : goal.returns-clause-moments
returns-clause-moments g c = last_sync_passes c.args.end _ _ _ _ c.sync-2.result c.requires c.in_ok-sync.ensures.synced c.in_ok-cut.ensures.cut c.sync-2.ensures.synced
