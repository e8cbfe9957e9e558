use Rattle.outside_io.proofs.Picking.{synced_seen}
use Rattle.outside_io.proofs.history.History.held.Goals as goal

pub returns-clause-synced : goal.returns-clause-synced
returns-clause-synced c = synced_seen c.self.inside.start.items c.self.inside.changes.items c.args.self.now c.self.view_is
