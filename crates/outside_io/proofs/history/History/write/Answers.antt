use Rattle.outside_io.proofs.Keeping.{written_next}
use Rattle.outside_io.proofs.history.History.write.Goals as goal

pub push-requires-clause-image : goal.push-requires-clause-image
push-requires-clause-image c = written_next c.args.self.now.now c.args.at c.args.bytes.now c.in_ok-bytes.bytes.items c.in_ok-next.next.items c.contents.result.now c.requires c.contents.ensures.bytes c.contents.ensures.image c.in_ok-bytes.ensures.items c.in_ok-next.ensures
