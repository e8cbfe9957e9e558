use Rattle.std.proofs.Common.{length}
use Rattle.share_file.specs.Inner.{Walked}
use Rattle.share_file.proofs.tails.rows_at.Given as goal

abbrev pub invariant-pages : goal.invariant-pages
invariant-pages l = Walked l.params l.relations l.bytes l.rows.items l.rest

abbrev pub decreases-pages : goal.decreases-pages
decreases-pages l = length l.rest
