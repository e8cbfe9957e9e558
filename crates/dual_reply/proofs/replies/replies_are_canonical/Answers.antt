use Rattle.dual_reply.proofs.CanonicalLaw.{tells_sums}
use Rattle.dual_reply.proofs.replies.replies_are_canonical.Goals as goal

pub returns : goal.returns
returns c = tells_sums
