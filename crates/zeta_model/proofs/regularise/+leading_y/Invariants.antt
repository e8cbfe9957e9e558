use Rattle.std.proofs.Common.{length}
use Rattle.zeta_model.proofs.regularise.+leading_y.Given as goal

abbrev pub decreases-leading_y : goal.decreases-leading_y
decreases-leading_y l = length l.w.now
