use Rattle.std.proofs.Common.{length}
use Rattle.zeta_model.proofs.product.+first_z_len.Given as goal

abbrev pub decreases-first_z_len : goal.decreases-first_z_len
decreases-first_z_len l = length l.w.now
