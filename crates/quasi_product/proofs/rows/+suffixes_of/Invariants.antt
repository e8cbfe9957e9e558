use Rattle.std.proofs.Common.{length}
use Rattle.quasi_product.proofs.rows.+suffixes_of.Given as goal

abbrev pub decreases-suffixes_of : goal.decreases-suffixes_of
decreases-suffixes_of g l = length l.w
