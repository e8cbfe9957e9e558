use Rattle.std.proofs.Common.{length, ap, arith}
use Rattle.zeta_model.proofs.ProductTotals.{first_shorter}
use Rattle.quasi_product.proofs.products.cut.Goals as goal

pub without_front-requires : goal.without_front-requires
without_front-requires g c =
    let s = first_shorter 24 g.L.Letters.alphabet g.met.L.Letters.laws c.args.w c.requires.covered c.requires.some c.requires.fits in
    omega (arith, ap length c.first-a.ensures)
