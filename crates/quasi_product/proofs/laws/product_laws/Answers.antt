use Rattle.zeta_model.proofs.ProductLaws.{prod_commutes, prod_associates}
use Rattle.quasi_product.proofs.laws.product_laws.Goals as goal

pub returns-clause-commutes : goal.returns-clause-commutes
returns-clause-commutes g c = prod_commutes 24 g.L.Letters.alphabet g.met.L.Letters.laws

pub returns-clause-associates : goal.returns-clause-associates
returns-clause-associates g c = prod_associates 24 g.L.Letters.alphabet g.met.L.Letters.laws
