use Rattle.kept_products.proofs.StoreLemmas.{product_there, nothing_there}
use Rattle.kept_products.proofs.store.product_at.Goals as goal

pub returns-in-Some-get_index : goal.returns-in-Some-get_index
returns-in-Some-get_index g c = λ zero has value m kind u v there.
    product_there zero has value m kind u v c.args.store.now.products.entries c.args.store.now.last c.args.place c.in-Some.i
    c.in-Some-get_index.field-0-0.now c.in-Some-get_index.sum.now c.in-Some.is c.in-Some-get_index.ensures.entry there

pub returns-in-None-get_index : goal.returns-in-None-get_index
returns-in-None-get_index g c = λ zero has value m kind u v there.
    nothing_there zero has value m kind u v c.args.store.now.products.entries c.args.store.now.last c.args.place c.in-Some.i c.in-Some.is
    c.in-None-get_index.ensures.entry there
