use Rattle.std.proofs.Common.{sym, subst}
use Rattle.std.specs.Prelude.{IfOk}
use Rattle.kept_products.specs.Inner.{IsProduct}
use Rattle.kept_products.proofs.StoreLemmas.{both_ok}
use Rattle.kept_products.proofs.store.made.Goals as goal

pub returns-in-Shuffle : goal.returns-in-Shuffle
returns-in-Shuffle g c =
    let ring = c.args.ring.now in
    subst (λ k. IfOk c.product_within.result (IsProduct g.R.Ring.zero (g.R.Ring.has ring) (g.R.Ring.value ring) (g.R.Ring.modulus ring) k c.args.pair.now.u c.args.pair.now.v))
    (sym c.in-Shuffle.is)
    (both_ok _ _ _ c.product_within.result (λ sum value covered. record { value_is = value; covered = covered }) c.product_within.ensures.value
    c.product_within.ensures.covered)

pub returns-in-Stuffle : goal.returns-in-Stuffle
returns-in-Stuffle g c =
    let ring = c.args.ring.now in
    let made = c.product_within-in-Stuffle in
    subst (λ k. IfOk made.result (IsProduct g.R.Ring.zero (g.R.Ring.has ring) (g.R.Ring.value ring) (g.R.Ring.modulus ring) k c.args.pair.now.u c.args.pair.now.v))
    (sym c.in-Stuffle.is)
    (both_ok _ _ _ made.result (λ sum value covered. record { value_is = value; covered = covered }) made.ensures.value made.ensures.covered)
