use Rattle.std.proofs.Common.{◌*◌, ◌%◌, ap, arith}
use Rattle.zeta_model.specs.Sums.{single}
use Rattle.quasi_product.proofs.GainLemmas.{gains_same}
use Rattle.quasi_product.proofs.RowLemmas.{nothing}
use Rattle.quasi_product.proofs.SumProductLemmas.{Gaining-start, Gaining-next, Gaining-end, Gaining-has}
use Rattle.quasi_product.proofs.products.add_terms.Goals as goal

pub loop-term-init : goal.loop-term-init
loop-term-init g c = Gaining-start _ _ _ _ _ _ _ _ _ c.requires.sum c.requires.terms_in_ring (λ k d h. tt)

pub add_term-requires-clause-has : goal.add_term-requires-clause-has
add_term-requires-clause-has g c =
    Gaining-has _ _ _ _ _ _ _ _ _ _ c.in-Some.term.now.0 c.in-Some.term.now.1 c.loop-term.rest.now c.in-Some.behind.now c.in-Some.ensures.cases.0
    c.loop-term.invariant

pub loop-term-preserved : goal.loop-term-preserved
loop-term-preserved g c =
    let value = g.R.Ring.value c.args.ring.now in
    Gaining-next _ _ _ _ _ _ _ _ _ _ c.in-Some.term.now.0 c.in-Some.term.now.1 c.loop-term.rest.now c.in-Some.behind.now c.add_term.new.self
    (λ t. value c.in-Some.term.now.1 * single c.in-Some.term.now.0 t)
    c.in-Some.ensures.cases.0 c.loop-term.invariant (record { terms = c.in_ok-add_term.ensures.terms; in_ring = c.in_ok-add_term.ensures.in_ring })
    (record { each = c.in_ok-add_term.ensures.ok })
    (λ t. ap (λ n. n % g.R.Ring.modulus c.args.ring.now) (omega arith))

pub returns-clause-ok : goal.returns-clause-ok
returns-clause-ok g c =
    gains_same _ _ _ _ _ (λ t. omega arith)
    (Gaining-end _ _ _ _ _ _ _ _ _ _ c.loop-term.rest.now (omega (arith, g.met.R.Ring.modulus_from c.args.ring.now))
    (g.met.R.Ring.value_below c.args.ring.now)
    (nothing c.loop-term.rest.now c.in_default.ensures.cases) c.loop-term.invariant)
