use Rattle.std.proofs.Common.{◌≡◌, ◌+◌, ◌≤◌, true, length, sym, subst, ap, ◌∙◌, arith}
use Rattle.std.specs.Prelude.{All}
use Rattle.std.specs.Map.{keys_of}
use Rattle.zeta_model.specs.Product.{prod}
use Rattle.zeta_model.specs.Sums.{sum_of, scaled}
use Rattle.word_sums.specs.Terms.{coefficient_of, AllIn}
use Rattle.word_sums.specs.Sums.{Gains}
use Rattle.quasi_product.specs.SumProducts.{product_with_terms}
use Rattle.zeta_model.specs.Sums.{numbered}
use Rattle.quasi_product.proofs.SumProductLemmas.{Gaining-start, Gaining-next, Gaining-end, Gaining-has, Gaining-is, times}
use Rattle.quasi_product.proofs.sums.add_word_product.Goals as goal

pub loop-v-init : goal.loop-v-init
loop-v-init g c =
    let all = sym (c.into_iter-v-iterator.ensures.into_iter_gives ∙ c.iter-v-items.ensures.rest) in
    Gaining-start _ _ _ _ _ _ _ _ _ c.requires.sum (subst (AllIn (g.R.Ring.has c.args.ring.now)) all c.requires.b_in_ring)
    (subst (λ es. All (λ v. (g.L.Letters.alphabet.covered v ≡ true) × (length c.args.u + length v ≤ 24)) (keys_of es)) all
    (λ k d h. (c.requires.covers_b k d h, c.requires.fits k d h)))

pub mul-requires-clause-has_b : goal.mul-requires-clause-has_b
mul-requires-clause-has_b g c =
    Gaining-has _ _ _ _ _ _ _ _ _ _ c.in-Some.v.now c.in-Some.d.now c.loop-v.v-iterator c.next.new.self c.in-Some.ensures.steps c.loop-v.invariant

pub add_product-requires-clause-has_c : goal.add_product-requires-clause-has_c
add_product-requires-clause-has_c g c =
    let has = Gaining-has _ _ _ _ _ _ _ _ _ _ c.in-Some.v.now c.in-Some.d.now c.loop-v.v-iterator c.next.new.self c.in-Some.ensures.steps c.loop-v.invariant in
    subst (λ a. g.R.Ring.has c.args.ring.now a ≡ true) (sym c.mul.ensures)
    (g.met.R.Ring.has_mul c.args.ring.now c.args.c c.in-Some.d.now c.requires.has_c has)

pub add_product-requires-clause-covers_v : goal.add_product-requires-clause-covers_v
add_product-requires-clause-covers_v g c =
    (Gaining-is _ _ _ _ _ _ _ _ _ _ c.in-Some.v.now c.in-Some.d.now c.loop-v.v-iterator c.next.new.self c.in-Some.ensures.steps c.loop-v.invariant).0

pub add_product-requires-clause-fits : goal.add_product-requires-clause-fits
add_product-requires-clause-fits g c =
    (Gaining-is _ _ _ _ _ _ _ _ _ _ c.in-Some.v.now c.in-Some.d.now c.loop-v.v-iterator c.next.new.self c.in-Some.ensures.steps c.loop-v.invariant).1

pub loop-v-preserved : goal.loop-v-preserved
loop-v-preserved g c =
    let m = g.R.Ring.modulus c.args.ring.now in
    let value = g.R.Ring.value c.args.ring.now in
    let v = c.in-Some.v.now in
    let has = Gaining-has _ _ _ _ _ _ _ _ _ _ v c.in-Some.d.now c.loop-v.v-iterator c.next.new.self c.in-Some.ensures.steps c.loop-v.invariant in
    Gaining-next _ _ _ _ _ _ _ _ _ _ v c.in-Some.d.now c.loop-v.v-iterator c.next.new.self c.add_product.new.sum
    (scaled (value c.mul.result) (sum_of (prod g.L.Letters.alphabet c.args.u v)))
    c.in-Some.ensures.steps c.loop-v.invariant c.in_ok-add_product.ensures.sum
    c.in_ok-add_product.ensures.ok
    (λ t. times m (value c.mul.result) (value c.args.c) (value c.in-Some.d.now) (sum_of (prod g.L.Letters.alphabet c.args.u v) t) (ap value c.mul.ensures
    ∙ g.met.R.Ring.value_mul c.args.ring.now c.args.c c.in-Some.d.now c.requires.has_c has))

pub returns-clause-ok : goal.returns-clause-ok
returns-clause-ok g c =
    subst (λ es. Gains (g.R.Ring.modulus c.args.ring.now) (coefficient_of (g.R.Ring.value c.args.ring.now) c.args.sum.now)
    (coefficient_of (g.R.Ring.value c.args.ring.now) c.loop-v.sum)
    (scaled (g.R.Ring.value c.args.ring.now c.args.c)
    (product_with_terms g.L.Letters.alphabet (numbered (g.R.Ring.value c.args.ring.now) es) c.args.u)))
    (c.into_iter-v-iterator.ensures.into_iter_gives ∙ c.iter-v-items.ensures.rest)
    (Gaining-end _ _ _ _ _ _ _ _ _ _ c.loop-v.v-iterator (omega (arith, g.met.R.Ring.modulus_from c.args.ring.now))
    (g.met.R.Ring.value_below c.args.ring.now)
    c.in-None.ensures.steps.0 c.loop-v.invariant)
