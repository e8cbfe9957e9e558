use Rattle.std.proofs.Common.{◌≡◌, ◌+◌, ◌%◌, ◌≤◌, true, length, sym, subst, ap, ◌∙◌, arith}
use Rattle.std.specs.Prelude.{All}
use Rattle.std.specs.Map.{keys_of}
use Rattle.zeta_model.specs.Sums.{scaled}
use Rattle.word_sums.specs.Terms.{coefficient_of, AllIn}
use Rattle.word_sums.specs.Sums.{Gains}
use Rattle.quasi_product.specs.SumProducts.{product_with_terms, product_of_terms}
use Rattle.zeta_model.specs.Sums.{numbered}
use Rattle.quasi_product.proofs.GainLemmas.{gains_same}
use Rattle.quasi_product.proofs.SumProductLemmas.{Gaining-start, Gaining-next, Gaining-end, Gaining-has, Gaining-is}
use Rattle.quasi_product.proofs.sums.add_sum_product.Goals as goal

pub loop-u-init : goal.loop-u-init
loop-u-init g c =
    let all = sym (c.into_iter-u-iterator.ensures.into_iter_gives ∙ c.iter-u-items.ensures.rest) in
    Gaining-start _ _ _ _ _ _ _ _ _ c.requires.sum (subst (AllIn (g.R.Ring.has c.args.ring.now)) all c.requires.a_in_ring)
    (subst (λ es. All (λ u. (g.L.Letters.alphabet.covered u ≡ true) × All (λ v. length u + length v ≤ 24) (keys_of c.args.b.now)) (keys_of es)) all
    (λ k d h. (c.requires.covers_a k d h, c.requires.fits k d h)))

pub add_word_product-requires-clause-has_c : goal.add_word_product-requires-clause-has_c
add_word_product-requires-clause-has_c g c =
    Gaining-has _ _ _ _ _ _ _ _ _ _ c.in-Some.u.now c.in-Some.c.now c.loop-u.u-iterator c.next.new.self c.in-Some.ensures.steps c.loop-u.invariant

pub add_word_product-requires-clause-covers_u : goal.add_word_product-requires-clause-covers_u
add_word_product-requires-clause-covers_u g c =
    (Gaining-is _ _ _ _ _ _ _ _ _ _ c.in-Some.u.now c.in-Some.c.now c.loop-u.u-iterator c.next.new.self c.in-Some.ensures.steps c.loop-u.invariant).0

pub add_word_product-requires-clause-fits : goal.add_word_product-requires-clause-fits
add_word_product-requires-clause-fits g c =
    (Gaining-is _ _ _ _ _ _ _ _ _ _ c.in-Some.u.now c.in-Some.c.now c.loop-u.u-iterator c.next.new.self c.in-Some.ensures.steps c.loop-u.invariant).1

pub loop-u-preserved : goal.loop-u-preserved
loop-u-preserved g c =
    let m = g.R.Ring.modulus c.args.ring.now in
    let value = g.R.Ring.value c.args.ring.now in
    let u = c.in-Some.u.now in
    let whole = product_with_terms g.L.Letters.alphabet (numbered value c.args.b.now) u in
    Gaining-next _ _ _ _ _ _ _ _ _ _ u c.in-Some.c.now c.loop-u.u-iterator c.next.new.self c.add_word_product.new.sum (scaled (value c.in-Some.c.now) whole)
    c.in-Some.ensures.steps c.loop-u.invariant c.in_ok-add_word_product.ensures.sum
    c.in_ok-add_word_product.ensures.ok
    (λ t. ap (λ n. n % m) (omega arith))

pub returns-clause-ok : goal.returns-clause-ok
returns-clause-ok g c =
    let value = g.R.Ring.value c.args.ring.now in
    let whole = product_of_terms g.L.Letters.alphabet (numbered value c.args.a.now) (numbered value c.args.b.now) in
    gains_same _ _ _ _ _ (λ t. omega arith)
    (subst (λ es. Gains (g.R.Ring.modulus c.args.ring.now) (coefficient_of value c.args.sum.now) (coefficient_of value c.loop-u.sum)
    (scaled 1 (product_of_terms g.L.Letters.alphabet (numbered value es) (numbered value c.args.b.now))))
    (c.into_iter-u-iterator.ensures.into_iter_gives ∙ c.iter-u-items.ensures.rest)
    (Gaining-end _ _ _ _ _ _ _ _ _ _ c.loop-u.u-iterator (omega (arith, g.met.R.Ring.modulus_from c.args.ring.now))
    (g.met.R.Ring.value_below c.args.ring.now)
    c.in-None.ensures.steps.0 c.loop-u.invariant))
