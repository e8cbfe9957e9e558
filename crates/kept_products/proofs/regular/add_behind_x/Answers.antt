use Rattle.std.proofs.Common.{◌≡◌, ◌*◌, ◌%◌, ◌<◌, ◌∷◌, true, length, sym, ap, subst, ◌∙◌, arith}
use Rattle.std.specs.Prelude.{All}
use Rattle.std.specs.Map.{keys_of}
use Rattle.zeta_model.specs.declared.Letter.TheVariants.{X}
use Rattle.zeta_model.specs.Sums.{single, scaled, numbered, continued}
use Rattle.word_sums.specs.Terms.{coefficient_of, AllIn}
use Rattle.word_sums.specs.Sums.{Gains}
use Rattle.quasi_product.proofs.SumProductLemmas.{Gaining-start, Gaining-next, Gaining-has, Gaining-is, Gaining-end, times}
use Rattle.kept_products.proofs.regular.add_behind_x.Goals as goal

pub loop-word-init : goal.loop-word-init
loop-word-init g c =
    let same = sym (c.into_iter-word-iterator.ensures.into_iter_gives ∙ c.iter-word-items.ensures.rest) in
    Gaining-start _ _ _ _ _ _ _ _ _ c.requires.sum (subst (AllIn (g.R.Ring.has c.args.ring.now)) same c.requires.words_in_ring)
    (subst (λ es. All (λ w. length w < 24) (keys_of es)) same c.requires.fits)

pub in_front-requires : goal.in_front-requires
in_front-requires g c = Gaining-is _ _ _ _ _ _ _ _ _ _ c.in-Some.word.now c.in-Some.residue.now c.loop-word.word-iterator c.next.new.self
    c.in-Some.ensures.steps c.loop-word.invariant

pub mul-requires-clause-has_b : goal.mul-requires-clause-has_b
mul-requires-clause-has_b g c =
    Gaining-has _ _ _ _ _ _ _ _ _ _ c.in-Some.word.now c.in-Some.residue.now c.loop-word.word-iterator c.next.new.self c.in-Some.ensures.steps
    c.loop-word.invariant

pub add_term-requires-clause-has : goal.add_term-requires-clause-has
add_term-requires-clause-has g c =
    subst (λ a. g.R.Ring.has c.args.ring.now a ≡ true) (sym c.mul.ensures) (g.met.R.Ring.has_mul c.args.ring.now c.args.c c.in-Some.residue.now c.requires.has_c
    (Gaining-has _ _ _ _ _ _ _ _ _ _ c.in-Some.word.now c.in-Some.residue.now c.loop-word.word-iterator c.next.new.self c.in-Some.ensures.steps
    c.loop-word.invariant))

pub loop-word-preserved : goal.loop-word-preserved
loop-word-preserved g c =
    let ring = c.args.ring.now in
    let m = g.R.Ring.modulus ring in
    let value = g.R.Ring.value ring in
    let word = c.in-Some.word.now in
    let product = ap value c.mul.ensures ∙ g.met.R.Ring.value_mul ring c.args.c c.in-Some.residue.now c.requires.has_c
    (Gaining-has _ _ _ _ _ _ _ _ _ _ c.in-Some.word.now c.in-Some.residue.now c.loop-word.word-iterator c.next.new.self c.in-Some.ensures.steps
    c.loop-word.invariant) in
    Gaining-next _ _ _ _ _ _ _ _ _ _ word c.in-Some.residue.now c.loop-word.word-iterator c.next.new.self c.add_term.new.self
    (λ t. value c.mul.result * single c.in_front.result t)
    c.in-Some.ensures.steps c.loop-word.invariant (record { terms = c.in_ok-add_term.ensures.terms; in_ring = c.in_ok-add_term.ensures.in_ring })
    (record { each = c.in_ok-add_term.ensures.ok })
    (λ t. ap (λ w. value c.mul.result * single w t % m) c.in_front.ensures
    ∙ times m (value c.mul.result) (value c.args.c) (value c.in-Some.residue.now) (single (X ∷ word) t) product)

pub returns-clause-ok : goal.returns-clause-ok
returns-clause-ok g c =
    let ring = c.args.ring.now in
    let m = g.R.Ring.modulus ring in
    let value = g.R.Ring.value ring in
    subst (λ es. Gains m (coefficient_of value c.args.sum.now) (coefficient_of value c.loop-word.sum)
    (scaled (value c.args.c) (continued (λ w. single (X ∷ w)) (numbered value es))))
    (c.into_iter-word-iterator.ensures.into_iter_gives ∙ c.iter-word-items.ensures.rest)
    (Gaining-end _ _ _ _ _ _ _ _ _ _ c.loop-word.word-iterator (omega (arith, g.met.R.Ring.modulus_from ring))
    (g.met.R.Ring.value_below ring) c.in-None.ensures.steps.0 c.loop-word.invariant)
