use Rattle.std.proofs.Common.{◌≡◌, ◌++◌, true, refl, sym, ap, subst, ◌∙◌}
use Rattle.zeta_model.proofs.WordOrder.{word_cmp-IsAntisymmetric}
use Rattle.quasi_product.proofs.MergeLemmas.{taken_left, taken_right, taken_both, fits_first, has_first}
use Rattle.quasi_product.proofs.merging.split_greatest.Goals as goal

pub followed_by-requires : goal.followed_by-requires
followed_by-requires g c = fits_first 24 c.args.front c.args.right.now c.in-Some-Some.y.now c.in-Some-Some.ys.now c.in-Some-Some.ensures'.cases.0
    c.requires.fits_right

pub followed_by-requires-in-Greater : goal.followed_by-requires-in-Greater
followed_by-requires-in-Greater g c =
    fits_first 24 c.args.front c.args.left.now c.in-Some-Some.x.now c.in-Some-Some.xs.now c.in-Some-Some.ensures.cases.0 c.requires.fits_left

pub followed_by-requires-in-Equal : goal.followed_by-requires-in-Equal
followed_by-requires-in-Equal g c =
    fits_first 24 c.args.front c.args.left.now c.in-Some-Some.x.now c.in-Some-Some.xs.now c.in-Some-Some.ensures.cases.0 c.requires.fits_left

pub add-requires-clause-has_a : goal.add-requires-clause-has_a
add-requires-clause-has_a g c = has_first
    (g.R.Ring.has c.args.ring.now) c.args.left.now c.in-Some-Some.x.now c.in-Some-Some.xs.now c.in-Some-Some.ensures.cases.0 c.requires.left_in_ring

pub add-requires-clause-has_b : goal.add-requires-clause-has_b
add-requires-clause-has_b g c = has_first
    (g.R.Ring.has c.args.ring.now) c.args.right.now c.in-Some-Some.y.now c.in-Some-Some.ys.now c.in-Some-Some.ensures'.cases.0 c.requires.right_in_ring

pub followed_by-requires-in-Some-None : goal.followed_by-requires-in-Some-None
followed_by-requires-in-Some-None g c =
    fits_first 24 c.args.front c.args.left.now c.in-Some-None.x.now c.in-Some-None.xs.now c.in-Some-None.ensures.cases.0 c.requires.fits_left

pub followed_by-requires-in-None-Some : goal.followed_by-requires-in-None-Some
followed_by-requires-in-None-Some g c =
    fits_first 24 c.args.front c.args.right.now c.in-None-Some.y.now c.in-None-Some.ys.now c.in-None-Some.ensures'.cases.0 c.requires.fits_right

pub returns-in-Less-clause-taken : goal.returns-in-Less-clause-taken
returns-in-Less-clause-taken g c =
    taken_right (g.R.Ring.has c.args.ring.now) (g.R.Ring.value c.args.ring.now)
    (g.R.Ring.modulus c.args.ring.now) c.args.front c.args.front c.args.left.now c.args.right.now c.in-Some-Some.y.now c.in-Some-Some.ys.now
    c.followed_by.result c.in-Some-Some.ensures'.cases.0 c.followed_by.ensures c.requires.left_in_ring c.requires.right_in_ring

pub returns-in-Greater-clause-taken : goal.returns-in-Greater-clause-taken
returns-in-Greater-clause-taken g c =
    taken_left (g.R.Ring.has c.args.ring.now) (g.R.Ring.value c.args.ring.now)
    (g.R.Ring.modulus c.args.ring.now) c.args.front c.args.front c.args.left.now c.args.right.now c.in-Some-Some.x.now c.in-Some-Some.xs.now
    c.followed_by-in-Greater.result c.in-Some-Some.ensures.cases.0 c.followed_by-in-Greater.ensures c.requires.left_in_ring c.requires.right_in_ring

pub returns-in-Equal-clause-taken : goal.returns-in-Equal-clause-taken
returns-in-Equal-clause-taken g c =
    let ring = c.args.ring.now in
    let has_x = has_first (g.R.Ring.has c.args.ring.now) c.args.left.now c.in-Some-Some.x.now c.in-Some-Some.xs.now c.in-Some-Some.ensures.cases.0
    c.requires.left_in_ring in
    let has_y = has_first (g.R.Ring.has c.args.ring.now) c.args.right.now c.in-Some-Some.y.now c.in-Some-Some.ys.now c.in-Some-Some.ensures'.cases.0
    c.requires.right_in_ring in
    taken_both (g.R.Ring.has c.args.ring.now) (g.R.Ring.value c.args.ring.now)
    (g.R.Ring.modulus c.args.ring.now) c.args.front c.args.front c.args.left.now c.args.right.now c.in-Some-Some.x.now c.in-Some-Some.xs.now
    c.in-Some-Some.y.now c.in-Some-Some.ys.now c.followed_by-in-Equal.result (c.args.front ++ c.in-Some-Some.y.now.0) c.add.result
    c.in-Some-Some.ensures.cases.0 c.in-Some-Some.ensures'.cases.0 c.followed_by-in-Equal.ensures refl
    (c.followed_by-in-Equal.ensures
    ∙ ap (λ w. c.args.front ++ w) (word_cmp-IsAntisymmetric c.in-Some-Some.x.now.0 c.in-Some-Some.y.now.0
    (sym c.in-Equal.ensures))) c.requires.left_in_ring c.requires.right_in_ring
    (subst (λ a. g.R.Ring.has ring a ≡ true) (sym c.add.ensures) (g.met.R.Ring.has_add ring c.in-Some-Some.x.now.1 c.in-Some-Some.y.now.1 has_x has_y))
    (ap (g.R.Ring.value ring) c.add.ensures ∙ g.met.R.Ring.value_add ring c.in-Some-Some.x.now.1 c.in-Some-Some.y.now.1 has_x has_y)

pub returns-in-Some-None-clause-taken : goal.returns-in-Some-None-clause-taken
returns-in-Some-None-clause-taken g c =
    taken_left (g.R.Ring.has c.args.ring.now) (g.R.Ring.value c.args.ring.now)
    (g.R.Ring.modulus c.args.ring.now) c.args.front c.args.front c.args.left.now c.args.right.now c.in-Some-None.x.now c.in-Some-None.xs.now
    c.followed_by-in-Some-None.result c.in-Some-None.ensures.cases.0 c.followed_by-in-Some-None.ensures c.requires.left_in_ring c.requires.right_in_ring

pub returns-in-None-Some-clause-taken : goal.returns-in-None-Some-clause-taken
returns-in-None-Some-clause-taken g c =
    taken_right (g.R.Ring.has c.args.ring.now) (g.R.Ring.value c.args.ring.now)
    (g.R.Ring.modulus c.args.ring.now) c.args.front c.args.front c.args.left.now c.args.right.now c.in-None-Some.y.now c.in-None-Some.ys.now
    c.followed_by-in-None-Some.result c.in-None-Some.ensures'.cases.0 c.followed_by-in-None-Some.ensures c.requires.left_in_ring c.requires.right_in_ring
