use Rattle.std.proofs.Common.{◌+◌, ◌*◌, ◌<◌, All, List, [], ◌∷◌, length, drop, sym, subst, drop_of_length-le}
use Rattle.std.specs.List.{sum}
use Rattle.word_sums.specs.Sums.{IsSumOf}
use Rattle.zeta_model.specs.declared.Letter.{Letter}
use Rattle.zeta_model.specs.Sums.{single, continued}
use Rattle.zeta_expr.specs.Inner.{HasRoom}
use Rattle.zeta_expr.specs.Meaning.{times_zetas, times_power}
use Rattle.zeta_expr.proofs.GivingLemmas.{Ahead, ahead_begins, zeta_room, ahead_zeta, ahead_other, ahead_ends, front_of, formed_at}
use Rattle.zeta_expr.proofs.sums.zetas_product.Goals as goal
use Rattle.zeta_expr.proofs.sums.zetas_product.Goals.{in-Zeta+in_ok-product-2, in_default}

pub loop-factor-init : goal.loop-factor-init
loop-factor-init g c =
    let ring = c.args.ring.now in
    ahead_begins g.R.Ring.zero (g.R.Ring.has ring) (g.R.Ring.value ring) (g.R.Ring.modulus ring) c.in_ok-product.product c.args.factors.now
    c.empty.result c.empty.ensures c.in_ok-product.ensures c.requires.fits

pub times_power-requires-clause-some : goal.times_power-requires-clause-some
times_power-requires-clause-some g c =
    subst (λ w. 0 < length w) (sym c.as_slice.ensures)
    (formed_at c.args.factors.now c.loop-factor.factor-index c.factor-item.result c.in-Zeta.word c.in-Zeta.power c.requires.formed
    c.loop-factor-test.true c.factor-item.is c.in-Zeta.is).0

pub times_power-requires-clause-positive : goal.times_power-requires-clause-positive
times_power-requires-clause-positive g c =
    subst (λ w. All (λ k. 0 < k) w) (sym c.as_slice.ensures)
    (formed_at c.args.factors.now c.loop-factor.factor-index c.factor-item.result c.in-Zeta.word c.in-Zeta.power c.requires.formed
    c.loop-factor-test.true c.factor-item.is c.in-Zeta.is).1

pub times_power-requires-clause-room : goal.times_power-requires-clause-room
times_power-requires-clause-room g c =
    let ring = c.args.ring.now in
    let m = g.R.Ring.modulus ring in
    let fs = c.args.factors.now in
    let i = c.loop-factor.factor-index in
    subst (λ w. HasRoom g.R.Ring.zero (g.R.Ring.has ring) (g.R.Ring.value ring) m c.loop-factor.product (c.in-Zeta.power * sum w)) (sym c.as_slice.ensures)
    (zeta_room g.R.Ring.zero (g.R.Ring.has ring) (g.R.Ring.value ring) m c.loop-factor.product (drop i fs) (drop (i + 1) fs) (times_zetas m fs
    ((1, []) ∷ []))
    c.factor-item.result c.in-Zeta.word c.in-Zeta.power
    (front_of fs i c.factor-item.result c.loop-factor-test.true c.factor-item.is) c.in-Zeta.is c.loop-factor.invariant)

pub loop-factor-preserved : goal.loop-factor-preserved
loop-factor-preserved g c =
    let ring = c.args.ring.now in
    let zero = g.R.Ring.zero in
    let has = g.R.Ring.has ring in
    let v = g.R.Ring.value ring in
    let m = g.R.Ring.modulus ring in
    let fs = c.args.factors.now in
    let i = c.loop-factor.factor-index in
    let end = times_zetas m fs ((1, []) ∷ []) in
    let front = front_of fs i c.factor-item.result c.loop-factor-test.true c.factor-item.is in
    elim c.match-factor.branch [
      | in-Zeta+in_ok-product-2 w ↦
          subst (λ (s : List (List Letter × g.row.R-Elem.Denot)). Ahead zero has v m s (drop (i + 1) fs) end) (sym w.product-is)
          (ahead_zeta zero has v m c.loop-factor.product w.in_ok-product-2.product (drop i fs) (drop (i + 1) fs) end
          c.factor-item.result w.in-Zeta.word w.in-Zeta.power front w.in-Zeta.is c.loop-factor.invariant
          (λ p b. subst (λ k. IsSumOf zero has v m (continued single (times_power m k w.in-Zeta.power p)) w.in_ok-product-2.product) w.as_slice.ensures
          (w.in_ok-product-2.ensures p b)))
      | in_default w ↦
          subst (λ (s : List (List Letter × g.row.R-Elem.Denot)). Ahead zero has v m s (drop (i + 1) fs) end) (sym w.product-is)
          (ahead_other zero has v m c.loop-factor.product (drop i fs) (drop (i + 1) fs) end c.factor-item.result front
          w.in_default.not-Zeta c.loop-factor.invariant)
    ]

pub returns : goal.returns
returns g c =
    let ring = c.args.ring.now in
    ahead_ends g.R.Ring.zero (g.R.Ring.has ring) (g.R.Ring.value ring) (g.R.Ring.modulus ring) c.loop-factor.product
    (drop c.loop-factor.factor-index c.args.factors.now)
    (times_zetas (g.R.Ring.modulus ring) c.args.factors.now ((1, []) ∷ [])) (drop_of_length-le c.args.factors.now c.loop-factor-test.false)
    c.loop-factor.invariant
