use Rattle.std.proofs.Common.{◌≡◌, ℕ, ◌+◌, ◌*◌, ◌%◌, ◌<◌, length, sym, ap, subst, ◌∙◌, arith, mod-eq_of_lt}
use Rattle.zeta_model.specs.Modular.{Same}
use Rattle.zeta_model.specs.Regularise.{reg_of, sign_of}
use Rattle.zeta_model.specs.Alphabets.{shuffle_of}
use Rattle.zeta_model.specs.Sums.{sum_of, scaled}
use Rattle.word_sums.specs.Terms.{coefficient_of}
use Rattle.word_sums.proofs.SumLemmas.{IsSum_below, words_of_sum}
use Rattle.quasi_product.proofs.GainLemmas.{gains_modulo}
use Rattle.regularise_core.proofs.OneWord.{no_front, only_front, front_value, shuffle_weight}
use Rattle.kept_products.specs.declared.pairs.Kind.TheVariants.{Shuffle}
use Rattle.kept_products.proofs.regular.add_regularised.Goals as goal

pub returns-then-weight-eq0-clause-ok : goal.returns-then-weight-eq0-clause-ok
returns-then-weight-eq0-clause-ok g c = record {
  each = λ t.
      let old : ℕ = coefficient_of (g.R.Ring.value c.args.ring.now) c.args.sum.now t in
      let v : ℕ = g.R.Ring.value c.args.ring.now c.args.c in
      let m : ℕ = g.R.Ring.modulus c.args.ring.now in
      c.in_ok-add_term.ensures.ok t
      ∙ ap (λ n. (old + v * n) % m) (sym
      (no_front m c.args.word c.split_y-front.result.0 c.split_y-front.result.1 t c.split_y-front.ensures.whole c.split_y-front.ensures.stops
      (omega arith)));
}

pub returns-then-weight-eq0-2-clause-ok : goal.returns-then-weight-eq0-2-clause-ok
returns-then-weight-eq0-2-clause-ok g c = record {
  each = λ t.
      let ring = c.args.ring.now in
      let value = g.R.Ring.value ring in
      let old : ℕ = coefficient_of value c.args.sum.now t in
      let v : ℕ = value c.args.c in
      let m : ℕ = g.R.Ring.modulus ring in
      let pos : 0 < m = omega (arith, g.met.R.Ring.modulus_from ring) in
      let none : reg_of m c.args.word t ≡ 0 =
      only_front m c.args.word c.split_y-front.result.0 c.split_y-front.result.1 t c.split_y-front.ensures.whole c.split_y-front.ensures.front
      (omega arith) (omega arith) in
      let plain : old ≡ old + v * 0 = omega arith in
      sym (mod-eq_of_lt (IsSum_below g.R.Ring.zero (g.R.Ring.has ring) value m c.args.sum.now pos (g.met.R.Ring.value_below ring) c.requires.sum t))
      ∙ ap (λ n. n % m) plain ∙ ap (λ n. (old + v * n) % m) (sym none);
}

pub add_behind_x-requires-clause-words_in_ring : goal.add_behind_x-requires-clause-words_in_ring
add_behind_x-requires-clause-words_in_ring g c =
    let ring = c.args.ring.now in
    (c.product_at.ensures g.R.Ring.zero (g.R.Ring.has ring) (g.R.Ring.value ring) (g.R.Ring.modulus ring) Shuffle c.split_y-front.result.0 c.tail.result
    c.in_ok-place.ensures.there).value_is.in_ring

pub add_behind_x-requires-clause-fits : goal.add_behind_x-requires-clause-fits
add_behind_x-requires-clause-fits g c =
    let ring = c.args.ring.now in
    let r = g.met.R.Ring in
    let product =
    c.product_at.ensures g.R.Ring.zero (g.R.Ring.has ring) (g.R.Ring.value ring) (g.R.Ring.modulus ring) Shuffle c.split_y-front.result.0 c.tail.result
    c.in_ok-place.ensures.there in
    words_of_sum g.R.Ring.zero (g.R.Ring.has ring) (g.R.Ring.value ring) (g.R.Ring.modulus ring) (λ w. length w < 24)
    (sum_of (shuffle_of c.split_y-front.result.0 c.tail.result)) c.product_at.result.now
    (r.has_zero ring) (r.value_zero ring) (r.value_injective ring) product.value_is
    (λ t some. shuffle_weight c.split_y-front.result.0 c.split_y-front.result.1 t c.split_y-front.ensures.weights (omega arith)
    (subst (λ w. 0 < sum_of (shuffle_of c.split_y-front.result.0 w) t) c.tail.ensures some))

pub returns-clause-ok : goal.returns-clause-ok
returns-clause-ok g c =
    let ring = c.args.ring.now in
    let value = g.R.Ring.value ring in
    let m : ℕ = g.R.Ring.modulus ring in
    let front = c.split_y-front.result.0 in
    let rest = c.split_y-front.result.1 in
    let product =
    c.product_at.ensures g.R.Ring.zero (g.R.Ring.has ring) value m Shuffle front c.tail.result c.in_ok-place.ensures.there in
    let sign : Same m (value c.signed.result) (value c.args.c * sign_of m (length front)) = c.signed.ensures.value
    ∙ ap (λ j. value c.args.c * sign_of m j % m) c.weight-3.ensures.length in
    gains_modulo m _ _ _ (scaled (value c.args.c) (reg_of m c.args.word))
    (λ t. front_value m (omega (arith, g.met.R.Ring.modulus_from ring)) value c.product_at.result.now front rest
    (λ r. product.value_is.coefficients r ∙ ap (λ w. sum_of (shuffle_of front w) r % m) c.tail.ensures)
    c.args.word t (value c.signed.result) (value c.args.c) c.split_y-front.ensures.whole c.split_y-front.ensures.front c.split_y-front.ensures.stops
    (omega arith) sign)
    c.in_ok-add_behind_x.ensures.ok
