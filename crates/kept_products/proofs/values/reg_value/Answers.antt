use Rattle.std.proofs.Common.{◌≡◌, ℕ, ◌*◌, ◌%◌, length, ap, ◌∙◌, arith}
use Rattle.std.proofs.Math.Nat.{mod-mod}
use Rattle.zeta_model.specs.Alphabets.{stuffle_of}
use Rattle.zeta_model.specs.Regularise.{y_word, reg_of}
use Rattle.zeta_model.specs.Sums.{sum_of}
use Rattle.zeta_model.specs.Words.{has_index}
use Rattle.word_sums.specs.Terms.{coefficient_of}
use Rattle.relation_list.proofs.HeldWords.{after_ok}
use Rattle.relation_list.proofs.ValueLemmas.{has_index-y_word, length-y_word, continued_list}
use Rattle.kept_products.specs.declared.pairs.Kind.TheVariants.{Stuffle}
use Rattle.kept_products.proofs.values.reg_value.Goals as goal

pub place_within-requires-clause-covers_u : goal.place_within-requires-clause-covers_u
place_within-requires-clause-covers_u g c = ap has_index c.y_power.ensures ∙ has_index-y_word c.args.m

pub place_within-requires-clause-fits : goal.place_within-requires-clause-fits
place_within-requires-clause-fits g c = omega (arith, ap length c.y_power.ensures, length-y_word c.args.m)

pub scaled-requires-clause-in_ring : goal.scaled-requires-clause-in_ring
scaled-requires-clause-in_ring g c =
    let ring = c.args.ring.now in
    (c.product_at.ensures g.R.Ring.zero (g.R.Ring.has ring) (g.R.Ring.value ring) (g.R.Ring.modulus ring) Stuffle c.y_power.result c.args.v
    c.in_ok-place.ensures.there).value_is.in_ring

pub returns-clause-value : goal.returns-clause-value
returns-clause-value g c =
    let ring = c.args.ring.now in
    let m : ℕ = g.R.Ring.modulus ring in
    let value = g.R.Ring.value ring in
    let stuffle =
    c.product_at.ensures g.R.Ring.zero (g.R.Ring.has ring) value m Stuffle c.y_power.result c.args.v c.in_ok-place.ensures.there in
    let one : value c.one.result ≡ 1 = ap value c.one.ensures ∙ g.met.R.Ring.value_one ring in
    after_ok _ _
    (λ sum made. record {
      terms = made.terms;
      in_ring = made.in_ring;
      coefficients = λ t.
          made.coefficients t
          ∙ continued_list m value c.in_ok-stuffle.stuffle (stuffle_of (y_word c.args.m) c.args.v)
          (omega (arith, g.met.R.Ring.modulus_from ring))
          (λ r.
          let s : ℕ = coefficient_of value c.product_at.result.now r in
          let once : 1 * s ≡ s = omega arith in
          c.in_ok-stuffle.ensures.ok r ∙ ap (λ n. n * s % m) one ∙ ap (λ n. n % m) (once ∙ stuffle.value_is.coefficients r)
          ∙ mod-mod (sum_of (stuffle_of c.y_power.result c.args.v) r) m ∙ ap (λ w. sum_of (stuffle_of w c.args.v) r % m) c.y_power.ensures)
          (reg_of m) t;
    })
    c.regularised.result c.regularised.ensures.value
