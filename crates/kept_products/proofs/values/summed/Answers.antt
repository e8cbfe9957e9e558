use Rattle.std.proofs.Common.{◌≡◌, ℕ, ◌+◌, ◌%◌, ◌≤◌, List, length, true, sym, ap, ◌∙◌, arith}
use Rattle.zeta_model.specs.declared.Letter.{Letter}
use Rattle.zeta_model.specs.Alphabets.{shuffle_of}
use Rattle.zeta_model.specs.Sums.{sum_of}
use Rattle.word_sums.proofs.SumLemmas.{words_of_sum}
use Rattle.relation_list.specs.Names.{direct_weight_of, weight_of_name, is_direct}
use Rattle.relation_list.specs.Values.{direct_value_of, value_of}
use Rattle.relation_list.proofs.HeldWords.{after_ok}
use Rattle.relation_list.proofs.NameBounds.{weight_of_name-le, prod-parts}
use Rattle.relation_list.proofs.ValueLemmas.{direct_value_of-none, direct_value_of-weight, continued_all_words}
use Rattle.kept_products.proofs.values.summed.Goals as goal

pub times_word-requires-clause-fits : goal.times_word-requires-clause-fits
times_word-requires-clause-fits g c =
    let ring = c.args.ring.now in
    let t = g.met.R.Ring in
    let m : ℕ = g.R.Ring.modulus ring in
    let r = c.in-Prod.r in
    let direct : is_direct r ≡ true = (prod-parts c.args.name.now r c.in-Prod.u c.requires.name c.in-Prod.is).0 in
    let whole : weight_of_name c.args.name.now ≡ direct_weight_of r + length c.in-Prod.u = ap weight_of_name c.in-Prod.is in
    words_of_sum g.R.Ring.zero (g.R.Ring.has ring) (g.R.Ring.value ring) m (λ w. length w + length c.in-Prod.u ≤ 24)
    (direct_value_of m r) c.in_ok-factor-in-Prod.factor
    (t.has_zero ring) (t.value_zero ring) (t.value_injective ring) c.in_ok-factor-in-Prod.ensures.value
    (λ w some. omega (arith, whole, weight_of_name-le c.args.name.now c.requires.name, direct_value_of-weight m r direct w some))

pub returns-in_ok-factor-in-Prod-clause-value : goal.returns-in_ok-factor-in-Prod-clause-value
returns-in_ok-factor-in-Prod-clause-value g c =
    let ring = c.args.ring.now in
    let m : ℕ = g.R.Ring.modulus ring in
    let r = c.in-Prod.r in
    let u : List Letter = c.in-Prod.u in
    let direct : is_direct r ≡ true = (prod-parts c.args.name.now r u c.requires.name c.in-Prod.is).0 in
    after_ok _ _
    (λ sum made. record {
      terms = made.terms;
      in_ring = made.in_ring;
      coefficients = λ t.
          made.coefficients t
          ∙ continued_all_words m (g.R.Ring.value ring) c.in_ok-factor-in-Prod.factor (direct_weight_of r) (direct_value_of m r)
          (omega (arith, g.met.R.Ring.modulus_from ring)) c.in_ok-factor-in-Prod.ensures.value.coefficients
          (direct_value_of-none m r direct) (λ w. sum_of (shuffle_of w u)) t
          ∙ ap (λ n. value_of m n t % m) (sym c.in-Prod.is);
    })
    c.times_word.result c.times_word.ensures.value

pub direct_value-requires-clause-fits : goal.direct_value-requires-clause-fits
direct_value-requires-clause-fits g c = omega (arith, weight_of_name-le c.args.name.now c.requires.name, ap weight_of_name c.in-Plain.is)
