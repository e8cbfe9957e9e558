use Rattle.std.proofs.Common.{ℕ}
use Rattle.zeta_model.specs.Alphabets.{shuffle_of, stuffle_of}
use Rattle.zeta_model.specs.Sums.{sum_of}
use Rattle.word_sums.specs.Terms.{coefficient_of}
use Rattle.relation_list.proofs.ValueLemmas.{from_rest, difference_made}
use Rattle.relation_list.proofs.name_value.fin_value.Goals as goal

pub returns : goal.returns
returns g c = record {
  terms = c.in_ok-add_scaled.ensures.terms;
  in_ring = c.in_ok-add_scaled.ensures.in_ring;
  coefficients = λ t.
      let m : ℕ = g.R.Ring.modulus c.args.ring.now in
      let value = g.R.Ring.value c.args.ring.now in
      let a : ℕ = coefficient_of value c.in_ok-sum.sum t in
      let b : ℕ = coefficient_of value c.in_ok-stuffle.stuffle t in
      let s : ℕ = sum_of (shuffle_of c.args.u c.args.v) t in
      let r : ℕ = sum_of (stuffle_of c.args.u c.args.v) t in
      difference_made m s r a b (value c.minus_one.result) (coefficient_of value c.add_scaled.new.self t)
      (from_rest m a s (c.in_ok-sum.ensures.value.coefficients t))
      (from_rest m b r (c.in_ok-stuffle.ensures.value.coefficients t)) c.minus_one.ensures.value (c.in_ok-add_scaled.ensures.ok t);
}
