use Rattle.std.proofs.Common.{◌≡◌, ℕ, ◌+◌, ◌*◌, ◌%◌, refl, ap, ◌∙◌, arith}
use Rattle.zeta_model.specs.Alphabets.{shuffle_of, stuffle_of}
use Rattle.zeta_model.specs.Sums.{sum_of}
use Rattle.word_sums.specs.Terms.{coefficient_of}
use Rattle.word_sums.proofs.SumLemmas.{IsSum-none}
use Rattle.relation_list.proofs.ValueLemmas.{from_rest, difference_made}
use Rattle.kept_products.proofs.values.fin_value.Goals as goal

pub add_kept-requires-clause-sum : goal.add_kept-requires-clause-sum
add_kept-requires-clause-sum g c = IsSum-none g.R.Ring.zero (g.R.Ring.has c.args.ring.now) c.in_ok-sum.sum c.in_ok-sum.ensures

pub returns-clause-value : goal.returns-clause-value
returns-clause-value g c = record {
  terms = c.in_ok-add_kept-2.ensures.sum.terms;
  in_ring = c.in_ok-add_kept-2.ensures.sum.in_ring;
  coefficients = λ t.
      let ring = c.args.ring.now in
      let m : ℕ = g.R.Ring.modulus ring in
      let value = g.R.Ring.value ring in
      let one : value c.one.result ≡ 1 = ap value c.one.ensures ∙ g.met.R.Ring.value_one ring in
      let a : ℕ = coefficient_of value c.add_kept.new.sum t in
      let s : ℕ = sum_of (shuffle_of c.args.u c.args.v) t in
      let r : ℕ = sum_of (stuffle_of c.args.u c.args.v) t in
      let first : a ≡ s % m =
      c.in_ok-add_kept.ensures.ok.each t ∙ (λ i. (coefficient_of value (c.in_ok-sum.ensures i) t + one i * s) % m) ∙ ap (λ n. n % m) (omega arith) in
      difference_made m s r a r (value c.minus_one.result) (coefficient_of value c.add_kept-2.new.sum t) (from_rest m a s first) refl
      c.minus_one.ensures.value (c.in_ok-add_kept-2.ensures.ok.each t);
}
