use Rattle.std.proofs.Common.{ℕ, ◌+◌, ◌*◌, ◌%◌, refl, ap, ◌∙◌}
use Rattle.zeta_model.specs.Duality.{dual_of}
use Rattle.zeta_model.specs.Sums.{single}
use Rattle.word_sums.specs.Terms.{coefficient_of}
use Rattle.relation_list.proofs.ValueLemmas.{from_rest, difference_made}
use Rattle.relation_list.proofs.name_value.dual_value.Goals as goal

pub returns : goal.returns
returns g c = record {
  terms = c.in_ok-add_term.ensures.terms;
  in_ring = c.in_ok-add_term.ensures.in_ring;
  coefficients = λ t.
      let m : ℕ = g.R.Ring.modulus c.args.ring.now in
      let value = g.R.Ring.value c.args.ring.now in
      let a : ℕ = coefficient_of value c.in_ok-sum.sum t in
      let k : ℕ = value c.minus_one.result in
      difference_made m (single c.args.u t) (single (dual_of c.args.u) t) a (single (dual_of c.args.u) t) k (coefficient_of value c.add_term.new.self t)
      (from_rest m a (single c.args.u t) (c.in_ok-sum.ensures.coefficients t)) refl c.minus_one.ensures.value
      (c.in_ok-add_term.ensures.ok t ∙ ap (λ w. (a + k * single w t) % m) c.dual.ensures);
}
