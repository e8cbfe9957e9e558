use Rattle.std.proofs.Common.{◌≡◌, ◌+◌, ◌*◌, ◌%◌, ap, ◌∙◌, arith}
use Rattle.zeta_model.specs.Sums.{single}
use Rattle.word_sums.specs.Terms.{coefficient_of}
use Rattle.cert_checker.proofs.column_words.word_sum.Goals as goal

pub returns : goal.returns
returns g c = record {
  terms = c.in_ok-add_term.ensures.terms;
  in_ring = c.in_ok-add_term.ensures.in_ring;
  coefficients = λ t.
      let value = g.R.Ring.value c.args.ring.now in
      let m = g.R.Ring.modulus c.args.ring.now in
      let one : value c.one.result ≡ 1 = ap value c.one.ensures ∙ g.met.R.Ring.value_one c.args.ring.now in
      c.in_ok-add_term.ensures.ok t
      ∙ (λ i. (coefficient_of value (c.new-sum.ensures i) t + one i * single c.args.u t) % m)
      ∙ ap (λ n. n % m) (omega arith);
}
