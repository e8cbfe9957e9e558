use Rattle.std.proofs.Common.{◌≡◌, ℕ, ◌+◌, ◌*◌, ◌%◌, ap, ◌∙◌, arith}
use Rattle.zeta_model.proofs.ModularLemmas.{same-add_right, same-mod}
use Rattle.word_sums.specs.Terms.{coefficient_of}
use Rattle.word_sums.proofs.word_sum.WordSum.add_scaled.Goals as goal

once : (n u : ℕ) → u ≡ 1 → u * n ≡ n
once n u is = ap (λ k. k * n) is ∙ omega arith

pub returns-clause-ok : goal.returns-clause-ok
returns-clause-ok g c t =
    let value = g.R.Ring.value c.args.ring.now in
    let m = g.R.Ring.modulus c.args.ring.now in
    let one : value c.one.result ≡ 1 = ap value c.one.ensures ∙ g.met.R.Ring.value_one c.args.ring.now in
    let copy : coefficient_of value c.in_ok-sum.sum t ≡ coefficient_of value c.args.self.now t % m =
    c.in_ok-sum.ensures.ok t ∙ ap (λ n. n % m) (once (coefficient_of value c.args.self.now t) (value c.one.result) one) in
    c.in_ok-add_each.ensures.ok t ∙ ap (λ n. (n + value c.args.c * coefficient_of value c.args.other.now t) % m) copy
    ∙ same-add_right m (coefficient_of value c.args.self.now t % m) (coefficient_of value c.args.self.now t)
    (value c.args.c * coefficient_of value c.args.other.now t) (same-mod m (coefficient_of value c.args.self.now t))
