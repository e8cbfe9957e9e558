use Rattle.std.proofs.Common.{◌≡◌, ◌%◌, ℕ, List, sym, ap, ◌∙◌}
use Rattle.zeta_expr.specs.declared.expr.Factor.{Factor}
use Rattle.truncated_sums.specs.Inverses.{inverse_of}
use Rattle.truncated_sums.specs.TruncatedSums.{truncated_sum}
use Rattle.probe_replies.specs.Values.{factor_value}
use Rattle.probe_replies.proofs.ValueLemmas.{power_of_rest}
use Rattle.probe_replies.proofs.values.factor_value.Goals as goal

pub returns-in_ok-sum-in-Zeta-clause-value : goal.returns-in_ok-sum-in-Zeta-clause-value
returns-in_ok-sum-in-Zeta-clause-value g c =
    let ring = c.args.ring.now in
    let own = c.args.sums.now.0 in
    let m = g.R.Ring.modulus ring in
    let n = c.args.sums.now.1 in
    let v = g.R.Ring.value ring in
    let a = c.in_ok-sum-in-Zeta.sum in
    let index = c.in-Zeta.word in
    let rest : v a ≡ truncated_sum (inverse_of m) n index % m =
    g.met.R.Ring.value_same ring own (sym c.requires) a
    ∙ c.in_ok-sum-in-Zeta.ensures.value
    ∙ ap (λ (k : ℕ). truncated_sum (inverse_of k) n c.as_slice.result.now % k) c.requires
    ∙ ap (λ (w : List ℕ). truncated_sum (inverse_of m) n w % m) c.as_slice.ensures in
    power_of_rest m (v a) (truncated_sum (inverse_of m) n index) c.in-Zeta.k (v c.power.result) c.power.ensures.value rest
    ∙ ap (λ (f : Factor). factor_value m n f % m) (sym c.in-Zeta.is)
