use Rattle.std.proofs.Common.{◌≡◌, ℕ, ◌<◌, [], length, get_or, ◌∙◌, ap, subst}
use Rattle.echelon.specs.Offers.{used_at}
use Rattle.echelon.specs.Inner.{IsEvaluated}
use Rattle.echelon.proofs.echelon.Echelon.finish.Goals as goal

pub returns-clause-sums : goal.returns-clause-sums
returns-clause-sums g c =
    let s = c.args.self.now in
    let m = g.R.Ring.modulus s.core.ring in
    let has = g.R.Ring.has s.core.ring in
    let value = g.R.Ring.value s.core.ring in
    let uses = c.in_ok-made.made.uses.items in
    let uses_is : c.deref.result.now ≡ uses = c.deref.ensures.value in
    let made = c.in_ok-made.ensures.uses in
    let each : (j : ℕ) → j < length c.in_ok-combinations.combinations.items
    → IsEvaluated m has value s.core.numbers s.combinations (get_or uses j []) (get_or c.in_ok-combinations.combinations.items j []) = λ j h.
    subst (λ us. IsEvaluated m has value s.core.numbers s.combinations (get_or us j []) (get_or c.in_ok-combinations.combinations.items j [])) uses_is
    (c.in_ok-combinations.ensures.sums j h) in
    record {
      count = c.in_ok-combinations.ensures.count ∙ ap length uses_is ∙ made.count;
      in_ring = λ j h. (each j h).sum_in_ring;
      factors = λ j. used_at value s.core.numbers (get_or uses j []);
      sums = made.sums;
      combined = λ j h. (each j h).is_sum;
    }
