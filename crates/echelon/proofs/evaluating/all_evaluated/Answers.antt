use Rattle.std.proofs.Common.{◌≡◌, ℕ, ◌<◌, [], ◌∷◌, ◌++◌, length, get_or, sym, ◌∙◌, ap, subst, arith}
use Rattle.std.proofs.lemmas.List.{get_or_default}
use Rattle.echelon.specs.Inner.{IsEvaluated}
use Rattle.echelon.proofs.RowLists.{at_each}
use Rattle.echelon.proofs.evaluating.all_evaluated.Goals as goal

pub loop-i-preserved : goal.loop-i-preserved
loop-i-preserved g c =
    let ring = c.args.ring.now in
    let m = g.R.Ring.modulus ring in
    let has = g.R.Ring.has ring in
    let value = g.R.Ring.value ring in
    let ys = c.loop-i.sums.items in
    let numbers = c.args.numbers.now in
    let combinations = c.args.combinations.now in
    let inside : c.loop-i.i < length c.args.uses.now = omega (arith, c.loop-i-test.true) in
    let uses_is : c.index-uses-i.result ≡ get_or c.args.uses.now (length ys) [] =
    c.index-uses-i.is ∙ get_or_default c.args.uses.now c.loop-i.i c.index-uses-i.result [] inside
    ∙ ap (λ k. get_or c.args.uses.now k []) (sym c.loop-i.invariant.count) in
    let pushed : c.push.new.self.items ≡ ys ++ c.in_ok-sum.sum ∷ [] = c.in_ok-push.ensures.items in
    let here : IsEvaluated m has value numbers combinations (get_or c.args.uses.now (length ys) []) c.in_ok-sum.sum =
    subst (λ us. IsEvaluated m has value numbers combinations us c.in_ok-sum.sum) uses_is
    (record { is_sum = c.in_ok-sum.ensures.evaluated; sum_in_ring = c.in_ok-sum.ensures.in_ring }) in
    record {
      count = omega (arith, c.in_ok-push.ensures.len, c.loop-i.invariant.count);
      sums = subst (λ xs. (j : ℕ) → j < length xs
          → IsEvaluated m has value numbers combinations (get_or c.args.uses.now j []) (get_or xs j [])) (sym pushed)
          (at_each ys c.in_ok-sum.sum [] (λ j es. IsEvaluated m has value numbers combinations
          (get_or c.args.uses.now j []) es) c.loop-i.invariant.sums here);
    }
