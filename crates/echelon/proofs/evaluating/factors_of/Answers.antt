use Rattle.std.proofs.Common.{◌≡◌, [], ◌∷◌, ◌++◌, length, true, sym, ◌∙◌, ap, subst, arith, below_more}
use Rattle.std.specs.List.{All}
use Rattle.echelon.specs.Inner.{numbers_of}
use Rattle.echelon.specs.Offers.{used_at}
use Rattle.echelon.proofs.SumLemmas.{All-push, numbers_of-push_before, numbers_of-push_last}
use Rattle.echelon.proofs.evaluating.factors_of.Goals as goal

pub loop-i-preserved : goal.loop-i-preserved
loop-i-preserved g c =
    let ring = c.args.ring.now in
    let value = g.R.Ring.value ring in
    let xs = c.loop-i.factors.items in
    let pushed : c.push.new.self.items ≡ xs ++ c.entry.result ∷ [] = c.in_ok-push.ensures.items in
    let count : length xs ≡ c.loop-i.i = c.loop-i.invariant.count in
    record {
      count = omega (arith, c.in_ok-push.ensures.len, count);
      in_ring = subst (All (λ a. g.R.Ring.has ring a ≡ true)) (sym pushed)
          (All-push (λ a. g.R.Ring.has ring a ≡ true) xs c.entry.result c.loop-i.invariant.in_ring c.entry.ensures.has);
      at = below_more (λ i. numbers_of value c.push.new.self.items i ≡ used_at value c.args.numbers.now c.args.uses.now i) c.loop-i.i
          (λ i l. ap (λ ys. numbers_of value ys i) pushed ∙ numbers_of-push_before value xs c.entry.result i (omega arith) ∙ c.loop-i.invariant.at i l)
          (ap (λ ys. numbers_of value ys c.loop-i.i) pushed ∙ ap (numbers_of value (xs ++ c.entry.result ∷ [])) (sym count)
          ∙ numbers_of-push_last value xs c.entry.result ∙ c.entry.ensures.value);
    }
