use Rattle.std.proofs.Common.{◌∷◌, ap, sym, ◌∙◌, arith, length}
use Rattle.duality_map.proofs.DualLetters.{dual_of-take_more}
use Rattle.duality_map.proofs.duality.dual.Goals as goal

pub loop-i-preserved : goal.loop-i-preserved
loop-i-preserved c =
    let p = c.in_front-dual.ensures in
    record {
      shape = p ∙ (λ i. c.other_letter.ensures i ∷ c.loop-i.invariant.shape i)
          ∙ sym (dual_of-take_more c.args.w c.loop-i.i c.letter.result c.letter.ensures);
      weight = omega (arith, ap length p);
    }
