use Rattle.std.proofs.Common.{◌≡◌, ℕ, suc, ◌+◌, ◌-◌, ◌<◌, List, [], ◌∷◌, ◌++◌, ap, ◌∙◌, append_assoc, arith}
use Rattle.zeta_model.specs.declared.Letter.{Letter}
use Rattle.zeta_model.specs.declared.Letter.TheVariants.{X}
use Rattle.zeta_model.specs.Indices.{z_word}
use Rattle.zeta_model.proofs.product.z_letter.Goals as goal

-- one x more is written, and one less is left
x_written : (before after : List Letter) (k i : ℕ) → i < k → after ≡ before ++ X ∷ [] → before ++ z_word (k - i + 1) ≡ z_word k
    → after ++ z_word (k - (i + 1) + 1) ≡ z_word k
x_written before after k i l written whole =
    let n : ℕ = k - (i + 1) in
    let now : n + 1 ≡ suc n = omega arith in
    let then : suc (suc n) ≡ k - i + 1 = omega arith in
    (λ h. written h ++ z_word (now h)) ∙ append_assoc before (X ∷ []) (z_word (suc n)) ∙ ap (λ j. before ++ z_word j) then ∙ whole

pub loop-i-preserved : goal.loop-i-preserved
loop-i-preserved c = x_written _ _ c.args.k c.loop-i.i c.loop-i-test.true c.in_ok-push.ensures.items c.loop-i.invariant
