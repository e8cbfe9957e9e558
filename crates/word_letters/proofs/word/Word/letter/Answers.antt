use Rattle.std.proofs.Common.{◌≡◌, ℕ, List, ◌-◌, ◌/◌, ◌%◌, ◌^◌, ◌<◌, ◌∙◌, ap, sym, length, slice_get, Some, arith}
use Rattle.zeta_model.specs.declared.Letter.{Letter}
use Rattle.zeta_model.specs.declared.Letter.TheVariants.{X, Y}
use Rattle.word_letters.specs.Packing.{word_of, IsPacked}
use Rattle.zeta_model.specs.Words.{letter_at_rank}
use Rattle.std.proofs.lemmas.Nat.{mod_below}
use Rattle.word_letters.proofs.Packings.{letter_at}
use Rattle.word_letters.proofs.word.Word.letter.Goals as goal

letter_of_one : (d : ℕ) → d ≡ 1 → letter_at_rank d ≡ Y
letter_of_one d e = ap letter_at_rank e

letter_of_other : (d : ℕ) → d < 2 → (d ≡ 1 → ⊥) → letter_at_rank d ≡ X
letter_of_other d h n = ap letter_at_rank (let z : d ≡ 0 = omega arith in z)

digit : (n : ℕ) (w : List Letter) (i : ℕ) → IsPacked n → word_of n ≡ w → i < length w → slice_get w i ≡ Some (letter_at_rank (n / 32 / 2 ^ (23 - i) % 2))
digit n w i p e h = ap (λ v. slice_get v i) (sym e) ∙ letter_at n i p (omega (arith, ap length e))

pub returns-then-self-i-eq1 : goal.returns-then-self-i-eq1
returns-then-self-i-eq1 c =
    digit _ _ c.args.i c.self.invariant c.self.view_is c.requires ∙ ap Some (letter_of_one _ c.if-self-i-eq1.true)

pub returns-else-self-i-eq1 : goal.returns-else-self-i-eq1
returns-else-self-i-eq1 c =
    digit _ _ c.args.i c.self.invariant c.self.view_is c.requires ∙ ap Some (letter_of_other _ (mod_below _ 2 (omega arith)) c.if-self-i-eq1.false)
