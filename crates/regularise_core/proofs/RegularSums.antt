-- The regularisation of sums of words that are admissible, and of words of one weight.
use Rattle.std.proofs.Common.{◌≡◌, ℕ, zero, suc, ◌+◌, ◌*◌, ◌<◌, Bool, true, false, ◌&&◌, List, [], ◌∷◌, length, refl, ◌∙◌, arith}
use Rattle.std.specs.Prelude.{All}
use Rattle.std.specs.Map.{keys_of}
use Rattle.std.proofs.lemmas.List.Elements.{All-head, All-tail}
use Rattle.zeta_model.specs.declared.Letter.{Letter}
use Rattle.zeta_model.specs.Words.{begins_with_x, ends_with_y, is_admissible}
use Rattle.zeta_model.specs.Regularise.{reg_of, reg_of_sum}
use Rattle.zeta_model.proofs.RegularValues.{reg_of-begins_with_x}
use Rattle.zeta_model.proofs.RegularWords.{reg_of-words}
use Rattle.zeta_model.specs.Sums.{numbered}
use Rattle.word_sums.specs.Terms.{coefficient_of}

abbrev Word : Type 0
Word = List Letter

both : (a b : Bool) → a && b ≡ true → a ≡ true
both true b e = refl
both false b e = e

pub reg_of_sum-admissible : {E : Type 0} (value : E → ℕ) (m : ℕ) (terms : List (Word × E)) → All (λ w. is_admissible w ≡ true) (keys_of terms) → (t : Word)
    → reg_of_sum m (numbered value terms) t ≡ coefficient_of value terms t
reg_of_sum-admissible value m [] all t = refl
reg_of_sum-admissible value m (term ∷ terms) all t =
    let first = reg_of-begins_with_x m term.0 t
    (both (begins_with_x term.0) (ends_with_y term.0) (All-head (λ w. is_admissible w ≡ true) term.0 (keys_of terms) all)) in
    λ i. value term.1 * first i + reg_of_sum-admissible value m terms (All-tail (λ w. is_admissible w ≡ true) term.0 (keys_of terms) all) t i

factor : (c n : ℕ) → 0 < c * n → 0 < n
factor c zero p = absurd (omega arith)
factor c (suc n) p = omega arith

pub reg_of_sum-words : (m k : ℕ) (terms : List (ℕ × Word)) → All (λ term. (ends_with_y term.1 ≡ true) × (length term.1 ≡ k)) terms → (t : Word)
    → 0 < reg_of_sum m terms t → (is_admissible t ≡ true) × (length t ≡ k)
reg_of_sum-words m k [] all t p = absurd (omega arith)
reg_of_sum-words m k (term ∷ terms) all t p =
    by (reg_of_sum m terms t) refl (reg_of_sum-words m k terms (All-tail (λ term. (ends_with_y term.1 ≡ true) × (length term.1 ≡ k)) term terms all) t)
  where
    by : (n : ℕ) → reg_of_sum m terms t ≡ n → (0 < reg_of_sum m terms t → (is_admissible t ≡ true) × (length t ≡ k)) → (is_admissible t ≡ true) × (length t ≡ k)
    by zero e more =
        let head = All-head (λ term. (ends_with_y term.1 ≡ true) × (length term.1 ≡ k)) term terms all in
        let r = reg_of-words m term.1 t head.0 (factor term.0 (reg_of m term.1 t) (omega arith)) in
        (r.0, r.1 ∙ head.1)
    by (suc n) e more = more (omega arith)
