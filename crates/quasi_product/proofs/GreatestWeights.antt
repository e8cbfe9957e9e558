-- The greatest weight of a word of a sum.
use Rattle.std.proofs.Common.{◌≡◌, cond, Less, Equal, Greater, nat_cmp, ℕ, zero, suc, ◌<◌, ◌≤◌, List, [], ◌∷◌, length, max, slice_index_or, refl, sym, ap, ◌∙◌, arith}
use Rattle.std.specs.Prelude.{All}
use Rattle.std.specs.Map.{keys_of}
use Rattle.std.specs.Ordering.{ord_max, is_lt}
use Rattle.std.specs.Cmp.{nat_cmp_is}
use Rattle.std.proofs.Math.Logic.{◌⊎◌}
use mathlib.Core.Logic.{inl, inr}
use Rattle.std.proofs.lemmas.Bool.{cases_lt}
use Rattle.zeta_model.specs.declared.Letter.{Letter}
use Rattle.quasi_product.specs.SumProducts.{HasWeight}

abbrev Word : Type 0
Word = List Letter

-- what `max` answers at unsigned numbers
pub ord_max-nat_cmp : (a b : ℕ) → ord_max nat_cmp a b ≡ max a b
ord_max-nat_cmp a b = go (cases_lt b a) (cases_lt a b)
  where
    go : (b < a) ⊎ (a ≤ b) → (a < b) ⊎ (b ≤ a) → ord_max nat_cmp a b ≡ max a b
    go (inl h) k = ap (λ o. cond (is_lt o) a b) (sym (nat_cmp_is b a Less h)) ∙ omega arith
    go (inr h) (inl k) = ap (λ o. cond (is_lt o) a b) (sym (nat_cmp_is b a Greater k)) ∙ omega arith
    go (inr h) (inr k) = ap (λ o. cond (is_lt o) a b) (sym (nat_cmp_is b a Equal (omega arith))) ∙ omega arith

module _ {E : Type 0} where
  -- the greatest weight of a word of the terms, 0 where there is none
  unfoldable pub greatest_length : List (Word × E) → ℕ
  greatest_length [] = 0
  greatest_length (e ∷ es) = max (length e.0) (greatest_length es)

  pub greatest_length-first : (w : Word) (c : E) (before rest : List (Word × E)) → before ≡ (w, c) ∷ rest
      → greatest_length before ≡ max (length w) (greatest_length rest)
  unfolding greatest_length
  greatest_length-first w c before rest is = ap greatest_length is

  pub greatest_length-none : (rest : List (Word × E)) → rest ≡ [] → greatest_length rest ≡ 0
  unfolding greatest_length
  greatest_length-none rest is = ap greatest_length is

  within : (es : List (Word × E)) (n k : ℕ) (d : Word) → greatest_length es ≤ n → k < length (keys_of es) → length (slice_index_or (keys_of es) k d) ≤ n
  unfolding greatest_length
  within [] n k d h l = absurd (omega arith)
  within (e ∷ es) n zero d h l = omega arith
  within (e ∷ es) n (suc k) d h l = within es n k d (omega arith) (omega arith)

  pub greatest_length-most : (es : List (Word × E)) (n : ℕ) → greatest_length es ≡ n → All (λ u. length u ≤ n) (keys_of es)
  greatest_length-most es n is k d l = within es n k d (omega arith) l

  later : (e : Word × E) (es : List (Word × E)) (n : ℕ) → HasWeight es n → HasWeight (e ∷ es) n
  later e es n h = (h.0, (suc h.1.0, omega (arith, h.1.1), h.1.2), h.2)

  pub greatest_length-reached : (es : List (Word × E)) (n : ℕ) → greatest_length es ≡ n → 0 < n → HasWeight es n
  unfolding greatest_length
  greatest_length-reached [] n is p = absurd (omega arith)
  greatest_length-reached (e ∷ es) n is p = go (λ same. greatest_length-reached es n same p) (cases_lt (length e.0) (greatest_length es))
    where
      go : (greatest_length es ≡ n → HasWeight es n) → (length e.0 < greatest_length es) ⊎ (greatest_length es ≤ length e.0) → HasWeight (e ∷ es) n
      go more (inl h) = later e es n (more (omega arith))
      go more (inr h) = (e.0, (0, omega arith, refl), omega arith)
