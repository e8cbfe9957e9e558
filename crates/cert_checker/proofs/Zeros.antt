-- Sums that are all zero.
use Rattle.std.proofs.Common.{◌≡◌, ℕ, zero, suc, ◌<◌, true, false, List, ◌∷◌, length, sym, subst, arith}
use Rattle.zeta_model.specs.Modular.{Same}
use Rattle.cert_checker.specs.Inner.{numbers_of}

module _ {A : Type 0} (m : ℕ) (total : A → ℕ) where
  -- each of the sums is zero modulo m
  abbrev pub AllZero : List A → Type 0
  AllZero sums = (q : ℕ) → q < length sums → Same m (numbers_of total sums q) 0

  pub all_zero-nil : (sums : List A) → length sums ≡ 0 → AllZero sums
  all_zero-nil sums none q l = absurd (omega arith)

  pub all_zero-cons : (x : A) (xs : List A) → Same m (total x) 0 → AllZero xs → AllZero (x ∷ xs)
  all_zero-cons x xs here behind zero l = here
  all_zero-cons x xs here behind (suc q) l = behind q (omega arith)

  pub all_zero-first : (sums : List A) (x : A) (xs : List A) → sums ≡ x ∷ xs → AllZero sums → Same m (total x) 0
  all_zero-first sums x xs is all = let whole : AllZero (x ∷ xs) = subst AllZero is all in whole 0 (omega arith)

  pub all_zero-behind : (sums : List A) (x : A) (xs : List A) → sums ≡ x ∷ xs → AllZero sums → AllZero xs
  all_zero-behind sums x xs is all q l = let whole : AllZero (x ∷ xs) = subst AllZero is all in whole (suc q) (omega arith)

  pub all_zero-more : (sums : List A) (x : A) (xs : List A) → sums ≡ x ∷ xs → Same m (total x) 0 → AllZero xs → AllZero sums
  all_zero-more sums x xs is here behind = subst AllZero (sym is) (all_zero-cons x xs here behind)

-- a test is not both
pub not_both : false ≡ true → ⊥
not_both e = cc
