-- One more factor of a monomial, as it is printed.
use Rattle.std.proofs.Common.{◌≡◌, ℕ, zero, suc, ◌+◌, Bool, true, false, Some, List, [], ◌∷◌, ◌++◌, length, map, drop, slice_get, refl, sym, ap, ◌∙◌, add-one, append-nil, arith}
use Rattle.std.specs.Prelude.{if◌then◌else◌}
use Rattle.std.specs.List.{join_with_byte}
use Rattle.zeta_model.specs.declared.Letter.{Letter}
use Rattle.zeta_model.specs.Sums.{same_word}
use Rattle.zeta_model.specs.Words.{ends_with_y}
use Rattle.zeta_model.proofs.WordLemmas.{admissible-ends}
use Rattle.lyndon_words.specs.Monomials.{AllAdmissible, IsMonomial}
use Rattle.poly_print.specs.Polynomials.{powers_from, power_text, monomial_text}
use Rattle.poly_print.specs.Inner.{behind_byte}
use Rattle.poly_print.proofs.TextLemmas.{rest_text, rest_text-step}

drop_suc : {A : Type 0} (xs : List A) (i : ℕ) (x : A) → slice_get xs i ≡ Some x → drop i xs ≡ x ∷ drop (suc i) xs
drop_suc [] i x e = cc
drop_suc (y ∷ xs) zero x e = let s : y ≡ x = cc in ap (λ z. z ∷ xs) s
drop_suc (y ∷ xs) (suc i) x e = drop_suc xs i x e

pub drop-step : {A : Type 0} (xs : List A) (i : ℕ) (x : A) → slice_get xs i ≡ Some x → drop i xs ≡ x ∷ drop (i + 1) xs
drop-step xs i x e = drop_suc xs i x e ∙ (λ j. x ∷ drop (sym (add-one i) j) xs)

if-true : {A : Type 0} (b : Bool) (x y : A) → b ≡ true → (if b then x else y) ≡ x
if-true true x y h = refl
if-true false x y h = cc

if-false : {A : Type 0} (b : Bool) (x y : A) → b ≡ false → (if b then x else y) ≡ y
if-false true x y h = cc
if-false false x y h = refl

-- what is still to be written, where u has stood k times
abbrev pub rest_powers : Bool → List Letter → ℕ → List (List Letter) → List ℕ
rest_powers first u k us = rest_text 42 first (map power_text (powers_from u k us))

module _ (p : List (List Letter)) (i : ℕ) (v : List Letter) (at : slice_get p i ≡ Some v) (u : List Letter) (k : ℕ) where
  -- the factor stands there once more
  pub power-more : (out : List ℕ) (first : Bool) (k' : ℕ) (whole : List ℕ) → same_word u v ≡ true → k' ≡ k + 1 → out ++ rest_powers first u k (drop i p)
      ≡ whole → out ++ rest_powers first u k' (drop (i + 1) p) ≡ whole
  power-more out first k' whole s e h =
      (λ j. out ++ rest_powers first u (e j) (drop (i + 1) p))
      ∙ ap (λ ps. out ++ rest_text 42 first (map power_text ps)) (sym (ap (powers_from u k) (drop-step p i v at) ∙ if-true (same_word u v) _ _ s))
      ∙ h

  -- another factor stands there
  pub power-next : (out out' : List ℕ) (first : Bool) (whole : List ℕ) → same_word u v ≡ false → out' ≡ out ++ behind_byte 42 first (power_text (u, k))
      → out ++ rest_powers first u k (drop i p) ≡ whole → out' ++ rest_powers false v 1 (drop (i + 1) p) ≡ whole
  power-next out out' first whole s e h =
      rest_text-step 42 out out' first (power_text (u, k)) (map power_text (powers_from v 1 (drop (i + 1) p))) whole e
      (ap (λ ps. out ++ rest_text 42 first (map power_text ps)) (sym (ap (powers_from u k) (drop-step p i v at) ∙ if-false (same_word u v) _ _ s)) ∙ h)

-- the first factor is read
pub power-first : (p : List (List Letter)) (u : List Letter) → slice_get p 0 ≡ Some u → rest_powers true u 1 (drop 1 p) ≡ monomial_text p
power-first [] u e = cc
power-first (v ∷ p) u e = let s : v ≡ u = cc in ap (λ w. join_with_byte 42 (map power_text (powers_from w 1 p))) (sym s)

drop-all : {A : Type 0} (xs : List A) (i : ℕ) → length xs ≡ i → drop i xs ≡ []
drop-all [] i e = let z : i ≡ 0 = sym e in rw z refl
drop-all (x ∷ xs) zero e = absurd (omega arith)
drop-all (x ∷ xs) (suc i) e = drop-all xs i (omega arith)

-- the last factor is written
pub power-last : (out out' : List ℕ) (first : Bool) (u : List Letter) (k i : ℕ) (p : List (List Letter)) (whole : List ℕ) → length p ≡ i → out'
    ≡ out ++ behind_byte 42 first (power_text (u, k)) → out ++ rest_powers first u k (drop i p) ≡ whole → out' ≡ whole
power-last out out' first u k i p whole l e h =
    sym (append-nil out') ∙ rest_text-step 42 out out' first (power_text (u, k)) [] whole e (ap (λ vs. out ++ rest_powers first u k vs) (sym
    (drop-all p i l)) ∙ h)

factor_ends : (us : List (List Letter)) (i : ℕ) (u : List Letter) → AllAdmissible us → slice_get us i ≡ Some u → ends_with_y u ≡ true
factor_ends [] i u h e = cc
factor_ends (v ∷ us) zero u h e = let s : v ≡ u = cc in ap ends_with_y (sym s) ∙ admissible-ends v h.0
factor_ends (v ∷ us) (suc i) u h e = factor_ends us i u h.1 e

-- a factor of a monomial ends with y
pub power-ends : (p : List (List Letter)) (i : ℕ) (u : List Letter) → IsMonomial p → slice_get p i ≡ Some u → ends_with_y u ≡ true
power-ends p i u h e = factor_ends p i u h.admissible e
