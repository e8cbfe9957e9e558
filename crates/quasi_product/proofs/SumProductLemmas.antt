-- Adding what the terms of a sum give, one term after the other.
use Rattle.std.proofs.Common.{◌≡◌, ℕ, zero, suc, ◌+◌, ◌*◌, ◌%◌, ◌<◌, Bool, true, List, [], ◌∷◌, refl, sym, ap, subst, ◌∙◌, arith, mod-eq_of_lt}
use Rattle.std.specs.Prelude.{All}
use Rattle.std.specs.Map.{keys_of, values_of}
use Rattle.std.proofs.lemmas.List.Elements.{All-head, All-tail}
use Rattle.std.proofs.Math.Nat.{mul-add, mul_assoc}
use Rattle.zeta_model.specs.declared.Letter.{Letter}
use Rattle.zeta_model.specs.Modular.{Same}
use Rattle.zeta_model.specs.Product.{Alphabet, AlphabetLaws, prod}
use Rattle.zeta_model.proofs.ProductWords.{prod-covered}
use Rattle.zeta_model.specs.Sums.{Sum, sum_of, scaled, numbered, continued}
use Rattle.zeta_model.proofs.ModularLemmas.{same-add_right, same-add_left, same-mul_right, same-mod}
use Rattle.word_sums.specs.Terms.{coefficient_of, AllIn}
use Rattle.word_sums.specs.Sums.{Gains, IsSum}
use Rattle.word_sums.proofs.SumLemmas.{IsSum_below}
use Rattle.quasi_product.specs.SumProducts.{product_with_terms, product_of_terms, AreWithin}

abbrev Word : Type 0
Word = List Letter

-- P holds of the words of `rest`, and k times what f gives for the terms of `whole`, but for those of `rest`, has been added to `initial`, which gave `now`
pub record Gaining {E : Type 0} (nought : E) (has : E → Bool) (value : E → ℕ) (m k : ℕ) (f : Word → Sum) (P : Word → Type 0)
    (whole initial now rest : List (Word × E)) : Type 0 where
  pub now_is : IsSum nought has now
  pub rest_in : AllIn has rest
  pub rest_are : All P (keys_of rest)
  pub same : (t : Word) → Same m (coefficient_of value now t + k * continued f (numbered value rest) t)
      (coefficient_of value initial t + k * continued f (numbered value whole) t)

-- one word more: n is what t has after its term is added
step : (m a k v s r g n : ℕ) → n ≡ (a + g) % m → Same m g (k * (v * s)) → Same m (n + k * r) (a + k * (v * s + r))
step m a k v s r g n is gives =
    let one : Same m n (a + k * (v * s)) = ap (λ x. x % m) is ∙ same-mod m (a + g) ∙ same-add_left m g (k * (v * s)) a gives in
    let sum : a + k * (v * s) + k * r ≡ a + k * (v * s + r) = omega (arith, mul-add k (v * s) r) in
    same-add_right m n (a + k * (v * s)) (k * r) one ∙ ap (λ x. x % m) sum

-- a residue that is a product, times s
pub times : (m x k v s : ℕ) → x ≡ k * v % m → Same m (x * s) (k * (v * s))
times m x k v s is = ap (λ y. y * s % m) is ∙ same-mul_right m (k * v % m) (k * v) s (same-mod m (k * v)) ∙ ap (λ y. y % m) (mul_assoc k v s)

module _ {E : Type 0} (nought : E) (has : E → Bool) (value : E → ℕ) (m k : ℕ) (f : Word → Sum) (P : Word → Type 0) (whole initial : List (Word × E)) where
  pub Gaining-start : IsSum nought has initial → AllIn has whole → All P (keys_of whole) → Gaining nought has value m k f P whole initial initial whole
  Gaining-start now_is rest_in rest_are = record { now_is = now_is; rest_in = rest_in; rest_are = rest_are; same = λ t. refl }

module _ {E : Type 0} (nought : E) (has : E → Bool) (value : E → ℕ) (m k : ℕ) (f : Word → Sum) (P : Word
    → Type 0) (whole initial now : List (Word × E)) where
  pub Gaining-next : (w : Word) (c : E) (before rest after : List (Word × E)) (gained : Sum) → before ≡ (w, c) ∷ rest
      → Gaining nought has value m k f P whole initial now before
      → IsSum nought has after → Gains m (coefficient_of value now) (coefficient_of value after) gained
      → ((t : Word) → Same m (gained t) (k * (value c * f w t)))
      → Gaining nought has value m k f P whole initial after rest
  Gaining-next w c before rest after gained is gaining after_is gains gives = record {
    now_is = after_is;
    rest_in = All-tail (λ a. has a ≡ true) c (values_of rest) (subst (AllIn has) is gaining.rest_in);
    rest_are = All-tail P w (keys_of rest) (subst (λ es. All P (keys_of es)) is gaining.rest_are);
    same = λ t.
        step m (coefficient_of value now t) k (value c) (f w t) (continued f (numbered value rest) t) (gained t) (coefficient_of value after t)
        (gains.each t) (gives t)
        ∙ ap (λ es. (coefficient_of value now t + k * continued f (numbered value es) t) % m) (sym is) ∙ gaining.same t;
  }

  -- the next element is of the ring
  pub Gaining-has : (w : Word) (c : E) (before rest : List (Word × E)) → before ≡ (w, c) ∷ rest → Gaining nought has value m k f P whole initial now before
      → has c ≡ true
  Gaining-has w c before rest is gaining = All-head (λ a. has a ≡ true) c (values_of rest) (subst (AllIn has) is gaining.rest_in)

  -- P holds of the next word
  pub Gaining-is : (w : Word) (c : E) (before rest : List (Word × E)) → before ≡ (w, c) ∷ rest → Gaining nought has value m k f P whole initial now before
      → P w
  Gaining-is w c before rest is gaining = All-head P w (keys_of rest) (subst (λ es. All P (keys_of es)) is gaining.rest_are)

  pub Gaining-end : (rest : List (Word × E)) → 0 < m → ((a : E) → has a ≡ true → value a < m) → rest ≡ []
      → Gaining nought has value m k f P whole initial now rest
      → Gains m (coefficient_of value initial) (coefficient_of value now) (scaled k (continued f (numbered value whole)))
  Gaining-end rest pos below is gaining = record {
    each = λ t.
        let none : coefficient_of value now t ≡ coefficient_of value now t + k * 0 = omega arith in
        sym (mod-eq_of_lt (IsSum_below nought has value m now pos below gaining.now_is t)) ∙ ap (λ n. n % m) none
        ∙ ap (λ es. (coefficient_of value now t + k * continued f (numbered value es) t) % m) (sym is) ∙ gaining.same t;
  }

-- where the terms give t something, some word of theirs does
pub continued-some : {E : Type 0} (value : E → ℕ) (f : Word → Sum) (Q : Type 0) (terms : List (Word × E)) (t : Word)
    → All (λ w. 0 < f w t → Q) (keys_of terms)
    → 0 < continued f (numbered value terms) t → Q
continued-some value f Q [] t each some = absurd (omega arith)
continued-some value f Q (e ∷ es) t each some =
    by (f e.0 t) refl some (All-head (λ w. 0 < f w t → Q) e.0 (keys_of es) each)
    (continued-some value f Q es t (All-tail (λ w. 0 < f w t → Q) e.0 (keys_of es) each))
  where
    by : (n : ℕ) → f e.0 t ≡ n → 0 < value e.1 * f e.0 t + continued f (numbered value es) t → (0 < f e.0 t → Q)
        → (0 < continued f (numbered value es) t → Q) → Q
    by zero none some first rest =
        let nothing : value e.1 * f e.0 t ≡ value e.1 * 0 = ap (λ n. value e.1 * n) none in
        rest (omega (arith, nothing))
    by (suc n) more some first rest = first (omega arith)

-- the words of the product of two sums are covered
pub product_of_terms-covered : {E : Type 0} (value : E → ℕ) (L : Alphabet) (laws : AlphabetLaws 24 L) (a b : List (Word × E)) (t : Word)
    → All (λ u. L.covered u ≡ true) (keys_of a) → All (λ v. L.covered v ≡ true) (keys_of b)
    → AreWithin 24 a b → 0 < product_of_terms L (numbered value a) (numbered value b) t → L.covered t ≡ true
product_of_terms-covered value L laws a b t covers_a covers_b fits =
    continued-some value (product_with_terms L (numbered value b)) (L.covered t ≡ true) a t
    (λ k d h. continued-some value (λ v. sum_of (prod L _ v)) (L.covered t ≡ true) b t
    (λ j e l. prod-covered 24 L laws _ _ t (covers_a k d h) (covers_b j e l) (fits k d h j e l)))
