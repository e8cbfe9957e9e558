-- What terms give a word, against what a look-up of the word finds.
use Rattle.std.proofs.Common.{◌≡◌, ℕ, ◌+◌, ◌*◌, ◌%◌, ◌<◌, Bool, true, false, cond, List, [], ◌∷◌, Option, Some, None, refl, sym, ap, subst, ◌∙◌, arith, mod-eq_of_lt}
use Rattle.std.specs.Prelude.{All, IfSome}
use Rattle.std.specs.List.{IsDistinct, AllByRecursion}
use Rattle.std.specs.Map.{keys_of, values_of, lookup}
use Rattle.std.proofs.lemmas.Map.Keys.{IsDistinct-head, IsDistinct-tail}
use Rattle.std.proofs.lemmas.Map.Views.{All-values_from_lookup, IfSome-lookup_from_All}
use Rattle.word_letters.specs.Order.{word_eq_equiv, same_words}
use Rattle.word_sums.specs.Terms.{coefficient_of, AllIn}
use Rattle.zeta_model.specs.declared.Letter.{Letter}
use Rattle.zeta_model.specs.Sums.{same_word, single}

-- the residue of an element, and 0 where there is none
abbrev pub value_or_zero : {E : Type 0} → (E → ℕ) → Option E → ℕ
value_or_zero value None = 0
value_or_zero value (Some a) = value a

-- an element that a look-up found is of the ring
pub has_found : {E : Type 0} (has : E → Bool) (es old : List (List Letter × E)) (w : List Letter) (a : E) → es ≡ old → Some a ≡ lookup (same_word w) es
    → AllIn has old → has a ≡ true
has_found has es old w a same finds all =
    subst (λ found. IfSome found (λ e. has e ≡ true)) (sym finds)
    (IfSome-lookup_from_All (λ e. has e ≡ true) (same_word w) es (subst (AllIn has) (sym same) all))

module _ {E : Type 0} (value : E → ℕ) where
  -- a word that stands nowhere has the coefficient 0
  pub coefficient_of-absent : (w : List Letter) (es : List (List Letter × E)) → AllByRecursion (λ y. same_word w y ≡ false) (keys_of es)
      → coefficient_of value es w ≡ 0
  coefficient_of-absent w [] h = refl
  coefficient_of-absent w (e ∷ es) h = (λ i. value e.1 * cond (h.0 i) 1 0 + coefficient_of-absent w es h.1 i) ∙ omega arith

  pub coefficient_of-lookup : (es : List (List Letter × E)) (t : List Letter) → IsDistinct same_word (keys_of es)
      → coefficient_of value es t ≡ value_or_zero value (lookup (same_word t) es)
  coefficient_of-lookup [] t d = refl
  coefficient_of-lookup (e ∷ es) t d = go (coefficient_of-lookup es t (IsDistinct-tail same_word e.0 (keys_of es) d)) (same_word t e.0) refl
    where
      go : coefficient_of value es t ≡ value_or_zero value (lookup (same_word t) es) → (b : Bool) → same_word t e.0 ≡ b
          → value e.1 * cond b 1 0 + coefficient_of value es t ≡ value_or_zero value (cond b (Some e.1) (lookup (same_word t) es))
      go rest true is =
          let none : coefficient_of value es t ≡ 0 =
          ap (coefficient_of value es) (same_words t e.0 is) ∙ coefficient_of-absent e.0 es (IsDistinct-head same_word e.0 (keys_of es) d) in
          omega (arith, none)
      go rest false is = omega (arith, rest)

  -- the coefficients are residues
  pub coefficient_of_below : (has : E → Bool) (m : ℕ) (es : List (List Letter × E)) (t : List Letter) → 0 < m → ((a : E) → has a ≡ true → value a < m)
      → IsDistinct same_word (keys_of es) → AllIn has es → coefficient_of value es t < m
  coefficient_of_below has m es t pos below d all =
      subst (λ n. n < m) (sym (coefficient_of-lookup es t d))
      (go (lookup (same_word t) es) (IfSome-lookup_from_All (λ a. has a ≡ true) (same_word t) es all))
    where
      go : (o : Option E) → IfSome o (λ a. has a ≡ true) → value_or_zero value o < m
      go None h = pos
      go (Some a) h = below a h

  -- what a look-up of the word w found, where the terms have another name too
  pub coefficient_of-found : (es old : List (List Letter × E)) (w : List Letter) (found : Option E) → es ≡ old → IsDistinct same_word (keys_of es)
      → found ≡ lookup (same_word w) es → coefficient_of value old w ≡ value_or_zero value found
  coefficient_of-found es old w found same d finds =
      ap (λ l. coefficient_of value l w) (sym same) ∙ coefficient_of-lookup es w d ∙ ap (value_or_zero value) (sym finds)

  -- what a new word is given is its residue
  pub new_value : (es old : List (List Letter × E)) (w : List Letter) (a : E) (m : ℕ) → es ≡ old → IsDistinct same_word (keys_of es)
      → None ≡ lookup (same_word w) es → value a < m → value a ≡ (coefficient_of value old w + value a) % m
  new_value es old w a m same d finds less =
      let whole : value a ≡ coefficient_of value old w + value a = omega (arith, coefficient_of-found es old w None same d finds) in
      sym (mod-eq_of_lt less) ∙ ap (λ n. n % m) whole

  -- nothing is added where the residue is 0
  pub coefficient_of-same : (has : E → Bool) (m c : ℕ) (es old : List (List Letter × E)) (w : List Letter) → es ≡ old → 0 < m
      → ((a : E) → has a ≡ true → value a < m) → IsDistinct same_word (keys_of es) → AllIn has old → c ≡ 0
      → (t : List Letter) → coefficient_of value es t ≡ (coefficient_of value old t + c * single w t) % m
  coefficient_of-same has m c es old w same pos below d all none t =
      let whole : coefficient_of value old t ≡ coefficient_of value old t + 0 * single w t = omega arith in
      sym (mod-eq_of_lt (coefficient_of_below has m es t pos below d (subst (AllIn has) (sym same) all))) ∙ ap (λ l. coefficient_of value l t % m) same
      ∙ ap (λ n. n % m) whole ∙ ap (λ n. (coefficient_of value old t + n * single w t) % m) (sym none)

  -- of two changes at one word the second holds
  pub changed_again : (es fs gs : List (List Letter × E)) (w : List Letter) (o p : Option E)
      → ((q : List Letter) → lookup (same_word q) fs ≡ cond (same_word w q) p (lookup (same_word q) es))
      → ((q : List Letter) → lookup (same_word q) gs ≡ cond (same_word w q) o (lookup (same_word q) fs)) → (q : List Letter)
      → lookup (same_word q) gs ≡ cond (same_word w q) o (lookup (same_word q) es)
  changed_again es fs gs w o p first second q = second q ∙ ap (cond (same_word w q) o) (first q) ∙ go (same_word w q) (lookup (same_word q) es)
    where
      go : (b : Bool) (l : Option E) → cond b o (cond b p l) ≡ cond b o l
      go true l = refl
      go false l = refl

  -- what a change at the word w does
  module _ (es fs : List (List Letter × E)) (w : List Letter) (o : Option E) (before : IsDistinct same_word (keys_of es))
      (after : IsDistinct same_word (keys_of fs))
      (update : (q : List Letter) → lookup (same_word q) fs ≡ cond (same_word w q) o (lookup (same_word q) es)) where
    -- what holds of each element still does
    pub All-changed : (P : E → Type 0) → All P (values_of es) → IfSome o P → All P (values_of fs)
    All-changed P all new = All-values_from_lookup word_eq_equiv P fs after (λ q. subst (λ r. IfSome r P) (sym (update q)) (go q (same_word w q)))
      where
        go : (q : List Letter) (b : Bool) → IfSome (cond b o (lookup (same_word q) es)) P
        go q true = new
        go q false = IfSome-lookup_from_All P (same_word q) es all

    -- the coefficient of w grows by c, and the others stay
    pub coefficient_of-changed : (has : E → Bool) (m c : ℕ) → 0 < m → ((a : E) → has a ≡ true → value a < m) → AllIn has es
        → value_or_zero value o ≡ (coefficient_of value es w + c) % m
        → (t : List Letter) → coefficient_of value fs t ≡ (coefficient_of value es t + c * single w t) % m
    coefficient_of-changed has m c pos below all new t =
        coefficient_of-lookup fs t after ∙ ap (value_or_zero value) (update t) ∙ go (same_word w t) refl
        ∙ (λ i. (coefficient_of value es t + c * cond (word_eq_equiv.symm w t i) 1 0) % m)
      where
        go : (b : Bool) → same_word w t ≡ b → value_or_zero value (cond b o (lookup (same_word t) es)) ≡ (coefficient_of value es t + c * cond b 1 0) % m
        go true is = new ∙ ap (λ u. (coefficient_of value es u + c) % m) (same_words w t is) ∙ ap (λ n. (coefficient_of value es t + n) % m) (omega arith)
        go false is =
            sym (coefficient_of-lookup es t before) ∙ sym (mod-eq_of_lt (coefficient_of_below has m es t pos below before all))
            ∙ ap (λ n. n % m) (omega arith)

    -- the same, where the old terms have another name
    pub coefficient_of-added : (has : E → Bool) (m c : ℕ) (old : List (List Letter × E)) → es ≡ old → 0 < m → ((a : E) → has a ≡ true → value a < m)
        → AllIn has old → value_or_zero value o ≡ (coefficient_of value old w + c) % m
        → (t : List Letter) → coefficient_of value fs t ≡ (coefficient_of value old t + c * single w t) % m
    coefficient_of-added has m c old same pos below =
        subst (λ l. AllIn has l → value_or_zero value o ≡ (coefficient_of value l w + c) % m → (t : List Letter)
        → coefficient_of value fs t ≡ (coefficient_of value l t + c * single w t) % m) same
        (coefficient_of-changed has m c pos below)
