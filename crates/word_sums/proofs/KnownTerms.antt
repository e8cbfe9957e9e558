-- The terms of a sum are known by its coefficients.
use Rattle.std.proofs.Common.{◌≡◌, ℕ, ◌+◌, ◌*◌, Bool, true, false, cond, List, [], ◌∷◌, Option, Some, None, Contains, Ordering, Less, Equal, Greater, refl, sym, ap, ◌∙◌, arith, true≢false}
use Rattle.std.specs.Prelude.{◌≢◌, ◌↔◌, All, IfSome, IsSome}
use Rattle.std.specs.List.{AllByRecursion, sum_by}
use Rattle.std.specs.List.Sorted.{IsPermutation, IsStrictlySortedBy}
use Rattle.std.specs.Map.{keys_of, values_of, lookup}
use Rattle.std.specs.Ordering.{is_eq, ordering_reverse}
use Rattle.std.proofs.lemmas.List.Elements.{All-head, All-tail}
use Rattle.std.proofs.lemmas.List.Sorted.{sum_by-IsPermutation}
use Rattle.std.proofs.lemmas.List.Sums.{sum_by-cons}
use Rattle.std.proofs.lemmas.Map.Keys.{IsDistinct-from_sorted, IsDistinct-head, sorted_head, sorted_tail}
use Rattle.std.proofs.lemmas.Map.Views.{Contains-keys_from_lookup, IsSome-lookup_from_Contains, IfSome-lookup_from_All}
use Rattle.word_letters.specs.Order.{word_cmp_total, word_eq_equiv, same_words}
use Rattle.word_sums.specs.Terms.{coefficient_of, IsTerms, AllIn}
use Rattle.word_sums.proofs.TermLemmas.{coefficient_of-lookup, coefficient_of-absent, value_or_zero}
use Rattle.zeta_model.specs.declared.Letter.{Letter}
use Rattle.zeta_model.specs.Sums.{same_word, single}
use Rattle.zeta_model.specs.Words.{word_cmp}

module _ {E : Type 0} (value : E → ℕ) where
  coefficient_of-sum_by : (es : List (List Letter × E)) (t : List Letter) → coefficient_of value es t ≡ sum_by (λ e. value e.1 * single e.0 t) es
  coefficient_of-sum_by [] t = refl
  coefficient_of-sum_by (e ∷ es) t =
      ap (λ n. value e.1 * single e.0 t + n) (coefficient_of-sum_by es t) ∙ sym (sum_by-cons (λ e'. value e'.1 * single e'.0 t) e es)

  pub coefficient_of-IsPermutation : (es fs : List (List Letter × E)) (t : List Letter) → IsPermutation es fs
      → coefficient_of value fs t ≡ coefficient_of value es t
  coefficient_of-IsPermutation es fs t moved =
      coefficient_of-sum_by fs t ∙ sum_by-IsPermutation (λ e. value e.1 * single e.0 t) es fs moved ∙ sym (coefficient_of-sum_by es t)

  -- the first term gives its word its residue at least
  first_least : (e : List Letter × E) (es : List (List Letter × E)) → coefficient_of value (e ∷ es) e.0 ≡ value e.1 + coefficient_of value es e.0
  first_least e es = ap (λ b. value e.1 * cond b 1 0 + coefficient_of value es e.0) (word_eq_equiv.refl e.0) ∙ omega arith

  module _ (zero : E) (has : E → Bool) (has_zero : has zero ≡ true) (value_zero : value zero ≡ 0) (value_injective : (a b : E) → has a ≡ true → has b ≡ true
      → value a ≡ value b → a ≡ b) where
    not_zero : (a : E) → has a ≡ true → a ≢ zero → value a ≢ 0
    not_zero a h nonzero is = nonzero (value_injective a zero h has_zero (is ∙ sym value_zero))

    pub held : (es : List (List Letter × E)) → IsTerms zero es → AllIn has es → (t : List Letter)
        → Contains (keys_of es) t ↔ (coefficient_of value es t ≢ 0)
    held es terms all t = (
      (λ is. go (lookup (same_word t) es) (IsSome-lookup_from_Contains word_eq_equiv t es is)
          (IfSome-lookup_from_All (λ a. has a ≡ true) (same_word t) es all) (IfSome-lookup_from_All (λ a. a ≢ zero) (same_word t) es terms.nonzero)
          (coefficient_of-lookup value es t terms.once)),
      (λ nonzero. Contains-keys_from_lookup same_words t es
          (back (lookup (same_word t) es) (λ none. nonzero (coefficient_of-lookup value es t terms.once ∙ none)))),
    )
      where
        go : (o : Option E) → IsSome o → IfSome o (λ a. has a ≡ true) → IfSome o (λ a. a ≢ zero) → coefficient_of value es t ≡ value_or_zero value o
            → coefficient_of value es t ≢ 0
        go None some h n e = absurd (true≢false (sym some))
        go (Some a) some h n e = λ is. not_zero a h n (sym e ∙ is)

        back : (o : Option E) → (value_or_zero value o ≢ 0) → IsSome o
        back None n = absurd (n refl)
        back (Some a) n = refl

  -- a word before all words of a list in order has the coefficient 0
  below_all : (u v : List Letter) (ks : List (List Letter)) → word_cmp u v ≡ Less → AllByRecursion (λ y. word_cmp v y ≡ Less) ks
      → AllByRecursion (λ y. same_word u y ≡ false) ks
  below_all u v [] less h = tt
  below_all u v (k ∷ ks) less h = (ap is_eq (word_cmp_total.trans u v k less h.0), below_all u v ks less h.1)

  coefficient_of-before : (w : List Letter) (e : List Letter × E) (es : List (List Letter × E)) → IsStrictlySortedBy word_cmp (keys_of (e ∷ es))
      → word_cmp w e.0 ≡ Less → coefficient_of value (e ∷ es) w ≡ 0
  coefficient_of-before w e es up less =
      coefficient_of-absent value w (e ∷ es) (ap is_eq less, below_all w e.0 (keys_of es) less (sorted_head word_cmp e.0 (keys_of es) up))

  -- the first word has its residue alone
  coefficient_of-first : (e : List Letter × E) (es : List (List Letter × E)) → IsStrictlySortedBy word_cmp (keys_of (e ∷ es))
      → coefficient_of value (e ∷ es) e.0 ≡ value e.1
  coefficient_of-first e es up =
      let none : coefficient_of value es e.0 ≡ 0 =
      coefficient_of-absent value e.0 es (IsDistinct-head same_word e.0 (keys_of es) (IsDistinct-from_sorted word_cmp (keys_of (e ∷ es)) up)) in
      first_least e es ∙ omega (arith, none)

  module _ (zero : E) (has : E → Bool) (has_zero : has zero ≡ true) (value_zero : value zero ≡ 0) (value_injective : (a b : E) → has a ≡ true → has b ≡ true
      → value a ≡ value b → a ≡ b) where
    -- where the first word is not the other list's, its residue is 0
    alone : (e : List Letter × E) (es others : List (List Letter × E)) → IsStrictlySortedBy word_cmp (keys_of (e ∷ es))
        → All (λ a. a ≢ zero) (values_of (e ∷ es)) → AllIn has (e ∷ es)
        → coefficient_of value others e.0 ≡ 0 → coefficient_of value (e ∷ es) e.0 ≢ coefficient_of value others e.0
    alone e es others up nonzero all none same =
        not_zero zero has has_zero value_zero value_injective e.1 (All-head (λ a. has a ≡ true) e.1 (values_of es) all)
        (All-head (λ a. a ≢ zero) e.1 (values_of es) nonzero)
        (sym (coefficient_of-first e es up) ∙ same ∙ none)

    pub same_terms : (p q : List (List Letter × E)) → IsStrictlySortedBy word_cmp (keys_of p) → IsStrictlySortedBy word_cmp (keys_of q)
        → All (λ a. a ≢ zero) (values_of p) → All (λ a. a ≢ zero) (values_of q)
        → AllIn has p → AllIn has q → ((t : List Letter) → coefficient_of value p t ≡ coefficient_of value q t) → p ≡ q
    same_terms [] [] up vp np nq hp hq same = refl
    same_terms [] (f ∷ fs) up vp np nq hp hq same = absurd (alone f fs [] vp nq hq refl (sym (same f.0)))
    same_terms (e ∷ es) [] up vp np nq hp hq same = absurd (alone e es [] up np hp refl (same e.0))
    same_terms (e ∷ es) (f ∷ fs) up vp np nq hp hq same = go (word_cmp e.0 f.0) refl
        (same_terms es fs (sorted_tail word_cmp e.0 (keys_of es) up) (sorted_tail word_cmp f.0 (keys_of fs) vp)
        (All-tail (λ a. a ≢ zero) e.1 (values_of es) np) (All-tail (λ a. a ≢ zero) f.1 (values_of fs) nq)
        (All-tail (λ a. has a ≡ true) e.1 (values_of es) hp) (All-tail (λ a. has a ≡ true) f.1 (values_of fs) hq))
      where
        tail : (t : List Letter) → coefficient_of value (e ∷ es) t ≡ coefficient_of value (f ∷ fs) t → value e.1 * single e.0 t ≡ value f.1 * single f.0 t
            → coefficient_of value es t ≡ coefficient_of value fs t
        tail t whole head = omega (arith, whole, head)

        go : (o : Ordering) → word_cmp e.0 f.0 ≡ o → (((t : List Letter) → coefficient_of value es t ≡ coefficient_of value fs t) → es ≡ fs)
            → e ∷ es ≡ f ∷ fs
        go Less is rest = absurd (alone e es (f ∷ fs) up np hp (coefficient_of-before e.0 f fs vp is) (same e.0))
        go Greater is rest = absurd (alone f fs (e ∷ es) vp nq hq
            (coefficient_of-before f.0 e es up (word_cmp_total.antisymm f.0 e.0 ∙ ap ordering_reverse is)) (sym (same f.0)))
        go Equal is rest =
            let word : e.0 ≡ f.0 = same_words e.0 f.0 (ap is_eq is) in
            let number : value e.1 ≡ value f.1 =
            sym (coefficient_of-first e es up) ∙ same e.0 ∙ ap (coefficient_of value (f ∷ fs)) word ∙ coefficient_of-first f fs vp in
            let element : e.1 ≡ f.1 = value_injective e.1 f.1 (All-head (λ a. has a ≡ true) e.1 (values_of es) hp)
            (All-head (λ a. has a ≡ true) f.1 (values_of fs) hq) number in
            let tails : es ≡ fs = rest (λ t. tail t (same t) (λ i. value (element i) * single (word i) t)) in
            λ i. (word i, element i) ∷ tails i
