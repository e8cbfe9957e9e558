-- The words of a monomial but its own, and the row of a word from those of the lesser words.
use Rattle.std.specs.Prelude.{◌≡◌, ℕ, ◌+◌, ◌*◌, ◌%◌, ◌<◌, ◌≤◌, ◌⊎◌, Bool, true, cond, List, All, Contains}
use Rattle.std.proofs.Common.{refl, sym, ◌∙◌, ap, subst, inl, inr, zero, suc, arith, mod-eq_of_lt}
use Rattle.std.specs.Map.{keys_of}
use Rattle.std.proofs.lemmas.List.Elements.{All-weaker, All-contains_itself}
use Rattle.zeta_model.specs.declared.Letter.{Letter}
use Rattle.zeta_model.specs.Modular.{Same}
use Rattle.zeta_model.specs.Sums.{Sum, SameSum, single}
use Rattle.zeta_model.proofs.ModularLemmas.{same-add, same-add_right, same-add_left, same-mul_right, same-mul_left, same-mod, same-cancel}
use Rattle.zeta_model.proofs.ProductWords.{single-other}
use Rattle.zeta_model.proofs.WordOrder.{same_word-itself}
use Rattle.word_sums.specs.Terms.{coefficient_of, IsTerms, AllIn as AllTermsIn}
use Rattle.word_sums.proofs.KnownTerms.{held}
use Rattle.word_sums.proofs.TermLemmas.{coefficient_of_below}
use Rattle.lyndon_words.specs.Lyndon.{IsBefore, IsFactors, joined}
use Rattle.column_order.specs.Columns.{ColumnList, IsColumn}
use Rattle.table_model.specs.MonomialWords.{words_of_monomial}
use Rattle.table_model.specs.Conversion.{IsTableWord}
use Rattle.table_model.proofs.FirstFaults.{before_cases}
use Rattle.table_model.proofs.ShuffledWords.{shuffled-words, words_of-above}
use Rattle.lyndon_polys.specs.Tables.{entries_of}
use Rattle.lyndon_polys.specs.Inner.{leading, IsRowOf}
use Rattle.lyndon_polys.proofs.ColsLemmas.{cols_same}
use Rattle.lyndon_polys.proofs.EarliestFaults.{not_before_itself}

abbrev Word : Type 0
Word = List Letter

-- the coefficient of one word is taken away
pub taken_away : (m w old new l n s : ℕ) → new ≡ (old + n * s) % m → old ≡ w % m → Same m (l + n) 0 → Same m (new + l * s) w
taken_away m w old new l n s is rest undone =
    let turn : old + n * s + l * s ≡ old + (l + n) * s = grind arith in
    let none : old + 0 * s ≡ old = omega arith in
    same-add_right m new (old + n * s) (l * s) (ap (λ x. x % m) is ∙ same-mod m (old + n * s))
    ∙ ap (λ x. x % m) turn ∙ same-add_left m ((l + n) * s) (0 * s) old (same-mul_right m (l + n) 0 s undone)
    ∙ ap (λ x. x % m) none ∙ ap (λ x. x % m) rest ∙ same-mod m w

small_zero : (m a : ℕ) → a < m → Same m a 0 → a ≡ 0
small_zero m a l e = let x : a % m ≡ a = mod-eq_of_lt l in let y : 0 % m ≡ 0 = mod-eq_of_lt (omega arith) in sym x ∙ e ∙ y

-- the lesser words, each times k, and the words of the monomial, each times a, where k is -a and a the inverse of the leading coefficient
combined : (m a k l c s w : ℕ) → Same m (l * a) 1 → Same m (a + k) 0 → Same m (c + l * s) w → Same m (a * w + k * c) s
combined m a k l c s w inverse opposite lesser =
    let turn : a * (c + l * s) + k * c ≡ (a + k) * c + l * a * s = grind arith in
    let one : 0 * c + 1 * s ≡ s = omega arith in
    same-add_right m (a * w) (a * (c + l * s)) (k * c) (same-mul_left m w (c + l * s) a (sym lesser))
    ∙ ap (λ x. x % m) turn
    ∙ same-add m ((a + k) * c) (0 * c) (l * a * s) (1 * s) (same-mul_right m (a + k) 0 c opposite) (same-mul_right m (l * a) 1 s inverse)
    ∙ ap (λ x. x % m) one

pub row_of_same : {E : Type 0} (m : ℕ) (has : E → Bool) (value : E → ℕ) (columns : ColumnList) (s r : Sum) (row : List (ℕ × E)) → SameSum m s r
    → IsRowOf m has value columns s row → IsRowOf m has value columns r row
row_of_same m has value columns s r row same is =
    record { below = is.below; in_ring = is.in_ring; cols = cols_same m columns s r (entries_of value row) (entries_of value row) same (λ q. refl) is.cols }

module _ {E : Type 0} (m : ℕ) (pos : 0 < m) (zero_element : E) (has : E → Bool) (value : E
    → ℕ) (has_zero : has zero_element ≡ true) (value_zero : value zero_element ≡ 0)
    (value_injective : (a b : E) → has a ≡ true → has b ≡ true → value a ≡ value b → a ≡ b) (value_below : (a : E) → has a ≡ true → value a < m)
    (terms : List (Word × E)) (are : IsTerms zero_element terms) (all : AllTermsIn has terms) (p : List Word) (u : Word) (is_word : joined p ≡ u)
    (lesser : (t : Word) → Same m (coefficient_of value terms t + leading p * single (joined p) t) (words_of_monomial p t)) where
  -- what the terms give a word
  abbrev pub at : Word → ℕ
  at t = coefficient_of value terms t

  none_at : (t : Word) → Contains (keys_of terms) t → ¬ (Same m (at t) 0)
  none_at t c e = (held value zero_element has has_zero value_zero value_injective terms are all t).0 c
      (small_zero m (at t) (coefficient_of_below value has m terms t pos value_below are.once all) e)

  -- another word has the coefficient that the monomial gives it
  other : (t : Word) → ¬ (t ≡ u) → Same m (at t) (words_of_monomial p t)
  other t ne =
      let z : single (joined p) t ≡ 0 = single-other (joined p) t (λ e. ne (e ∙ is_word)) in
      let same : at t ≡ at t + leading p * 0 = omega arith in
      ap (λ x. x % m) same ∙ ap (λ x. (at t + leading p * x) % m) (sym z) ∙ lesser t

  not_itself : (t : Word) → t ≡ u → Same m (at t) 0
  not_itself t e =
      let j : t ≡ joined p = e ∙ sym is_word in
      let once : single (joined p) t ≡ 1 = ap (λ v. single (joined p) v) j ∙ one (joined p) in
      let same : at t + leading p * 1 ≡ at t + leading p = omega arith in
      let whole : leading p ≡ 0 + leading p = omega arith in
      same-cancel m (at t) 0 (leading p) pos
      (ap (λ x. x % m) (sym same) ∙ ap (λ x. (at t + leading p * x) % m) (sym once) ∙ lesser t ∙ ap (λ v. words_of_monomial p v % m) j
      ∙ ap (λ x. x % m) whole)
    where
      one : (v : Word) → single v v ≡ 1
      one v = ap (λ b. cond b 1 0) (same_word-itself v)

  -- the words that are left are words of the table before that of the monomial
  pub left_words : (w d : ℕ) → 2 ≤ w → IsColumn w d p → IsFactors u p → (P : Word → Type 0) → ((t : Word) → IsTableWord w d t → IsBefore t u → P t)
      → All P (keys_of terms)
  left_words w d two column factors P known =
      All-weaker (Contains (keys_of terms)) P (λ t c. go t c (before_cases t u)) (keys_of terms) (All-contains_itself (keys_of terms))
    where
      some : (t : Word) → Contains (keys_of terms) t → ¬ (t ≡ u) → (n : ℕ) → words_of_monomial p t ≡ n → 0 < words_of_monomial p t
      some t c ne zero e = absurd (none_at t c (other t ne ∙ ap (λ x. x % m) e))
      some t c ne (suc n) e = omega arith

      go : (t : Word) → Contains (keys_of terms) t → IsBefore t u ⊎ ((t ≡ u) ⊎ IsBefore u t) → P t
      go t c (inl before) = known t (shuffled-words w d p t two column
          (some t c (λ e. not_before_itself u (subst (λ v. IsBefore v u) e before)) (words_of_monomial p t) refl)) before
      go t c (inr (inl e)) = absurd (none_at t c (not_itself t e))
      go t c (inr (inr behind)) = absurd
          (none_at t c (other t (λ e. not_before_itself u (subst (IsBefore u) e behind)) ∙ words_of-above m u p t factors behind))

  -- the row of the monomial's word
  pub row_of_word : (columns : ColumnList) (a : E) (k : ℕ) (row : List (ℕ × E)) → Same m (leading p * value a) 1 → Same m (value a + k) 0
      → IsRowOf m has value columns (λ t. value a * words_of_monomial p t + k * at t) row → IsRowOf m has value columns (single u) row
  row_of_word columns a k row inverse opposite is =
      row_of_same m has value columns (λ t. value a * words_of_monomial p t + k * at t) (single u) row
      (λ t. combined m (value a) k (leading p) (at t) (single (joined p) t) (words_of_monomial p t) inverse opposite (lesser t)
      ∙ ap (λ v. single v t % m) is_word) is
