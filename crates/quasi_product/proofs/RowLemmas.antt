-- Rows of cells, and the suffixes of a word.
use Rattle.std.proofs.Common.{◌≡◌, ℕ, ◌+◌, ◌-◌, ◌<◌, ◌≤◌, Bool, true, List, [], ◌∷◌, ◌++◌, length, refl, sym, ap, subst, ◌∙◌, arith}
use Rattle.std.specs.Prelude.{All, slice_index_or}
use Rattle.std.proofs.Math.Logic.{◌⊎◌}
use mathlib.Core.Logic.{inl, inr}
use Rattle.std.proofs.lemmas.Bool.{cases_lt}
use Rattle.std.proofs.lemmas.List.{get_or_push, get_or_append_left, length_push}
use Rattle.std.proofs.lemmas.List.Elements.{All-push}
use Rattle.zeta_model.specs.declared.Letter.{Letter}
use Rattle.zeta_model.specs.Product.{Alphabet, rest, prod}
use Rattle.quasi_product.specs.Inner.{IsCell, IsRow, IsFirstRow, IsHead, AreSuffixes}
use Rattle.quasi_product.specs.declared.rows.Suffix.{Suffix}
use Rattle.quasi_product.proofs.CellLemmas.{cell_one}

abbrev Word : Type 0
Word = List Letter

module _ {E C : Type 0} (terms_of : C → List (Word × E)) (has : E → Bool) (value : E → ℕ) (m k : ℕ) (L : Alphabet) (u : Word) (suffixes : List Suffix) where
  pub IsRow-none : (row : List C) → row ≡ [] → IsRow terms_of has value m k L u suffixes row
  IsRow-none row is = record { cell = λ i c s h. absurd (omega (arith, ap length is)) }

  abbrev CellAt : ℕ → C → Suffix → Type 0
  CellAt i d s = IsCell has value m k (length u + length (slice_index_or suffixes i s).word) (terms_of d) (prod L u (slice_index_or suffixes i s).word)

  -- a cell more
  pub IsRow-push : (row after : List C) (c : C) → after ≡ row ++ c ∷ [] → IsRow terms_of has value m k L u suffixes row
      → ((s : Suffix) → IsCell has value m k (length u + length (slice_index_or suffixes (length row) s).word) (terms_of c)
      (prod L u (slice_index_or suffixes (length row) s).word))
      → IsRow terms_of has value m k L u suffixes after
  IsRow-push row after c is old new =
      subst (IsRow terms_of has value m k L u suffixes) (sym is) (record { cell = λ i d s h. go i d s h (cases_lt i (length row)) })
    where
      go : (i : ℕ) (d : C) (s : Suffix) → i < length (row ++ c ∷ []) → (i < length row) ⊎ (length row ≤ i) → CellAt i (slice_index_or (row ++ c ∷ []) i d) s
      go i d s h (inl below) = subst (λ e. CellAt i e s) (sym (get_or_append_left row (c ∷ []) d i below)) (old.cell i d s below)
      go i d s h (inr last) =
          let at : length row ≡ i = omega (arith, h, length_push row c) in
          subst (λ e. CellAt i e s) (sym (get_or_push row c d i at)) (subst (λ j. CellAt j c s) at (new s))

module _ {E C : Type 0} (terms_of : C → List (Word × E)) (c : E) (suffixes : List Suffix) where
  pub IsFirstRow-none : (row : List C) → row ≡ [] → IsFirstRow terms_of c suffixes row
  IsFirstRow-none row is = record { cell = λ i d s h. absurd (omega (arith, ap length is)) }

  -- a cell more
  pub IsFirstRow-push : (row after : List C) (cell : C) (i : ℕ) (word : Word) → after ≡ row ++ cell ∷ [] → length row ≡ i
      → IsFirstRow terms_of c suffixes row → terms_of cell ≡ (word, c) ∷ [] → ((s : Suffix) → (slice_index_or suffixes i s).word ≡ word)
      → IsFirstRow terms_of c suffixes after
  IsFirstRow-push row after cell i word is len old terms_are at =
      subst (IsFirstRow terms_of c suffixes) (sym is) (record { cell = λ j d s h. go j d s h (cases_lt j (length row)) })
    where
      go : (j : ℕ) (d : C) (s : Suffix) → j < length (row ++ cell ∷ []) → (j < length row) ⊎ (length row ≤ j)
          → terms_of (slice_index_or (row ++ cell ∷ []) j d) ≡ ((slice_index_or suffixes j s).word, c) ∷ []
      go j d s h (inl below) = ap terms_of (get_or_append_left row (cell ∷ []) d j below) ∙ old.cell j d s below
      go j d s h (inr last) =
          let here : length row ≡ j = omega (arith, h, length_push row cell) in
          ap terms_of (get_or_push row cell d j here) ∙ terms_are
          ∙ ap (λ w. (w, c) ∷ []) (sym (at s) ∙ ap (λ n. (slice_index_or suffixes n s).word) (sym len ∙ here))

-- the first row, of the word without letters
pub IsRow-first : {E C : Type 0} (terms_of : C → List (Word × E)) (has : E → Bool) (value : E
    → ℕ) (m : ℕ) (c : E) (L : Alphabet) (u : Word) (suffixes : List Suffix) (row : List C) → has c ≡ true → length u ≡ 0
    → IsFirstRow terms_of c suffixes row → IsRow terms_of has value m (value c) L u suffixes row
IsRow-first terms_of has value m c L [] suffixes row has_c empty first =
    record {
      cell = λ i d s h. cell_one has value m _ c (slice_index_or suffixes i s).word (terms_of (slice_index_or row i d)) _
          (first.cell i d s h) refl has_c (omega arith);
    }
IsRow-first terms_of has value m c L (a ∷ u) suffixes row has_c empty first = absurd (omega arith)

-- the suffixes of a word
pub AreSuffixes-empty : (L : Alphabet) (s : Suffix) (suffixes : List Suffix) → suffixes ≡ s ∷ [] → s.word ≡ [] → AreSuffixes L suffixes
AreSuffixes-empty L s suffixes is empty = subst (AreSuffixes L) (sym is) (record {
  some = omega arith;
  begins = λ d. empty;
  heads = λ i d p h. absurd (omega (arith, p, h));
  steps = λ i d p h. absurd (omega (arith, p, h));
})

pub AreSuffixes-push : (L : Alphabet) (before after : List Suffix) (s : Suffix) → after ≡ before ++ s ∷ [] → AreSuffixes L before → IsHead L s
    → ((d : Suffix) → (slice_index_or before (length before - 1) d).word ≡ rest L s.word) → AreSuffixes L after
AreSuffixes-push L before after s is are head last = subst (AreSuffixes L) (sym is) (record {
  some = omega (arith, length_push before s);
  begins = λ d. ap (λ t. t.word) (get_or_append_left before (s ∷ []) d 0 are.some) ∙ are.begins d;
  heads = λ i d p h. head_at i d p h (cases_lt i (length before));
  steps = λ i d p h. step_at i d p h (cases_lt i (length before));
})
  where
    head_at : (i : ℕ) (d : Suffix) → 0 < i → i < length (before ++ s ∷ []) → (i < length before) ⊎ (length before ≤ i)
        → IsHead L (slice_index_or (before ++ s ∷ []) i d)
    head_at i d p h (inl below) = subst (IsHead L) (sym (get_or_append_left before (s ∷ []) d i below)) (are.heads i d p below)
    head_at i d p h (inr end) =
        let here : length before ≡ i = omega (arith, h, length_push before s) in
        subst (IsHead L) (sym (get_or_push before s d i here)) head

    step_at : (i : ℕ) (d : Suffix) → 0 < i → i < length (before ++ s ∷ []) → (i < length before) ⊎ (length before ≤ i)
        → (slice_index_or (before ++ s ∷ []) (i - 1) d).word ≡ rest L (slice_index_or (before ++ s ∷ []) i d).word
    step_at i d p h (inl below) =
        ap (λ t. t.word) (get_or_append_left before (s ∷ []) d (i - 1) (omega arith)) ∙ are.steps i d p below
        ∙ ap (λ t. rest L t.word) (sym (get_or_append_left before (s ∷ []) d i below))
    step_at i d p h (inr end) =
        let here : length before ≡ i = omega (arith, h, length_push before s) in
        ap (λ t. t.word) (get_or_append_left before (s ∷ []) d (i - 1) (omega arith)) ∙ ap (λ j. (slice_index_or before (j - 1) d).word) (sym here) ∙ last d
        ∙ ap (λ t. rest L t.word) (sym (get_or_push before s d i here))

pub last-push : (before after : List Suffix) (s d : Suffix) → after ≡ before ++ s ∷ [] → (slice_index_or after (length after - 1) d).word ≡ s.word
last-push before after s d is =
    ap (λ xs. (slice_index_or xs (length xs - 1) d).word) is
    ∙ ap (λ t. t.word) (get_or_push before s d (length (before ++ s ∷ []) - 1) (omega (arith, length_push before s)))

pub within-push : (before after : List Suffix) (s : Suffix) (j n : ℕ) → after ≡ before ++ s ∷ [] → All (λ t. length t.word ≤ j) before → j ≤ n
    → length s.word ≤ n → All (λ t. length t.word ≤ n) after
within-push before after s j n is old more new =
    subst (All (λ t. length t.word ≤ n)) (sym is) (All-push (λ t. length t.word ≤ n) before s (λ i d h. omega (arith, old i d h)) new)

pub nothing : {A : Type 0} (xs : List A) → length xs ≡ 0 → xs ≡ []
nothing [] e = refl
nothing (x ∷ xs) e = absurd (omega arith)

-- the last cell of a row has the whole word
pub last_cell : {E C : Type 0} (terms_of : C → List (Word × E)) (has : E → Bool) (value : E
    → ℕ) (m k : ℕ) (L : Alphabet) (u v : Word) (suffixes : List Suffix) (row before : List C) (c : C) → IsRow terms_of has value m k L u suffixes row
    → row ≡ before ++ c ∷ [] → length row ≡ length suffixes
    → ((s : Suffix) → (slice_index_or suffixes (length suffixes - 1) s).word ≡ v) → IsCell has value m k (length u + length v) (terms_of c) (prod L u v)
last_cell terms_of has value m k L u v suffixes row before c are is len last =
    let s : Suffix = record { word = []; letter = [] } in
    let longer : length row ≡ length before + 1 = ap length is ∙ length_push before c in
    let at : length before ≡ length suffixes - 1 = omega (arith, longer, len) in
    let word : (slice_index_or suffixes (length before) s).word ≡ v = ap (λ i. (slice_index_or suffixes i s).word) at ∙ last s in
    let it : slice_index_or row (length before) c ≡ c = ap (λ xs. slice_index_or xs (length before) c) is ∙ get_or_push before c c (length before) refl in
    subst (λ w. IsCell has value m k (length u + length w) (terms_of c) (prod L u w)) word
    (subst (λ d. IsCell has value m k (length u + length (slice_index_or suffixes (length before) s).word) (terms_of d)
    (prod L u (slice_index_or suffixes (length before) s).word)) it (are.cell (length before) c s (omega (arith, longer))))
