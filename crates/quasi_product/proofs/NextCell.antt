-- The cell after those of a row, from the row below.
use Rattle.std.proofs.Common.{◌≡◌, ℕ, ◌+◌, ◌-◌, ◌<◌, ◌≤◌, Bool, true, Some, None, List, [], ◌∷◌, length, sym, ap, subst, ◌∙◌, arith}
use Rattle.std.specs.Prelude.{All, slice_index_or}
use Rattle.std.proofs.lemmas.List.{get_or_default}
use Rattle.zeta_model.specs.declared.Letter.{Letter}
use Rattle.zeta_model.specs.Product.{Alphabet, AlphabetLaws, rest, prod}
use Rattle.zeta_model.proofs.LetterSteps.{prod-empty_second}
use Rattle.quasi_product.specs.Inner.{FitBehind, IsMerged, IsCell, IsRow, IsHead, AreSuffixes}
use Rattle.quasi_product.specs.declared.rows.Suffix.{Suffix}
use Rattle.quasi_product.proofs.CellLemmas.{cell_one, cell_fits, length_u, length_v, Two, cell_two, cell_three}

abbrev Word : Type 0
Word = List Letter

-- the first cell of a row
pub first_cell : {E : Type 0} (has : E → Bool) (value : E → ℕ) (m : ℕ) (c : E) (L : Alphabet) (u v : Word) (terms : List (Word × E)) → terms ≡ (u, c) ∷ []
    → v ≡ [] → has c ≡ true → IsCell has value m (value c) (length u + length v) terms (prod L u v)
first_cell has value m c L u v terms is empty has_c =
    subst (λ w. IsCell has value m (value c) (length u + length w) terms (prod L u w)) (sym empty)
    (cell_one has value m (length u + 0) c u terms (prod L u []) is (prod-empty_second L u) has_c (omega arith))

-- the cell after those of a row, from the row below
module _ {E C : Type 0} (terms_of : C → List (Word × E)) (has : E → Bool) (value : E
    → ℕ) (m k : ℕ) (L : Alphabet) (laws : AlphabetLaws 24 L) (suffixes : List Suffix) (are : AreSuffixes L suffixes) (u v : Suffix) (head : IsHead L u)
    (fits : All (λ s. length u.word + length s.word ≤ 24) suffixes) (below row : List C)
    (row_below : IsRow terms_of has value m k L (rest L u.word) suffixes below) (row_is : IsRow terms_of has value m k L u.word suffixes row)
    (i : ℕ) (at : i ≡ length row) (pos : 0 < i) (more : length row < length suffixes) (same_length : length below ≡ length suffixes) (v_is : v
    ≡ slice_index_or suffixes i v) where
  pub head_v : IsHead L v
  head_v = subst (IsHead L) (sym v_is) (are.heads i v pos (omega arith))

  rest_v : (slice_index_or suffixes (i - 1) v).word ≡ rest L v.word
  rest_v = are.steps i v pos (omega arith) ∙ ap (λ s. rest L s.word) (sym v_is)

  pub fit_both : length u.word + length v.word ≤ 24
  fit_both = subst (λ s. length u.word + length s.word ≤ 24) (sym v_is) (fits i v (omega arith))

  -- the product without the first letter of u, that without the first letter of v, and that without both
  pub behind_u : (x : C) → x ≡ slice_index_or below i x
      → IsCell has value m k (length (rest L u.word) + length v.word) (terms_of x) (prod L (rest L u.word) v.word)
  behind_u x is = subst (λ c. IsCell has value m k (length (rest L u.word) + length v.word) (terms_of c) (prod L (rest L u.word) v.word)) (sym is)
      (subst (λ s. IsCell has value m k (length (rest L u.word) + length s.word) (terms_of (slice_index_or below i x)) (prod L (rest L u.word) s.word))
      (sym v_is) (row_below.cell i x v (omega arith)))

  pub behind_v : (y : C) → y ≡ slice_index_or row (i - 1) y
      → IsCell has value m k (length u.word + length (rest L v.word)) (terms_of y) (prod L u.word (rest L v.word))
  behind_v y is = subst (λ c. IsCell has value m k (length u.word + length (rest L v.word)) (terms_of c) (prod L u.word (rest L v.word))) (sym is)
      (subst (λ w. IsCell has value m k (length u.word + length w) (terms_of (slice_index_or row (i - 1) y)) (prod L u.word w)) rest_v
      (row_is.cell (i - 1) y v (omega arith)))

  pub behind_both : (z : C) → z ≡ slice_index_or below (i - 1) z
      → IsCell has value m k (length (rest L u.word) + length (rest L v.word)) (terms_of z) (prod L (rest L u.word) (rest L v.word))
  behind_both z is = subst (λ c. IsCell has value m k (length (rest L u.word) + length (rest L v.word)) (terms_of c)
      (prod L (rest L u.word) (rest L v.word))) (sym is)
      (subst (λ w. IsCell has value m k (length (rest L u.word) + length w) (terms_of (slice_index_or below (i - 1) z)) (prod L (rest L u.word) w)) rest_v
      (row_below.cell (i - 1) z v (omega arith)))

  -- the fronts fit
  pub fit_u : (x : C) → x ≡ slice_index_or below i x → FitBehind 24 u.letter (terms_of x)
  fit_u x is = cell_fits has value m k (length (rest L u.word) + length v.word) 24 u.letter (terms_of x) (prod L (rest L u.word) v.word)
      (omega (
        arith,
        length_u L laws u.word v.word u.letter v.letter head.covers head_v.covers head.some head_v.some fit_both head.first head_v.first,
        fit_both,
      )) (behind_u x is)

  pub fit_v : (y : C) → y ≡ slice_index_or row (i - 1) y → FitBehind 24 v.letter (terms_of y)
  fit_v y is = cell_fits has value m k (length u.word + length (rest L v.word)) 24 v.letter (terms_of y) (prod L u.word (rest L v.word))
      (omega (
        arith,
        length_v L laws u.word v.word u.letter v.letter head.covers head_v.covers head.some head_v.some fit_both head.first head_v.first,
        fit_both,
      )) (behind_v y is)

  pub letters_fit : length u.letter + length v.letter ≤ 24
  letters_fit = omega (
    arith,
    length_u L laws u.word v.word u.letter v.letter head.covers head_v.covers head.some head_v.some fit_both head.first
        head_v.first,
    length_v L laws u.word v.word u.letter v.letter head.covers head_v.covers head.some head_v.some fit_both head.first head_v.first,
    fit_both,
  )

  pub two_of : (x y : C) (xs ys two : List (Word × E)) → x ≡ slice_index_or below i x → y ≡ slice_index_or row (i - 1) y → xs ≡ terms_of x → ys ≡ terms_of y
      → IsMerged has value m u.letter xs v.letter ys two
      → Two has value m k L laws u.word v.word u.letter v.letter head.covers head_v.covers head.some head_v.some fit_both head.first head_v.first
      (terms_of x) (terms_of y) two
  two_of x y xs ys two x_is y_is xs_are ys_are merged = record {
    left = behind_u x x_is;
    right = behind_v y y_is;
    merged = subst (λ l. IsMerged has value m u.letter l v.letter (terms_of y) two) xs_are
        (subst (λ r. IsMerged has value m u.letter xs v.letter r two) ys_are merged);
  }

  -- the cell at the next suffix, whatever the default
  at_suffix : (terms : List (Word × E)) → IsCell has value m k (length u.word + length v.word) terms (prod L u.word v.word) → (s : Suffix)
      → IsCell has value m k (length u.word + length (slice_index_or suffixes (length row) s).word) terms
      (prod L u.word (slice_index_or suffixes (length row) s).word)
  at_suffix terms cell s =
      let here : v ≡ slice_index_or suffixes (length row) s =
      v_is ∙ ap (λ j. slice_index_or suffixes j v) at ∙ get_or_default suffixes (length row) v s more in
      subst (λ t. IsCell has value m k (length u.word + length t.word) terms (prod L u.word t.word)) here cell

  pub next_two : (x y : C) (xs ys two : List (Word × E)) → x ≡ slice_index_or below i x → y ≡ slice_index_or row (i - 1) y → xs ≡ terms_of x
      → ys ≡ terms_of y → IsMerged has value m u.letter xs v.letter ys two → None ≡ L.joined u.letter v.letter
      → (s : Suffix) → IsCell has value m k (length u.word + length (slice_index_or suffixes (length row) s).word) two
      (prod L u.word (slice_index_or suffixes (length row) s).word)
  next_two x y xs ys two x_is y_is xs_are ys_are merged none =
      at_suffix two (cell_two has value m k L laws u.word v.word u.letter v.letter head.covers head_v.covers head.some head_v.some fit_both head.first
      head_v.first (terms_of x) (terms_of y) two (two_of x y xs ys two x_is y_is xs_are ys_are merged) none)

  pub fit_joined : (z : C) (w : Word) (zs : List (Word × E)) → z ≡ slice_index_or below (i - 1) z → zs ≡ terms_of z
      → length w ≡ length u.letter + length v.letter → FitBehind 24 w zs
  fit_joined z w zs z_is zs_are length_w =
      subst (FitBehind 24 w) (sym zs_are)
      (cell_fits has value m k (length (rest L u.word) + length (rest L v.word)) 24 w (terms_of z) (prod L (rest L u.word) (rest L v.word))
      (omega (
        arith,
        length_w,
        length_u L laws u.word v.word u.letter v.letter head.covers head_v.covers head.some head_v.some fit_both head.first
            head_v.first,
        length_v L laws u.word v.word u.letter v.letter head.covers head_v.covers head.some head_v.some fit_both head.first head_v.first,
        fit_both,
      )) (behind_both z z_is))

  pub next_three : (x y z : C) (xs ys zs two left three : List (Word × E)) (w e : Word) → x ≡ slice_index_or below i x → y ≡ slice_index_or row (i - 1) y
      → z ≡ slice_index_or below (i - 1) z → xs ≡ terms_of x → ys ≡ terms_of y → zs ≡ terms_of z
      → IsMerged has value m u.letter xs v.letter ys two → Some w ≡ L.joined u.letter v.letter → length w ≡ length u.letter + length v.letter → e ≡ []
      → left ≡ two → IsMerged has value m e left w zs three
      → (s : Suffix) → IsCell has value m k (length u.word + length (slice_index_or suffixes (length row) s).word) three
      (prod L u.word (slice_index_or suffixes (length row) s).word)
  next_three x y z xs ys zs two left three w e x_is y_is z_is xs_are ys_are zs_are merged some length_w empty is merged_three =
      at_suffix three (cell_three has value m k L laws u.word v.word u.letter v.letter head.covers head_v.covers head.some head_v.some fit_both head.first
      head_v.first (terms_of x) (terms_of y) (terms_of z) two three w e (two_of x y xs ys two x_is y_is xs_are ys_are merged) some length_w
      (behind_both z z_is) empty
      (subst (λ l. IsMerged has value m e l w (terms_of z) three) is (subst (λ r. IsMerged has value m e left w r three) zs_are merged_three)))
