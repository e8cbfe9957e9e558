-- What single steps of the code answer. No public clause cites these, so a reader need not believe them.
-- Terms that stand for a list of words, and rows of them: one word times each suffix of another.
use Rattle.std.specs.Prelude.{◌≡◌, ℕ, ◌+◌, ◌-◌, ◌*◌, ◌<◌, ◌≤◌, Bool, true, List, [], ◌∷◌, ◌++◌, length, All, slice_index_or}
use Rattle.std.specs.Map.{keys_of}
use Rattle.word_sums.specs.Terms.{AllIn}
use Rattle.zeta_model.specs.declared.Letter.{Letter}
use Rattle.zeta_model.specs.Modular.{Same}
use Rattle.zeta_model.specs.Product.{Alphabet, IsLetter, rest, prod, total}
use Rattle.zeta_model.specs.Sums.{weighted}
use Rattle.quasi_product.specs.declared.rows.Suffix.{Suffix}

module _ {E : Type 0} where
  -- the word of each term has at most n letters, with the front before it
  abbrev pub FitBehind : ℕ → List Letter → List (List Letter × E) → Type 0
  FitBehind n front terms = All (λ w. length front + length w ≤ n) (keys_of terms)

  -- the first of two lists of terms behind fronts, by the sum of f over their words, and what is left of the lists
  pub record IsTaken (has : E → Bool) (value : E → ℕ) (m : ℕ) (a : List Letter) (left : List (List Letter × E))
      (b : List Letter) (right : List (List Letter × E)) (term : List Letter × E) (left_rest right_rest : List (List Letter × E)) : Type 0 where
    pub has_it : has term.1 ≡ true
    pub left_in : AllIn has left_rest
    pub right_in : AllIn has right_rest
    pub within : (n : ℕ) → FitBehind n a left → FitBehind n b right → (length term.0 ≤ n) × FitBehind n a left_rest × FitBehind n b right_rest
    pub counts : (f : List Letter → ℕ)
        → Same m (value term.1 * f term.0 + (weighted value (λ w. f (a ++ w)) left_rest + weighted value (λ w. f (b ++ w)) right_rest))
        (weighted value (λ w. f (a ++ w)) left + weighted value (λ w. f (b ++ w)) right)
    pub shorter : length left_rest + length right_rest < length left + length right

  -- the terms of both lists, each behind its front
  pub record IsMerged (has : E → Bool) (value : E
      → ℕ) (m : ℕ) (a : List Letter) (left : List (List Letter × E)) (b : List Letter) (right terms : List (List Letter × E)) : Type 0 where
    pub in_ring : AllIn has terms
    pub within : (n : ℕ) → FitBehind n a left → FitBehind n b right → All (λ w. length w ≤ n) (keys_of terms)
    pub counts : (f : List Letter → ℕ) → Same m (weighted value f terms) (weighted value (λ w. f (a ++ w)) left + weighted value (λ w. f (b ++ w)) right)

  -- the terms give each word k times its number of places in the list, modulo m, and none has more than n letters
  pub record IsCell (has : E → Bool) (value : E → ℕ) (m k n : ℕ) (terms : List (List Letter × E)) (words : List (List Letter)) : Type 0 where
    pub in_ring : AllIn has terms
    pub within : All (λ w. length w ≤ n) (keys_of terms)
    pub counts : (f : List Letter → ℕ) → Same m (weighted value f terms) (k * total f words)

  -- k times the product of u with each of the first suffixes
  pub record IsRow {C : Type 0} (terms_of : C → List (List Letter × E)) (has : E → Bool) (value : E → ℕ) (m k : ℕ)
      (L : Alphabet) (u : List Letter) (suffixes : List Suffix) (row : List C) : Type 0 where
    pub cell : (i : ℕ) (c : C) (s : Suffix) → i < length row
        → IsCell has value m k (length u + length (slice_index_or suffixes i s).word) (terms_of (slice_index_or row i c))
        (prod L u (slice_index_or suffixes i s).word)

  -- c times the word without letters with each of the first suffixes: each cell has one term
  pub record IsFirstRow {C : Type 0} (terms_of : C → List (List Letter × E)) (c : E) (suffixes : List Suffix) (row : List C) : Type 0 where
    pub cell : (i : ℕ) (d : C) (s : Suffix) → i < length row → terms_of (slice_index_or row i d) ≡ ((slice_index_or suffixes i s).word, c) ∷ []

-- a covered word with its first letter
pub record IsHead (L : Alphabet) (s : Suffix) : Type 0 where
  pub covers : L.covered s.word ≡ true
  pub some : 0 < length s.word
  pub letter : IsLetter L s.letter
  pub first : s.letter ≡ L.first s.word

-- the suffixes of a covered word, from the word without letters on, each with its first letter
pub record AreSuffixes (L : Alphabet) (suffixes : List Suffix) : Type 0 where
  pub some : 0 < length suffixes
  pub begins : (s : Suffix) → (slice_index_or suffixes 0 s).word ≡ []
  pub heads : (i : ℕ) (s : Suffix) → 0 < i → i < length suffixes → IsHead L (slice_index_or suffixes i s)
  pub steps : (i : ℕ) (s : Suffix) → 0 < i → i < length suffixes → (slice_index_or suffixes (i - 1) s).word ≡ rest L (slice_index_or suffixes i s).word
