-- The laws of texts, as callers cite them.
use Rattle.std.proofs.Common.{◌≡◌, ℕ, ◌+◌, ◌^◌, ◌<◌, ◌≤◌, Bool, true, Some, List, [], ◌∷◌, ◌++◌, length, slice_get, refl, sym, ap, ◌∙◌, arith}
use Rattle.std.specs.List.{AllByRecursion}
use Rattle.std.specs.Fmt.{decimal}
use Rattle.std.proofs.lemmas.Fmt.{decimal_nonempty}
use Rattle.zeta_model.specs.declared.Letter.{Letter}
use Rattle.column_order.specs.Ranks.{rank_of}
use Rattle.column_order.specs.Columns.{ColumnList, IsColumns}
use Rattle.sparse_rows.specs.Entries.{entry_of, IsRow, IsBelow, AllIn}
use Rattle.sparse_rows.proofs.EntryLemmas.{below_more}
use Rattle.poly_print.specs.Polynomials.{row_text, ArePairs, pairs_from, residues_text, residue_pairs}
use Rattle.poly_print.proofs.CutTexts.{IsDigit, decimal_digits}
use Rattle.poly_print.proofs.RowTexts.{HaveTexts, columns_have_texts, row_text-injective, starred}
use Rattle.poly_print.proofs.PairLemmas.{pairs_from-pairs, pairs_from-same, pairs_from-entries, residue_pairs-pairs, residue_pairs-injective}

pub have_texts : (columns : ColumnList) → 2 ≤ columns.weight → IsColumns columns → HaveTexts columns.list
have_texts columns h c = columns_have_texts (rank_of columns.preference) columns.weight columns.depth columns.list h c

pub pairs-one : (columns : ColumnList) → 2 ≤ columns.weight → IsColumns columns → (m : ℕ) (es fs : List (ℕ × ℕ)) → m < 2 ^ 64
    → ArePairs m (length columns.list) 0 es → ArePairs m (length columns.list) 0 fs → row_text columns.list es ≡ row_text columns.list fs → es ≡ fs
pairs-one columns h c m es fs l a b q = row_text-injective columns.list (have_texts columns h c) m es fs l a b q

pub residues-one : (columns : ColumnList) → 2 ≤ columns.weight → IsColumns columns → (m : ℕ) (p q : ℕ → ℕ) → m < 2 ^ 64 → ((col : ℕ)
    → col < length columns.list → p col < m) → ((col : ℕ) → col < length columns.list → q col < m) → residues_text columns.list p
    ≡ residues_text columns.list q → (col : ℕ) → col < length columns.list → p col ≡ q col
residues-one columns h c m p q l f g e col s =
    let n = length columns.list in
    let same = pairs-one columns h c m (pairs_from 0 n p) (pairs_from 0 n q) l (pairs_from-pairs m n 0 n p (omega arith) f) (pairs_from-pairs m n 0 n q
    (omega arith) g) e in
    pairs_from-same 0 n p q same col (omega arith) (omega arith)

-- the first byte of a text is a digit
first_digit : (xs ys : List ℕ) → 0 < length xs → AllByRecursion IsDigit xs → (b : ℕ) × (slice_get (xs ++ ys) 0 ≡ Some b) × IsDigit b
first_digit [] ys h a = absurd (omega arith)
first_digit (x ∷ xs) ys h a = (x, refl, a.0)

pub begins-with_digit : (columns : List (List (List Letter))) (m n : ℕ) (es : List (ℕ × ℕ)) → m < 2 ^ 64 → ArePairs m n 0 es
    → (b : ℕ) × (slice_get (row_text columns es) 0 ≡ Some b) × IsDigit b
begins-with_digit columns m n [] l a = (48, refl, (omega arith, omega arith))
begins-with_digit columns m n (e ∷ es) l (a, b, c, d, r) =
    let s = starred columns e es in
    let f = first_digit (decimal e.1) (42 ∷ s.0) (decimal_nonempty e.1 (omega arith)) (decimal_digits e.1 (omega arith)) in
    (f.0, ap (λ t. slice_get t 0) s.1 ∙ f.1, f.2)

-- rows of elements
module _ {E : Type 0} (none : E) (has : E → Bool) (value : E → ℕ) (m : ℕ) (small : m < 2 ^ 64) (value_zero : value none ≡ 0) (has_zero : has none
    ≡ true) (value_below : (a : E) → has a ≡ true → value a < m) (value_injective : (a b : E) → has a ≡ true → has b ≡ true → value a ≡ value b → a
    ≡ b) where
  pub rows-one : (columns : ColumnList) → 2 ≤ columns.weight → IsColumns columns → (p q : List (ℕ × E)) → IsRow (λ c. c) none 0 p
      → IsRow (λ c. c) none 0 q → IsBelow (λ c. c) (length columns.list) p → IsBelow (λ c. c) (length columns.list) q → AllIn has p → AllIn has q
      → row_text columns.list (residue_pairs (λ c. c) value p) ≡ row_text columns.list (residue_pairs (λ c. c) value q) → p ≡ q
  rows-one columns h c p q rp rq bp bq ip iq e =
      let pairs = residue_pairs-pairs none has value value_zero has_zero value_injective m (length columns.list) 0 in
      residue_pairs-injective none has value value_zero has_zero value_injective p q ip iq (pairs-one columns h c m (residue_pairs (λ c. c) value p)
      (residue_pairs (λ c. c) value q) small (pairs p value_below rp bp ip) (pairs q value_below rq bq iq) e)

  pub rows-residues : (columns : ColumnList) (p : List (ℕ × E)) → IsRow (λ c. c) none 0 p → IsBelow (λ c. c) (length columns.list) p → AllIn has p
      → row_text columns.list (residue_pairs (λ c. c) value p) ≡ residues_text columns.list (entry_of (λ c. c) value p)
  rows-residues columns p r b i = ap (row_text columns.list) (sym (pairs_from-entries none has value value_zero has_zero value_injective 0
      (length columns.list) p r (below_more (λ c. c) (length columns.list) (0 + length columns.list) p (omega arith) b) i))
