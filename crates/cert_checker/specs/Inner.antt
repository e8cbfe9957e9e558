-- What single steps of the code answer. No public clause cites these, so a reader need not believe them.
use Rattle.std.specs.Prelude.{◌≡◌, ℕ, ◌<◌, ◌⊎◌, Bool, List, [], length, map, get_or, slice_index}
use Rattle.zeta_model.specs.declared.Letter.{Letter}
use Rattle.zeta_model.specs.Modular.{Same}
use Rattle.zeta_model.specs.Sums.{Sum}
use Rattle.sparse_rows.specs.Entries.{IsRow, IsBelow, AllIn}
use Rattle.lyndon_words.specs.Lyndon.{joined}
use Rattle.column_order.specs.Columns.{ColumnList}
use Rattle.relation_list.specs.declared.names.RelName.{RelName}
use Rattle.relation_list.specs.Listings.{listing_of}
use Rattle.echelon.specs.Lists.{entries_of, lead_at, row_at}
use Rattle.page_rows.specs.Written.{AreResidues}
use Rattle.table_model.specs.MonomialWords.{column_at, words_of_monomial}
use Rattle.table_model.specs.ListedSpan.{values_of, count_of}
use Rattle.table_model.specs.Complete.{IsPolynomial}
use Rattle.table_model.specs.Faults.{IsFirstWithout, LeavesNothing}
use Rattle.cert_checker.specs.Certified.{residues_at}

-- the number that each element of a list stands for, and 0 past the end
abbrev pub numbers_of : {A : Type 0} → (A → ℕ) → List A → ℕ → ℕ
numbers_of value xs q = slice_index (map value xs) q

-- the word of the column at place q
abbrev pub word_at : ColumnList → ℕ → List Letter
word_at columns q = joined (column_at columns.list q)

-- relation n is the first of which the rows leave something, and these are the columns and residues of what they leave
pub record IsTold (m : ℕ) (columns : ColumnList) (count : ℕ) (lead : ℕ → ℕ) (rows : ℕ → ℕ → ℕ) (n : ℕ) (rest : List (ℕ × ℕ)) : Type 0 where
  pub first : IsFirstWithout (LeavesNothing m columns count lead rows) (count_of columns) n
  pub polynomial : IsPolynomial m columns count lead rows (values_of m columns n) (residues_at rest)
  pub small : (col : ℕ) → residues_at rest col < m
  pub residues : AreResidues (λ k. k) m rest
  pub below : IsBelow (λ k. k) (length columns.list) rest

module _ {E : Type 0} (m : ℕ) (has : E → Bool) (value : E → ℕ) (columns : ColumnList) where
  -- pairs of the places of words, with what a sum gives these words
  pub record IsPlaced (s : Sum) (placed : List (ℕ × E)) : Type 0 where
    pub below : IsBelow (λ k. k) (length columns.list) placed
    pub in_ring : AllIn has placed
    pub same : (q : ℕ) → q < length columns.list → Same m (entries_of value placed q) (s (word_at columns q))

  -- the words of each column
  pub record AreColumnWords (words : List (List (ℕ × E))) : Type 0 where
    pub count : length words ≡ length columns.list
    pub each : (i : ℕ) → i < length words → IsPlaced (words_of_monomial (column_at columns.list i)) (get_or words i [])

  -- the values of the listed relations, those that were not asked for yet without pairs
  pub record AreValues (names : List RelName) (values : List (List (ℕ × E))) : Type 0 where
    pub listed : names ≡ listing_of columns.weight columns.depth
    pub count : length values ≡ length names
    pub each : (n : ℕ) → n < length values → (get_or values n [] ≡ []) ⊎ IsPlaced (values_of m columns n) (get_or values n [])

  -- relation n is the first of which the rows leave something, and this is what they leave
  pub record IsMissing (zero : E) (rows : List (List (ℕ × E))) (n : ℕ) (rest : List (ℕ × E)) : Type 0 where
    pub first : IsFirstWithout (LeavesNothing m columns (length rows) (lead_at rows) (row_at value rows)) (count_of columns) n
    pub polynomial : IsPolynomial m columns (length rows) (lead_at rows) (row_at value rows) (values_of m columns n) (entries_of value rest)
    pub is_row : IsRow (λ k. k) zero 0 rest
    pub below : IsBelow (λ k. k) (length columns.list) rest
    pub in_ring : AllIn has rest
