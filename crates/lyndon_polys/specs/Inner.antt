-- What single steps of the code answer. No public clause cites these, so a reader need not believe them.
use Rattle.std.specs.Prelude.{◌≡◌, ℕ, ◌*◌, ◌<◌, Bool, cond, Option, Some, None, List, map, length, slice_index, All, Contains}
use Rattle.std.specs.Ordering.{is_lt}
use Rattle.std.specs.List.Sorted.{IsStrictlySortedBy}
use Rattle.std.specs.Map.{keys_of}
use Rattle.zeta_model.specs.declared.Letter.{Letter}
use Rattle.zeta_model.specs.Modular.{Same}
use Rattle.zeta_model.specs.Sums.{Sum, single}
use Rattle.zeta_model.specs.Words.{word_cmp}
use Rattle.sparse_rows.specs.Entries.{IsBelow, AllIn}
use Rattle.lyndon_words.specs.Lyndon.{IsBefore, joined}
use Rattle.column_order.specs.Columns.{ColumnList}
use Rattle.table_model.specs.MonomialWords.{words_of_monomial, column_at}
use Rattle.table_model.specs.Conversion.{IsTableWord, IsCols}
use Rattle.zeta_model.specs.Inverses.{HasInverse}
use Rattle.lyndon_polys.specs.Tables.{entries_of}

-- the number that each element of a list stands for, and 0 past the end
abbrev pub numbers_of : {A : Type 0} → (A → ℕ) → List A → ℕ → ℕ
numbers_of value xs q = slice_index (map value xs) q

module _ {E : Type 0} where
  -- a row over the columns whose words are s
  pub record IsRowOf (m : ℕ) (has : E → Bool) (value : E → ℕ) (columns : ColumnList) (s : Sum) (row : List (ℕ × E)) : Type 0 where
    pub below : IsBelow (λ k. k) (length columns.list) row
    pub in_ring : AllIn has row
    pub cols : IsCols m columns s (entries_of value row)

  -- words that increase, each with its row
  pub record AreWordRows (m : ℕ) (has : E → Bool) (value : E → ℕ) (columns : ColumnList) (rows : List (List Letter × List (ℕ × E))) : Type 0 where
    pub sorted : IsStrictlySortedBy word_cmp (keys_of rows)
    pub each : All (λ r. IsRowOf m has value columns (single r.0) r.1) rows

  -- so it is for each word of the table
  pub record AreAllWordRows (m : ℕ) (has : E → Bool) (value : E → ℕ) (columns : ColumnList) (rows : List (List Letter × List (ℕ × E))) : Type 0 where
    pub known : AreWordRows m has value columns rows
    pub whole : (t : List Letter) → IsTableWord columns.weight columns.depth t → Contains (keys_of rows) t

-- b is an inverse of a
abbrev pub Inverts : ℕ → ℕ → ℕ → Type 0
Inverts m a b = Same m (a * b) 1

-- the coefficient of p's word in the words of p
abbrev pub leading : List (List Letter) → ℕ
leading p = words_of_monomial p (joined p)

-- of the first i columns, those with a word before u have an inverse at their leading coefficient
abbrev pub ConvertBefore : ℕ → ColumnList → ℕ → List Letter → Type 0
ConvertBefore m columns i u = (j : ℕ) → j < i → IsBefore (joined (column_at columns.list j)) u → HasInverse m (leading (column_at columns.list j))

-- the leading coefficient of a column below i has no inverse and is the residue modulo m, and no such column has an earlier word
pub record IsFirstFault (m : ℕ) (columns : ColumnList) (i : ℕ) (u : List Letter) (residue : ℕ) : Type 0 where
  pub col : ℕ
  pub below : col < i
  pub word : joined (column_at columns.list col) ≡ u
  pub told : Same m (leading (column_at columns.list col)) residue
  pub small : residue < m
  pub none : ¬ (HasInverse m residue)
  pub earlier : ConvertBefore m columns i u

-- of two faults, a residue with a word each, the one with the earlier word
abbrev pub earlier_fault : Option (ℕ × List Letter) → ℕ → List Letter → Option (ℕ × List Letter)
earlier_fault None residue word = Some (residue, word)
earlier_fault (Some f) residue word = cond (is_lt (word_cmp word f.1)) (Some (residue, word)) (Some f)
