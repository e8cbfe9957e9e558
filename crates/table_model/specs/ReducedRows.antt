-- Sums of words are offered one after the other, as the values of the listed relations are: the reduced rows of the first n, what they
-- leave of number n, and which numbers are accepted.
use Rattle.std.specs.Prelude.{◌≡◌, ℕ, ◌*◌, ◌%◌, ◌<◌, ◌≤◌, ◌↔◌}
use Rattle.zeta_model.specs.Modular.{Same}
use Rattle.zeta_model.specs.Sums.{Sum, SameSum}
use Rattle.linear_model.specs.Rows.{SameRow, InSpan}
use Rattle.linear_model.specs.Reduced.{IsLead, IsReduced, IsNormalForm}
use Rattle.column_order.specs.Columns.{ColumnList}
use Rattle.table_model.specs.MonomialWords.{words_of_row, sum_combination}
use Rattle.zeta_model.specs.Inverses.{HasInverse}
use Rattle.table_model.specs.Conversion.{IsOver, IsCols}
use Rattle.table_model.specs.ListedSpan.{InSumSpan}

-- R(n): the one reduced list whose combinations are exactly the rows with words in the span of the first n sums
pub record IsReducedRows (m : ℕ) (columns : ColumnList) (sums : ℕ → Sum) (n count : ℕ) (lead : ℕ → ℕ) (rows : ℕ → ℕ → ℕ) : Type 0 where
  pub reduced : IsReduced m count lead rows
  pub over : (i : ℕ) → i < count → IsOver m columns (rows i)
  pub whole : (p : ℕ → ℕ) → IsOver m columns p → InSpan m count rows p ↔ InSumSpan m n sums (words_of_row columns.list p)

-- q is rest(n), the normal form by R(n) of the row of sum number n
pub record IsRest (m : ℕ) (columns : ColumnList) (sums : ℕ → Sum) (n : ℕ) (q : ℕ → ℕ) : Type 0 where
  pub count : ℕ
  pub lead : ℕ → ℕ
  pub rows : ℕ → ℕ → ℕ
  pub cols : ℕ → ℕ
  pub earlier : IsReducedRows m columns sums n count lead rows
  pub value : IsCols m columns (sums n) cols
  pub left : IsNormalForm m count lead rows cols q

-- number n is accepted: its rest is not zero
abbrev pub IsAccepted : ℕ → ColumnList → (ℕ → Sum) → ℕ → Type 0
IsAccepted m columns sums n = (q : ℕ → ℕ) × IsRest m columns sums n q × ¬ (SameRow m q (λ _. 0))

-- the work is broken at n: the rest leads with a residue that has no inverse
pub record IsBrokenAt (m : ℕ) (columns : ColumnList) (sums : ℕ → Sum) (n : ℕ) (residue : ℕ) : Type 0 where
  pub rest : ℕ → ℕ
  pub is_rest : IsRest m columns sums n rest
  pub col : ℕ
  pub leads : IsLead m rest col
  pub told : rest col % m ≡ residue
  pub none : ¬ (HasInverse m residue)

-- row is the forward row of n: its rest times the inverse of the lead
pub record IsForwardRow (m : ℕ) (columns : ColumnList) (sums : ℕ → Sum) (n : ℕ) (row : ℕ → ℕ) : Type 0 where
  pub rest : ℕ → ℕ
  pub is_rest : IsRest m columns sums n rest
  pub col : ℕ
  pub leads : IsLead m rest col
  pub inverse : ℕ
  pub inverts : Same m (rest col * inverse) 1
  pub is : SameRow m row (λ j. inverse * rest j)

-- c is the combination of p over accepted numbers below n: their sums, each times its residue, add up to the words of p
pub record IsCombination (m : ℕ) (columns : ColumnList) (sums : ℕ → Sum) (n : ℕ) (p c : ℕ → ℕ) : Type 0 where
  pub accepted : (k : ℕ) → k < n → ¬ (IsAccepted m columns sums k) → Same m (c k) 0
  pub within : (k : ℕ) → n ≤ k → Same m (c k) 0
  pub evaluates : SameSum m (words_of_row columns.list p) (sum_combination n sums c)

-- the work is broken at none of the numbers below n
abbrev pub IsUnbroken : ℕ → ColumnList → (ℕ → Sum) → ℕ → Type 0
IsUnbroken m columns sums n = (k : ℕ) → k < n → (residue : ℕ) → ¬ (IsBrokenAt m columns sums k residue)

-- the work is broken, first at n
abbrev pub BreaksFirst : ℕ → ColumnList → (ℕ → Sum) → ℕ → ℕ → Type 0
BreaksFirst m columns sums n residue = IsBrokenAt m columns sums n residue × IsUnbroken m columns sums n
