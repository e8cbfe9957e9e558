-- Sums of words that are known to add nothing to rows that were kept.
use Rattle.std.specs.Prelude.{◌≡◌, ℕ, Bool, false, List, length, None, IfSome}
use Rattle.zeta_model.specs.declared.Letter.{Letter}
use Rattle.linear_model.specs.Rows.{SpanWithin}
use Rattle.word_sums.specs.Terms.{coefficient_of}
use Rattle.column_order.specs.Columns.{ColumnList}
use Rattle.echelon.specs.Lists.{row_at}
use Rattle.echelon.specs.States.{RowList, IsRowList}
use Rattle.echelon.specs.Offers.{InSpanOf}
use Rattle.echelon.specs.Finishes.{SameSpanOf}
use Rattle.lyndon_polys.specs.Tables.{RingTable}
use Rattle.table_model.specs.Conversion.{IsCols}
use Rattle.word_forms.specs.Forms.{RingForms, AreForms}
use Rattle.known_sums.specs.declared.known_sums.KnownSums.{KnownSums}

-- the sum has a row, and whatever row it has lies in the span of the rows kept
pub record AddsNothing {E : Type 0} (m : ℕ) (value : E → ℕ) (columns : ColumnList) (kept : List (List (ℕ × E))) (sum : List (List Letter × E)) : Type 0 where
  pub row : ℕ → ℕ
  pub is_row : IsCols m columns (coefficient_of value sum) row
  pub lies : (p : ℕ → ℕ) → IsCols m columns (coefficient_of value sum) p → InSpanOf m value kept p

module _ {R E A : Type 0} where
  -- no forms were made yet
  abbrev pub IsNothing : KnownSums R E A → Type 0
  IsNothing known = known.forms ≡ None

  -- forms that were made, if any, are over the ring, one for each column
  abbrev pub FitsTable : RingTable R → KnownSums R E A → Type 0
  FitsTable table known = IfSome known.forms (λ k. (k.forms.ring ≡ table.ring) × (length k.forms.forms ≡ length table.columns.list))

module _ {R E : Type 0} (m : ℕ) (has : E → Bool) (value : E → ℕ) (table : RingTable R) where
  -- the forms are the polynomials of the words of the table by the rows of the list, which lie in the span of those kept
  pub record HasForms (kept : List (List (ℕ × E))) (list : RowList R E) (f : RingForms R E) : Type 0 where
    pub ring : f.ring ≡ table.ring
    pub forms : AreForms m has value table.columns list.rows f.forms
    pub within : SpanWithin m (length list.rows) (row_at value list.rows) (length kept) (row_at value kept)

  -- the list is the reduced list of the rows kept, and the forms are by it
  pub record AreFresh (zero : E) (kept : List (List (ℕ × E))) (list : RowList R E) (f : RingForms R E) : Type 0 where
    pub list_ring : list.ring ≡ table.ring
    pub is_list : IsRowList m has value zero (length table.columns.list) list.rows
    pub span : SameSpanOf m value kept list.rows
    pub ring : f.ring ≡ table.ring
    pub forms : AreForms m has value table.columns list.rows f.forms

  -- forms that were made, if any, are by rows in the span of those kept
  abbrev pub Knows : {A : Type 0} → List (List (ℕ × E)) → KnownSums R E A → Type 0
  Knows kept known = IfSome known.forms (λ k. HasForms kept k.rows k.forms)

  -- and by the reduced list of those kept, unless they are stale
  abbrev pub IsCurrent : {A : Type 0} → E → List (List (ℕ × E)) → KnownSums R E A → Type 0
  IsCurrent zero kept known = known.is_stale ≡ false → IfSome known.forms (λ k. AreFresh zero kept k.rows k.forms)
