-- A sum whose words have forms that add up to nothing: its row lies in the span of the rows kept, so that it adds nothing to them.
use Rattle.std.specs.Prelude.{◌≡◌, ◌≢◌, ℕ, ◌+◌, ◌%◌, Bool, List, [], ◌∷◌, length, Option, Some, None, IfSome}
use Rattle.std.proofs.Common.{◌∙◌, ap, subst, arith}
use Rattle.zeta_model.specs.declared.Letter.{Letter}
use Rattle.linear_model.specs.Rows.{combination, InSpan, SameRow, SpanWithin}
use Rattle.linear_model.proofs.Spans.{span_through}
use Rattle.linear_model.proofs.RowSpans.{same_in_row_span}
use Rattle.linear_model.proofs.SpanSteps.{rows_and-before}
use Rattle.word_sums.specs.Terms.{coefficient_of}
use Rattle.echelon.specs.Lists.{entries_of, lead_at, row_at}
use Rattle.echelon.specs.States.{RowList}
use Rattle.echelon.specs.Offers.{TakesIn}
use Rattle.lyndon_polys.specs.Tables.{RingTable}
use Rattle.table_model.specs.Conversion.{IsTable, IsTableSum, Converts}
use Rattle.table_model.specs.Complete.{IsPolynomial}
use Rattle.table_model.proofs.RowWords.{cols_unique}
use Rattle.word_forms.specs.Forms.{RingForms, AreForms}
use Rattle.known_sums.specs.declared.table_forms.TableForms.{TableForms}
use Rattle.known_sums.specs.Known.{AddsNothing, HasForms, AreFresh}

pub no_items : {A : Type 0} (xs : List A) → length xs ≡ 0 → xs ≡ []
no_items [] e = cc
no_items (x ∷ xs) e = absurd (omega arith)

module _ {R E : Type 0} (m : ℕ) (has : E → Bool) (value : E → ℕ) (table : RingTable R) where
  -- what was known of the rows kept before is known of those whose span they lie in
  pub known_next : {A : Type 0} (kept new : List (List (ℕ × E))) (known : Option (TableForms R E A))
      → SpanWithin m (length kept) (row_at value kept) (length new) (row_at value new)
      → IfSome known (λ k. HasForms m has value table kept k.rows k.forms) → IfSome known (λ k. HasForms m has value table new k.rows k.forms)
  known_next kept new None within known = tt
  known_next kept new (Some k) within known = record {
    ring = known.ring;
    forms = known.forms;
    within = λ i l. span_through m (length kept) (length new) (row_at value kept) (row_at value new) within (row_at value k.rows.rows i) (known.within i l);
  }

  -- forms by the reduced list of the rows kept are known of these
  pub fresh_known : (zero : E) (kept : List (List (ℕ × E))) (list : RowList R E) (f : RingForms R E) → AreFresh m has value table zero kept list f
      → HasForms m has value table kept list f
  fresh_known zero kept list f fresh = record { ring = fresh.ring; forms = fresh.forms; within = fresh.span.1 }

  -- a sum whose polynomial is zero adds nothing
  pub adds_nothing : (kept : List (List (ℕ × E))) (list : RowList R E) (f : RingForms R E) → HasForms m has value table kept list f
      → (sum : List (List Letter × E)) → IsTable m table.columns → Converts m table.columns → IsTableSum m table.columns (coefficient_of value sum)
      → (row : List (ℕ × E)) → row ≡ []
      → ((rows : List (List (ℕ × E))) → IsTable m table.columns → AreForms m has value table.columns rows f.forms
      → IsTableSum m table.columns (coefficient_of value sum)
      → IsPolynomial m table.columns (length rows) (lead_at rows) (row_at value rows) (coefficient_of value sum) (entries_of value row))
      → AddsNothing m value table.columns kept sum
  adds_nothing kept list f known sum is_table converts within row none told =
      let rows = list.rows in
      let polynomial = told rows is_table known.forms within in
      let left = polynomial.left in
      let p : ℕ → ℕ = polynomial.cols in
      let by_rows : ℕ → ℕ = combination (length rows) (row_at value rows) left.coefficients in
      let lies : InSpan m (length kept) (row_at value kept) p =
      span_through m (length rows) (length kept) (row_at value rows) (row_at value kept) known.within p (
        left.coefficients,
        λ col. left.differs col ∙ ap (λ es. (entries_of value es col + by_rows col) % m) none
            ∙ ap (λ x. x % m) (let z : 0 + by_rows col ≡ by_rows col = omega arith in z),
      ) in
      record {
        row = p;
        is_row = polynomial.is_cols;
        lies = λ q is. let same : SameRow m q p = cols_unique m table.columns is_table converts (coefficient_of value sum) q p is polynomial.is_cols in
            same_in_row_span m (length kept) (row_at value kept) q p same lies;
      }

-- rows that were kept stay in the span where one more is taken in
pub kept_within : {E : Type 0} (m : ℕ) (value : E → ℕ) (kept new : List (List (ℕ × E))) (p : ℕ → ℕ) → TakesIn m value kept p new
    → SpanWithin m (length kept) (row_at value kept) (length new) (row_at value new)
kept_within m value kept new p taken i l =
    let other : i ≢ length kept = omega arith in
    subst (InSpan m (length new) (row_at value new)) (rows_and-before m (length kept) (row_at value kept) p i other) (taken.0 i (omega arith))
