-- One relation more is offered.
use Rattle.std.specs.Prelude.{◌≡◌, ℕ, suc, ◌+◌, ◌*◌, ◌<◌, min, Option, List, [], ◌∷◌, ◌++◌, length, get_or}
use Rattle.std.proofs.Common.{refl, sym, ◌∙◌, ap, subst, inl, inr, arith}
use Rattle.std.proofs.lemmas.Bool.{cases_lt, cases_eq}
use Rattle.std.proofs.lemmas.List.{get_or_append_left}
use Rattle.zeta_model.specs.Sums.{Sum}
use Rattle.outside_io.specs.Traces.{Trace}
use Rattle.linear_model.specs.Rows.{InSpan}
use Rattle.column_order.specs.Columns.{ColumnList}
use Rattle.echelon.specs.Lists.{entries_of, row_at, AreForward}
use Rattle.echelon.specs.Offers.{HasNoInverse, TakesIn, used_at, IsForwardRow as IsMadeForward}
use Rattle.table_model.specs.Conversion.{IsTable, IsTableSum, Converts, IsCols}
use Rattle.table_model.specs.ListedSpan.{values_of, count_of}
use Rattle.table_model.specs.ReducedRows.{BreaksFirst, IsForwardRow, IsAccepted, IsUnbroken}
use Rattle.page_codec.specs.declared.params.Params.{Params}
use Rattle.file_model.specs.Pages.{IsWork}
use Rattle.table_build.specs.Inner.{Course, IsCourse, HasOffered, IsMadeOf, SpanFirst, Stands, IsAt, IsBegun, Holds}
use Rattle.table_build.proofs.RecordedSums.{made_of}
use Rattle.table_build.proofs.OfferedSums.{span_none, span_next, broken, unbroken_next, not_accepted, is_accepted, is_forward_row}
use Rattle.table_build.proofs.GrownLists.{last_one, length-last, stands_last, stands_front, stands_there}

module _ {E : Type 0} (m : ℕ) (value : E → ℕ) (columns : ColumnList) (course : Course) (is : IsCourse m columns course) where
  pub course_table : IsTable m columns
  course_table = let of = is.are_columns in subst (λ x. IsTable x columns) is.modulus of.table

  pub course_converts : Converts m columns
  course_converts = subst (λ x. Converts x columns) is.modulus is.converts

  pub course_work : IsWork m columns course.work
  course_work = subst (λ x. IsWork x columns course.work) is.modulus is.is_work

  pub course_sums : (k : ℕ) → IsTableSum m columns (course.work.sums k)
  course_sums = let w = course_work in w.sums

module _ {E : Type 0} (m : ℕ) (value : E → ℕ) (columns : ColumnList) (course : Course) (n : ℕ) (numbers : List ℕ) (rows : List (List (ℕ × E)))
    (so_far : HasOffered m value columns course n numbers rows) (few : n < count_of columns) (p : ℕ → ℕ)
    (value_row : IsCols m columns (values_of m columns n) p) where
  abbrev Sums : ℕ → Sum
  Sums = course.work.sums

  table : IsTable m columns
  table = course_table m value columns course so_far.is_course

  converts : Converts m columns
  converts = course_converts m value columns course so_far.is_course

  within : (k : ℕ) → IsTableSum m columns (course.work.sums k)
  within = course_sums m value columns course so_far.is_course

  cols : IsCols m columns (course.work.sums n) p
  cols = let c = so_far.is_course in subst (λ s. IsCols m columns s p) (sym (c.offers n so_far.from few)) value_row

  -- where the elimination finds no inverse, the work breaks first at n
  pub offer_breaks : (lead : ℕ) → HasNoInverse m value rows p lead → BreaksFirst m columns course.work.sums n lead
  offer_breaks lead h = (broken m value columns table converts Sums within n rows p so_far.span cols so_far.list so_far.unbroken lead h, so_far.unbroken)

  module _ (fits : (lead : ℕ) → ¬ (HasNoInverse m value rows p lead)) where
    unbroken : IsUnbroken m columns course.work.sums (suc n)
    unbroken = unbroken_next m value columns table converts Sums within n rows p so_far.span cols so_far.list so_far.unbroken fits

    spans : (new : List (List (ℕ × E))) → TakesIn m value rows p new → SpanFirst m value columns course.work.sums (suc n) new
    spans new taken = subst (λ k. SpanFirst m value columns Sums k new) (let z : n + 1 ≡ suc n = omega arith in z)
        (span_next m value columns table converts Sums within n rows p so_far.span cols new taken)

    -- a row of the span adds nothing
    pub offered_none : InSpan m (length rows) (row_at value rows) p → TakesIn m value rows p rows → HasOffered m value columns course (suc n) numbers rows
    offered_none lies taken = record {
      is_course = so_far.is_course;
      from = omega (arith, so_far.from);
      list = so_far.list;
      count = so_far.count;
      unbroken = unbroken;
      span = spans rows taken;
      accepted = λ k. (
        λ there. let (is, low) = (so_far.accepted k).0 there in (is, omega (arith, low)),
        λ (is, low). elim (cases_eq k n) [
          | inl e ↦ absurd (not_accepted m value columns table converts Sums within n rows p so_far.span cols so_far.list so_far.unbroken lies
              (subst (IsAccepted m columns Sums) e is))
          | inr ne ↦ (so_far.accepted k).1 (is, omega arith)
        ],
      );
      forward = so_far.forward;
    }

    module _ (row uses : List (ℕ × E)) (scale : E) (apart : ¬ (InSpan m (length rows) (row_at value rows) p))
        (made : IsMadeForward m value rows p row (value scale) (used_at value numbers uses)) where
      accepted : IsAccepted m columns course.work.sums n
      accepted = is_accepted m value columns table converts Sums within n rows p so_far.span cols so_far.list so_far.unbroken apart

      -- another is kept, and its number is accepted
      pub offered_one : TakesIn m value rows p (rows ++ row ∷ []) → AreForward m value (rows ++ row ∷ [])
          → HasOffered m value columns course (suc n) (numbers ++ n ∷ []) (rows ++ row ∷ [])
      offered_one taken list = record {
        is_course = so_far.is_course;
        from = omega (arith, so_far.from);
        list = list;
        count = omega (arith, length-last numbers n, length-last rows row, so_far.count);
        unbroken = unbroken;
        span = spans (rows ++ row ∷ []) taken;
        accepted = λ k. (
          λ there. elim (stands_last numbers n k there) [
            | inl front ↦ let (is, low) = (so_far.accepted k).0 front in (is, omega (arith, low))
            | inr e ↦ (subst (IsAccepted m columns Sums) (sym e) accepted, omega (arith, e))
          ],
          λ (is, low). elim (cases_eq k n) [
            | inl e ↦ subst (Stands (numbers ++ n ∷ [])) (sym e) (stands_there numbers n)
            | inr ne ↦ stands_front numbers (n ∷ []) k ((so_far.accepted k).1 (is, omega arith))
          ],
        );
        forward = λ i l. elim (cases_lt i (length numbers)) [
          | inl front ↦ subst (λ k. IsForwardRow m columns Sums k (row_at value (rows ++ row ∷ []) i)) (sym (get_or_append_left numbers (n ∷ []) 0 i front))
              (subst (λ r. IsForwardRow m columns Sums (get_or numbers i 0) (entries_of value r))
              (sym (get_or_append_left rows (row ∷ []) [] i (omega (arith, front, so_far.count)))) (so_far.forward i front))
          | inr behind ↦
              let at : i ≡ length numbers = omega (arith, l, behind, length-last numbers n) in
              let there : get_or (numbers ++ n ∷ []) i 0 ≡ n = ap (λ j. get_or (numbers ++ n ∷ []) j 0) at ∙ last_one numbers n 0 in
              let here : get_or (rows ++ row ∷ []) i [] ≡ row = ap (λ j. get_or (rows ++ row ∷ []) j []) (at ∙ so_far.count) ∙ last_one rows row [] in
              subst (λ k. IsForwardRow m columns Sums k (row_at value (rows ++ row ∷ []) i)) (sym there)
              (subst (λ r. IsForwardRow m columns Sums n (entries_of value r)) (sym here)
              (is_forward_row m value columns table converts Sums within n rows p so_far.span cols so_far.list so_far.unbroken row (value scale)
              (used_at value numbers uses) made))
        ];
      }

      -- what is written beside it
      pub offered_made : IsMadeOf m columns course.work (suc n) (length rows) (row_at value rows) (entries_of value row) (entries_of value ((n, scale) ∷ []))
          (used_at value numbers uses)
      offered_made =
          let c = so_far.is_course in
          made_of m columns course.work value (course_work m value columns course so_far.is_course) n (length rows) (row_at value rows) p (entries_of value row)
          (used_at value numbers uses) scale accepted cols.words (c.writes n so_far.from few) made.sum

-- nothing is offered yet
pub offered_start : {E : Type 0} (m : ℕ) (value : E → ℕ) (columns : ColumnList) (course : Course) (n : ℕ) → n ≡ 0 → IsCourse m columns course → course.from ≡ 0
    → HasOffered m value columns course n [] []
offered_start m value columns course n e is from =
    let zero_offered : HasOffered m value columns course 0 [] [] = record {
      is_course = is;
      from = omega (arith, from);
      list = record { one = λ i l. absurd (omega (arith, l)); before = λ i j l h. absurd (omega (arith, l)); clear = λ i k l h. absurd (omega (arith, l)) };
      count = refl;
      unbroken = λ k l. absurd (omega (arith, l));
      span = span_none m value columns (course_table m value columns course is) (course_converts m value columns course is) course.work.sums
          (course_sums m value columns course is);
      accepted = λ k. (λ (i, l, at). absurd (omega (arith, l)), λ (is, low). absurd (omega (arith, low)));
      forward = λ i l. absurd (omega (arith, l));
    } in
    subst (λ x. HasOffered m value columns course x [] []) (sym e) zero_offered

-- the header stands there
pub at_start : {E : Type 0} (m : ℕ) (value : E → ℕ) (columns : ColumnList) (params : Params) (course : Course) (told : Option Trace)
    → IsBegun m columns params course → Holds course.pages 1 told → IsAt m value columns course 0 [] [] told
at_start m value columns params course told begun holds = record {
  offered = offered_start m value columns course (min (64 * 0) (count_of columns)) (omega arith) begun.is_course begun.from;
  holds = holds;
}
