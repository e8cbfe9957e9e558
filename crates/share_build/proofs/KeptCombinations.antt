-- The rows kept with their combinations: one more is kept, and sums of them have the same sums of combinations.
use Rattle.std.specs.Prelude.{◌≡◌, ◌≢◌, ℕ, ◌+◌, ◌*◌, ◌%◌, ◌<◌, if◌then◌else◌, nat_eq, Some, List, [], ◌∷◌, ◌++◌, length, get_or, slice_get}
use Rattle.std.proofs.Common.{sym, ◌∙◌, ap, subst, inl, inr, arith}
use Rattle.std.proofs.lemmas.Bool.{cases_lt, ne_eqb}
use Rattle.std.proofs.lemmas.Option.{slice_get-get_or, slice_get_within, get_or_from_slice_get}
use Rattle.std.proofs.lemmas.List.{length-append, get_or_append_left, get_or-append-add}
use Rattle.zeta_model.specs.Modular.{Same}
use Rattle.zeta_model.proofs.ModularLemmas.{same-mul_left}
use Rattle.linear_model.specs.Rows.{combination, SameRow}
use Rattle.linear_model.proofs.Totals.{total_vanishes, same-total}
use Rattle.linear_model.proofs.Spans.{combination-combination, same-combination}
use Rattle.column_order.specs.Columns.{ColumnList}
use Rattle.echelon.specs.Lists.{entries_of, row_at}
use Rattle.echelon.specs.Offers.{IsCombined, IsValueOf}
use Rattle.table_model.specs.Conversion.{IsCols}
use Rattle.table_model.specs.ListedSpan.{values_of, count_of}
use Rattle.share_build.specs.Inner.{IsNoNumber, IsCombinedOf}

pub length-last : {A : Type 0} (xs : List A) (x : A) → length (xs ++ x ∷ []) ≡ length xs + 1
length-last xs x = length-append xs (x ∷ [])

-- one behind others is the last
pub last_one : {A : Type 0} (xs : List A) (x d : A) → get_or (xs ++ x ∷ []) (length xs) d ≡ x
last_one xs x d = ap (λ i. get_or (xs ++ x ∷ []) i d) (let z : length xs ≡ length xs + 0 = omega arith in z) ∙ get_or-append-add xs (x ∷ []) 0 d

-- what holds at each place of a list, and of one more element at its place, holds at each place of the two
pub each_grown : {A : Type 0} (xs : List A) (x d : A) (P : ℕ → A → Type 0) → ((k : ℕ) → k < length xs → P k (get_or xs k d)) → P (length xs) x
    → (i : ℕ) → i < length (xs ++ x ∷ []) → P i (get_or (xs ++ x ∷ []) i d)
each_grown xs x d P before last i l = elim (cases_lt i (length xs)) [
  | inl less ↦ subst (P i) (sym (get_or_append_left xs (x ∷ []) d i less)) (before i less)
  | inr late ↦
      let at : length xs ≡ i = omega (arith, l, late, length-last xs x) in
      subst (λ k. P k (get_or (xs ++ x ∷ []) k d)) at (subst (P (length xs)) (sym (last_one xs x d)) last)
]

-- the same of what stands at the places
pub each_pushed : {A : Type 0} (xs : List A) (x : A) (P : ℕ → A → Type 0) → ((k : ℕ) (e : A) → slice_get xs k ≡ Some e → P k e) → P (length xs) x
    → (k : ℕ) (e : A) → slice_get (xs ++ x ∷ []) k ≡ Some e → P k e
each_pushed xs x P before last k e at =
    subst (P k) (get_or_from_slice_get (xs ++ x ∷ []) k e x at)
    (each_grown xs x x P (λ k l. before k (get_or xs k x) (slice_get-get_or xs k x l)) last k (slice_get_within (xs ++ x ∷ []) k e at))

none_before : (numbers : List ℕ) (n q : ℕ) → IsNoNumber (numbers ++ n ∷ []) q → IsNoNumber numbers q
none_before numbers n q none i l e = none i (omega (arith, l, length-last numbers n)) (get_or_append_left numbers (n ∷ []) 0 i l ∙ e)

none_last : (numbers : List ℕ) (n q : ℕ) → IsNoNumber (numbers ++ n ∷ []) q → n ≢ q
none_last numbers n q none e = none (length numbers) (omega (arith, length-last numbers n)) (last_one numbers n 0 ∙ e)

module _ {E : Type 0} (m : ℕ) (value : E → ℕ) (columns : ColumnList) where
  -- with more numbers too
  pub combined_later : (numbers : List ℕ) (n : ℕ) (row combination : List (ℕ × E)) → IsCombinedOf m value columns numbers row combination
      → IsCombinedOf m value columns (numbers ++ n ∷ []) row combination
  combined_later numbers n row combination h = record { named = λ q none. h.named q (none_before numbers n q none); evaluates = h.evaluates }

  -- each of the rows is the value of its combination of these numbers
  abbrev pub AreCombinedOf : List ℕ → List (List (ℕ × E)) → List (List (ℕ × E)) → Type 0
  AreCombinedOf numbers rows combinations =
      (i : ℕ) → i < length rows → IsCombinedOf m value columns numbers (get_or rows i []) (get_or combinations i [])

  module _ (numbers : List ℕ) (rows combinations : List (List (ℕ × E))) (count : length combinations ≡ length rows)
      (each : AreCombinedOf numbers rows combinations) where
    -- a sum of the combinations has no other numbers
    none_of_sum : (factors : ℕ → ℕ) (q : ℕ) → IsNoNumber numbers q → Same m (combination (length combinations) (row_at value combinations) factors q) 0
    none_of_sum factors q none =
        total_vanishes m (length combinations) (λ i. factors i * row_at value combinations i q)
        (λ i l. let h = each i (omega (arith, l, count)) in
        same-mul_left m (row_at value combinations i q) 0 (factors i) (h.named q none) ∙ ap (λ x. x % m) (omega arith))

    -- the new row is the value of its combination, if only earlier ones are added to its own relation
    pub combined_new : (n scale : ℕ) (factors : ℕ → ℕ) (row new : List (ℕ × E)) → IsCombined m value combinations n scale factors new
        → ((relations : ℕ → ℕ → ℕ) → ((k : ℕ) → k < count_of columns → IsCols m columns (values_of m columns k) (relations k))
        → IsValueOf m value (count_of columns) relations new (entries_of value row))
        → IsCombinedOf m value columns (numbers ++ n ∷ []) row new
    combined_new n scale factors row new combined is = record {
      named = λ q none.
          let other : nat_eq n q ≡ _ = ne_eqb n q (none_last numbers n q none) in
          combined q
          ∙ ap (λ b. (scale * (if b then 1 else 0) + combination (length combinations) (row_at value combinations) factors q) % m) other
          ∙ ap (λ x. x % m) (let z : scale * 0 + combination (length combinations) (row_at value combinations) factors q
          ≡ combination (length combinations) (row_at value combinations) factors q = omega arith in z)
          ∙ none_of_sum factors q (none_before numbers n q none);
      evaluates = is;
    }

    -- a row that is a sum of rows is the value of the same sum of their combinations
    pub combined_sum : (factors : ℕ → ℕ) (row sum : List (ℕ × E)) → SameRow m (entries_of value row) (combination (length rows) (row_at value rows) factors)
        → SameRow m (entries_of value sum) (combination (length combinations) (row_at value combinations) factors)
        → IsCombinedOf m value columns numbers row sum
    combined_sum factors row sum row_is sum_is = record {
      named = λ q none. sum_is q ∙ none_of_sum factors q none;
      evaluates = λ relations are col.
          let k = length rows in
          let n = count_of columns in
          let values : ℕ → ℕ → ℕ = λ i. combination n relations (row_at value combinations i) in
          row_is col
          ∙ same-total m k (λ i. factors i * row_at value rows i col) (λ i. factors i * values i col)
          (λ i l. let h = each i l in same-mul_left m (row_at value rows i col) (values i col) (factors i) (h.evaluates relations are col))
          ∙ ap (λ x. x % m) (combination-combination k n factors (row_at value combinations) relations col)
          ∙ ap (λ x. combination n relations (combination x (row_at value combinations) factors) col % m) (sym count)
          ∙ same-combination m n relations (combination (length combinations) (row_at value combinations) factors) (entries_of value sum)
          (λ i l. sym (sum_is i)) col;
    }
