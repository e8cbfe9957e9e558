-- The forward rows of a block, made of the rows before them, with one more.
use Rattle.std.specs.Prelude.{◌≡◌, ℕ, zero, suc, ◌+◌, ◌*◌, ◌%◌, ◌<◌, ◌≤◌, Bool, List, [], ◌∷◌, ◌++◌, length, get_or}
use Rattle.std.proofs.Common.{refl, sym, ◌∙◌, ap, subst, inl, inr, arith}
use Rattle.std.proofs.lemmas.Bool.{cases_lt}
use Rattle.std.proofs.lemmas.List.{get_or_append_left}
use Rattle.linear_model.specs.Rows.{combination}
use Rattle.column_order.specs.Columns.{ColumnList}
use Rattle.sparse_rows.specs.Entries.{AllIn}
use Rattle.echelon.specs.Lists.{entries_of, row_at}
use Rattle.echelon.specs.Offers.{used_at}
use Rattle.file_model.specs.Pages.{Work, IsRecorded}
use Rattle.table_build.specs.Inner.{IsMadeOf, AreFresh, AreSums, AreRows}
use Rattle.file_model.proofs.Recorded.{recorded_same}
use Rattle.table_build.proofs.GrownLists.{last_one, length-last}

-- made of the same rows, as often
pub made_same : (m : ℕ) (columns : ColumnList) (work : Work) (n k count many : ℕ) (rows others : ℕ → ℕ → ℕ) (row start uses used : ℕ → ℕ) → n ≡ k
    → count ≡ many → ((i : ℕ) → i < count → rows i ≡ others i) → ((i : ℕ) → i < count → uses i ≡ used i)
    → IsMadeOf m columns work n count rows row start uses → IsMadeOf m columns work k many others row start used
made_same m columns work n k count many rows others row start uses used en ec er eu made g each =
    subst (λ x. IsRecorded m columns work x row (λ q. start q + combination many g used q)) en
    (recorded_same m columns work n row row (λ q. start q + combination count g uses q) (λ q. start q + combination many g used q) (λ q. refl)
    (λ q. again q)
    (made g (λ i l. subst (λ x. IsRecorded m columns work x (rows i) (g i)) (sym en)
    (subst (λ r. IsRecorded m columns work k r (g i)) (sym (er i l)) (each i (omega (arith, l, ec)))))))
  where
    sums : (q many : ℕ) → many ≤ count → combination many g uses q ≡ combination many g used q
    sums q zero l = refl
    sums q (suc j) l = (λ z. sums q j (omega (arith, l)) z + eu j (omega (arith, l)) z * g j q)

    again : (q : ℕ) → (start q + combination count g uses q) % m ≡ (start q + combination many g used q) % m
    again q = ap (λ x. (start q + x) % m) (sums q count (omega arith) ∙ ap (λ c. combination c g used q) ec)

module _ {E : Type 0} (m : ℕ) (value : E → ℕ) (columns : ColumnList) (work : Work) (first : ℕ) (numbers : List ℕ) (rows : List (List (ℕ × E)))
    (uses starts : List (List (ℕ × E)))
    (count : length numbers ≡ length rows) (uses_count : first + length uses ≡ length numbers) (starts_count : length starts ≡ length uses) where
  pub fresh_more : (n : ℕ) (row used start : List (ℕ × E)) → AreFresh m value columns work first numbers rows uses starts
      → IsMadeOf m columns work (suc n) (length rows) (row_at value rows) (entries_of value row) (entries_of value start) (used_at value numbers used)
      → AreFresh m value columns work first (numbers ++ n ∷ []) (rows ++ row ∷ []) (uses ++ used ∷ []) (starts ++ start ∷ [])
  fresh_more n row used start fresh made j l = elim (cases_lt j (length uses)) [
    | inl front ↦ earlier front
    | inr behind ↦ last (omega (arith, l, behind, length-last uses used))
  ]
    where
      Numbers : List ℕ
      Numbers = numbers ++ n ∷ []

      Rows : List (List (ℕ × E))
      Rows = rows ++ row ∷ []

      earlier_number : (i : ℕ) → i < length numbers → get_or numbers i 0 ≡ get_or (numbers ++ n ∷ []) i 0
      earlier_number i li = sym (get_or_append_left numbers (n ∷ []) 0 i li)

      earlier_row : (i : ℕ) → i < length rows → row_at value rows i ≡ row_at value (rows ++ row ∷ []) i
      earlier_row i li = ap (entries_of value) (sym (get_or_append_left rows (row ∷ []) [] i li))

      earlier : j < length uses → IsMadeOf m columns work (suc (get_or (numbers ++ n ∷ []) (first + j) 0)) (first + j) (row_at value (rows ++ row ∷ []))
          (row_at value (rows ++ row ∷ []) (first + j)) (row_at value (starts ++ start ∷ []) j)
          (used_at value (numbers ++ n ∷ []) (get_or (uses ++ used ∷ []) j []))
      earlier front =
          subst (λ r. IsMadeOf m columns work (suc (get_or (numbers ++ n ∷ []) (first + j) 0)) (first + j) (row_at value (rows ++ row ∷ [])) r
          (row_at value (starts ++ start ∷ []) j) (used_at value (numbers ++ n ∷ []) (get_or (uses ++ used ∷ []) j [])))
          (earlier_row (first + j) (omega (arith, front, uses_count, count)))
          (subst (λ s. IsMadeOf m columns work (suc (get_or (numbers ++ n ∷ []) (first + j) 0)) (first + j) (row_at value (rows ++ row ∷ []))
          (row_at value rows (first + j)) (entries_of value s) (used_at value (numbers ++ n ∷ []) (get_or (uses ++ used ∷ []) j [])))
          (sym (get_or_append_left starts (start ∷ []) [] j (omega (arith, front, starts_count))))
          (subst (λ u. IsMadeOf m columns work (suc (get_or (numbers ++ n ∷ []) (first + j) 0)) (first + j) (row_at value (rows ++ row ∷ []))
          (row_at value rows (first + j)) (row_at value starts j) (used_at value (numbers ++ n ∷ []) u)) (sym (get_or_append_left uses (used ∷ []) [] j front))
          (made_same m columns work (suc (get_or numbers (first + j) 0)) (suc (get_or (numbers ++ n ∷ []) (first + j) 0)) (first + j) (first + j)
          (row_at value rows)
          (row_at value (rows ++ row ∷ [])) (row_at value rows (first + j)) (row_at value starts j) (used_at value numbers (get_or uses j []))
          (used_at value (numbers ++ n ∷ []) (get_or uses j [])) (ap suc (earlier_number (first + j) (omega (arith, front, uses_count)))) refl
          (λ i li. earlier_row i (omega (arith, li, front, uses_count, count)))
          (λ i li. ap (entries_of value (get_or uses j [])) (earlier_number i (omega (arith, li, front, uses_count)))) (fresh j front))))

      last : j ≡ length uses → IsMadeOf m columns work (suc (get_or (numbers ++ n ∷ []) (first + j) 0)) (first + j) (row_at value (rows ++ row ∷ []))
          (row_at value (rows ++ row ∷ []) (first + j)) (row_at value (starts ++ start ∷ []) j)
          (used_at value (numbers ++ n ∷ []) (get_or (uses ++ used ∷ []) j []))
      last at =
          let place : first + j ≡ length numbers = omega (arith, at, uses_count) in
          let at_rows : first + j ≡ length rows = omega (arith, place, count) in
          let number : get_or (numbers ++ n ∷ []) (first + j) 0 ≡ n = ap (λ i. get_or (numbers ++ n ∷ []) i 0) place ∙ last_one numbers n 0 in
          let its_row : get_or (rows ++ row ∷ []) (first + j) [] ≡ row = ap (λ i. get_or (rows ++ row ∷ []) i []) at_rows ∙ last_one rows row [] in
          let its_start : get_or (starts ++ start ∷ []) j [] ≡ start =
          ap (λ i. get_or (starts ++ start ∷ []) i []) (at ∙ sym starts_count) ∙ last_one starts start [] in
          let its_use : get_or (uses ++ used ∷ []) j [] ≡ used = ap (λ i. get_or (uses ++ used ∷ []) i []) at ∙ last_one uses used [] in
          subst (λ r. IsMadeOf m columns work (suc (get_or (numbers ++ n ∷ []) (first + j) 0)) (first + j) (row_at value (rows ++ row ∷ []))
          (entries_of value r)
          (row_at value (starts ++ start ∷ []) j) (used_at value (numbers ++ n ∷ []) (get_or (uses ++ used ∷ []) j []))) (sym its_row)
          (subst (λ s. IsMadeOf m columns work (suc (get_or (numbers ++ n ∷ []) (first + j) 0)) (first + j) (row_at value (rows ++ row ∷ []))
          (entries_of value row)
          (entries_of value s) (used_at value (numbers ++ n ∷ []) (get_or (uses ++ used ∷ []) j []))) (sym its_start)
          (subst (λ u. IsMadeOf m columns work (suc (get_or (numbers ++ n ∷ []) (first + j) 0)) (first + j) (row_at value (rows ++ row ∷ []))
          (entries_of value row)
          (entries_of value start) (used_at value (numbers ++ n ∷ []) u)) (sym its_use)
          (made_same m columns work (suc n) (suc (get_or (numbers ++ n ∷ []) (first + j) 0)) (length rows) (first + j) (row_at value rows)
          (row_at value (rows ++ row ∷ [])) (entries_of value row) (entries_of value start) (used_at value numbers used)
          (used_at value (numbers ++ n ∷ []) used) (ap suc (sym number)) (sym at_rows)
          (λ i li. earlier_row i li)
          (λ i li. ap (entries_of value used) (earlier_number i (omega (arith, li, count)))) made)))

-- the list of a block, with one more behind
pub sums_more : {E : Type 0} (has : E → Bool) (numbers : List ℕ) (n : ℕ) (uses starts : List (List (ℕ × E))) (used start : List (ℕ × E))
    → AreSums has (length numbers) uses starts → AllIn has used → AllIn has start
    → AreSums has (length (numbers ++ n ∷ [])) (uses ++ used ∷ []) (starts ++ start ∷ [])
sums_more {E = E} has numbers n uses starts used start are in_use in_start = record {
  uses_count = omega (arith, length-last numbers n, length-last uses used, are.uses_count);
  starts_count = omega (arith, length-last numbers n, length-last starts start, are.starts_count);
  uses_in_ring = λ i l. all_more uses used in_use (λ k lk. are.uses_in_ring k (omega (arith, lk, are.uses_count))) i
      (omega (arith, l, length-last numbers n, length-last uses used, are.uses_count));
  starts_in_ring = λ i l. all_more starts start in_start (λ k lk. are.starts_in_ring k (omega (arith, lk, are.starts_count))) i
      (omega (arith, l, length-last numbers n, length-last starts start, are.starts_count));
}
  where
    all_more : (xs : List (List (ℕ × E))) (x : List (ℕ × E)) → AllIn has x → ((k : ℕ) → k < length xs → AllIn has (get_or xs k [])) → (i : ℕ)
        → i < length (xs ++ x ∷ []) → AllIn has (get_or (xs ++ x ∷ []) i [])
    all_more xs x in_x each i l = elim (cases_lt i (length xs)) [
      | inl front ↦ subst (AllIn has) (sym (get_or_append_left xs (x ∷ []) [] i front)) (each i front)
      | inr behind ↦
          let at : i ≡ length xs = omega (arith, l, behind, length-last xs x) in
          subst (AllIn has) (sym (ap (λ k. get_or (xs ++ x ∷ []) k []) at ∙ last_one xs x [])) in_x
    ]

pub rows_more : {E : Type 0} (has : E → Bool) (n : ℕ) (numbers : List ℕ) (rows : List (List (ℕ × E))) (row : List (ℕ × E)) → AreRows has n numbers rows
    → AllIn has row → AreRows has (suc n) (numbers ++ n ∷ []) (rows ++ row ∷ [])
rows_more has n numbers rows row are in_row = record {
  count = omega (arith, length-last numbers n, length-last rows row, are.count);
  in_ring = λ i l. elim (cases_lt i (length rows)) [
    | inl front ↦ subst (AllIn has) (sym (get_or_append_left rows (row ∷ []) [] i front)) (are.in_ring i front)
    | inr behind ↦
        let at : i ≡ length rows = omega (arith, l, behind, length-last rows row) in
        subst (AllIn has) (sym (ap (λ k. get_or (rows ++ row ∷ []) k []) at ∙ last_one rows row [])) in_row
  ];
  rising = λ i k lik lk. elim (cases_lt k (length numbers)) [
    | inl front ↦ omega (
      arith,
      are.rising i k lik front,
      get_or_append_left numbers (n ∷ []) 0 i (omega (arith, lik, front)),
      get_or_append_left numbers (n ∷ []) 0 k front,
    )
    | inr behind ↦
        let at : k ≡ length numbers = omega (arith, lk, behind, length-last numbers n) in
        let here : get_or (numbers ++ n ∷ []) k 0 ≡ n = ap (λ j. get_or (numbers ++ n ∷ []) j 0) at ∙ last_one numbers n 0 in
        let low : i < length numbers = omega (arith, lik, at) in
        omega (arith, here, get_or_append_left numbers (n ∷ []) 0 i low, are.below i low)
  ];
  below = λ i l. elim (cases_lt i (length numbers)) [
    | inl front ↦ omega (arith, get_or_append_left numbers (n ∷ []) 0 i front, are.below i front)
    | inr behind ↦
        let at : i ≡ length numbers = omega (arith, l, behind, length-last numbers n) in
        let here : get_or (numbers ++ n ∷ []) i 0 ≡ n = ap (λ j. get_or (numbers ++ n ∷ []) j 0) at ∙ last_one numbers n 0 in
        omega (arith, here)
  ];
}

-- the rows kept so far are rows with a greater bound
pub rows_above : {E : Type 0} (has : E → Bool) (n k : ℕ) (numbers : List ℕ) (rows : List (List (ℕ × E))) → n ≤ k → AreRows has n numbers rows
    → AreRows has k numbers rows
rows_above has n k numbers rows l are = record {
  count = are.count;
  in_ring = are.in_ring;
  rising = are.rising;
  below = λ i li. omega
      (arith, are.below i li, l);
}
