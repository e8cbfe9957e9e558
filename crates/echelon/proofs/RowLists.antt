-- A list of rows with one row more.
use Rattle.std.proofs.Common.{◌≡◌, ℕ, ◌+◌, ◌%◌, ◌<◌, ◌≤◌, ◌⊎◌, List, [], ◌∷◌, ◌++◌, length, get_or, Bool, inl, inr, sym, ap, subst, arith}
use Rattle.std.proofs.lemmas.Bool.{cases_lt}
use Rattle.std.proofs.lemmas.List.{get_or_append_left, length-append}
use Rattle.std.proofs.Math.Seq.{get_or-append_seam}
use Rattle.zeta_model.specs.Modular.{Same}
use Rattle.echelon.specs.Lists.{entries_of, lead_of, row_at, lead_at, FitsColumns, AreForward}
use Rattle.echelon.specs.States.{IsElimination}
use Rattle.echelon.proofs.RowLemmas.{entries_of_before_lead}

pub length-push : {A : Type 0} (xs : List A) (x : A) → length (xs ++ x ∷ []) ≡ length xs + 1
length-push xs x = length-append xs (x ∷ [])

module _ {A : Type 0} (xs : List A) (x d : A) (P : ℕ → A → Type 0) where
  at_place : (i : ℕ) → i < length xs + 1 → ((i < length xs) ⊎ (length xs ≤ i)) → ((k : ℕ) → k < length xs → P k (get_or xs k d)) → P (length xs) x
      → P i (get_or (xs ++ x ∷ []) i d)
  at_place i l (inl less) before last = subst (P i) (sym (get_or_append_left xs (x ∷ []) d i less)) (before i less)
  at_place i l (inr late) before last =
      let same : length xs ≡ i = omega arith in
      subst (λ k. P k (get_or (xs ++ x ∷ []) k d)) same (subst (P (length xs)) (sym (get_or-append_seam xs x [] d)) last)

  -- what holds at each place of a list, and of one more element at its place, holds at each place of the two
  pub at_each : ((k : ℕ) → k < length xs → P k (get_or xs k d)) → P (length xs) x → (i : ℕ) → i < length (xs ++ x ∷ []) → P i (get_or (xs ++ x ∷ []) i d)
  at_each before last i l = at_place i (omega (arith, length-push xs x)) (cases_lt i (length xs)) before last

module _ {E : Type 0} (m : ℕ) (has : E → Bool) (value : E → ℕ) (zero : E) where
  -- a row that is zero at the leads of a forward list and leads with 1 may be put behind it
  pub AreForward-push : (columns : ℕ) (rows : List (List (ℕ × E))) (row : List (ℕ × E)) → AreForward m value rows → FitsColumns has zero columns row
      → Same m (entries_of value row (lead_of row)) 1
      → ((k : ℕ) → k < length rows → Same m (entries_of value row (lead_at rows k)) 0) → AreForward m value (rows ++ row ∷ [])
  AreForward-push columns rows row forward fits one clear = record {
    one = at_each rows row [] (λ i es. Same m (entries_of value es (lead_of es)) 1) (λ i l. forward.one i l) one;
    before = λ i j l. at_each rows row [] (λ i es. j < lead_of es
        → Same m (entries_of value es j) 0) (λ k h. forward.before k j h)
        (λ h. ap (λ x. x % m) (entries_of_before_lead value zero j row fits.is_row h)) i l;
    clear = λ i k l h.
        let inside : k < length rows = omega (arith, length-push rows row) in
        let lead : lead_at (rows ++ row ∷ []) k ≡ lead_at rows k = ap lead_of (get_or_append_left rows (row ∷ []) [] k inside) in
        subst (λ col. Same m (row_at value (rows ++ row ∷ []) i col) 0) (sym lead)
        (at_each rows row [] (λ i es. k < i
        → Same m (entries_of value es (lead_at rows k)) 0) (λ i t s. forward.clear i k t s) (λ s. clear k inside) i l h);
  }

  pub IsElimination-push : (columns above n : ℕ) (numbers : List ℕ) (rows : List (List (ℕ × E))) (row : List (ℕ × E))
      → IsElimination m has value zero columns above numbers rows
      → above ≤ n → FitsColumns has zero columns row → Same m (entries_of value row (lead_of row)) 1
      → ((k : ℕ) → k < length rows → Same m (entries_of value row (lead_at rows k)) 0)
      → IsElimination m has value zero columns (n + 1) (numbers ++ n ∷ []) (rows ++ row ∷ [])
  IsElimination-push columns above n numbers rows row kept h fits one clear = record {
    few = kept.few;
    fit = at_each rows row [] (λ i es. FitsColumns has zero columns es) kept.fit fits;
    forward = AreForward-push columns rows row kept.forward fits one clear;
    count = omega (arith, length-push numbers n, length-push rows row, kept.count);
    rising = λ i k l s.
        let inside : i < length numbers = omega (arith, length-push numbers n) in
        subst (λ x. x < get_or (numbers ++ n ∷ []) k 0) (sym (get_or_append_left numbers (n ∷ []) 0 i inside))
        (at_each numbers n 0 (λ k x. i < k → get_or numbers i 0 < x) (λ k t s. kept.rising i k s t) (λ s. omega (arith, kept.below i inside)) k s l);
    below = at_each numbers n 0 (λ i x. x < n + 1) (λ i l. omega (arith, kept.below i l)) (omega arith);
  }

  -- a greater bound on the numbers serves too
  pub IsElimination-above : (columns above n : ℕ) (numbers : List ℕ) (rows : List (List (ℕ × E)))
      → IsElimination m has value zero columns above numbers rows
      → above ≤ n → IsElimination m has value zero columns n numbers rows
  IsElimination-above columns above n numbers rows kept h = record {
    few = kept.few;
    fit = kept.fit;
    forward = kept.forward;
    count = kept.count;
    rising = kept.rising;
    below = λ i l. omega (arith, kept.below i l);
  }
