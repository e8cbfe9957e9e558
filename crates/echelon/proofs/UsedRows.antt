-- Steps of `used_row` and `reduced_rows`.
use Rattle.std.proofs.Common.{◌≡◌, ◌≢◌, ℕ, ◌+◌, ◌*◌, ◌%◌, ◌<◌, ◌≤◌, ◌⊎◌, List, [], ◌∷◌, ◌++◌, length, set, get_or, Bool, true, cond, eqb, inl, inr}
use Rattle.std.proofs.Common.{sym, ◌∙◌, ap, subst, arith, mod-eq_of_lt}
use Rattle.std.proofs.lemmas.Bool.{cases_eq, cases_lt, eq-eqb, ne_eqb}
use Rattle.std.proofs.lemmas.List.{get_or_append_left}
use Rattle.std.proofs.Math.Seq.{get_or-append_seam}
use Rattle.zeta_model.specs.Modular.{Same}
use Rattle.zeta_model.proofs.ModularLemmas.{same-add_left}
use Rattle.linear_model.specs.Rows.{combination}
use Rattle.linear_model.proofs.Spans.{same-combination}
use Rattle.sparse_rows.specs.Entries.{AllIn}
use Rattle.sparse_rows.proofs.EntryLemmas.{entry_of_below}
use Rattle.echelon.specs.Lists.{entries_of, lead_of, row_at, lead_at, AreForward}
use Rattle.echelon.specs.Inner.{numbers_of, IsSweptRow, IsUsedRow, IsUsed, IsReducing}
use Rattle.echelon.specs.Offers.{NamedBy, used_at}
use Rattle.echelon.proofs.SumLemmas.{numbers_of-set_same, numbers_of-set_other}
use Rattle.echelon.proofs.RowLemmas.{lead_of_is}
use Rattle.echelon.proofs.RowLists.{at_each, length-push}
use Rattle.linear_model.proofs.Combinations.{combination-add, combination_one}
use Rattle.linear_model.proofs.Reducing.{swept_one, swept_clear, swept_before}

-- the row at a place is added once more where its coefficient becomes 1
combination_with_one : (m n i : ℕ) (rows : ℕ → ℕ → ℕ) (c d : ℕ → ℕ) (col : ℕ) → i < n → c i ≡ 0 → d i ≡ 1 → ((k : ℕ) → k < n → k ≢ i → d k ≡ c k)
    → Same m (rows i col + combination n rows c col) (combination n rows d col)
combination_with_one m n i rows c d col inside none one other =
    ap (λ x. x % m) (let e : rows i col + combination n rows c col ≡ combination n rows c col + 1 * rows i col = omega arith in e)
    ∙ same-add_left m _ _ (combination n rows c col) (sym (combination_one m n i 1 rows col inside))
    ∙ ap (λ x. x % m) (sym (combination-add n rows c (λ k. 1 * cond (eqb i k) 1 0) col))
    ∙ same-combination m n rows (λ k. c k + 1 * cond (eqb i k) 1 0) d (λ k h. ap (λ x. x % m) (at k h (cases_eq k i))) col
  where
    at : (k : ℕ) → k < n → ((k ≡ i) ⊎ (k ≢ i)) → c k + 1 * cond (eqb i k) 1 0 ≡ d k
    at k h (inl e) = ap (λ b. c k + 1 * cond b 1 0) (eq-eqb i k (sym e)) ∙ omega (arith, ap c e, ap d e)
    at k h (inr ne) = let apart : i ≢ k = λ e. ne (sym e) in ap (λ b. c k + 1 * cond b 1 0) (ne_eqb i k apart) ∙ omega (arith, other k h ne)

module _ {E : Type 0} (m : ℕ) (has : E → Bool) (value : E → ℕ) (zero : E) (nonzero : (a : E) → has a ≡ true → a ≢ zero → value a ≢ 0) (value_below : (a : E)
    → has a ≡ true → value a < m) (from : 3 ≤ m)
    (columns : ℕ) (numbers : List ℕ) (rows : List (List (ℕ × E))) (forward : AreForward m value rows) where
  pub used_row_of : (i : ℕ) (row uses : List (ℕ × E)) (factors changed : List E) (one : E) → i < length rows → length numbers ≡ length rows
      → IsSweptRow m has value zero columns rows (i + 1) (row_at value rows i) row factors
      → changed ≡ set factors i one → value one ≡ 1 → ((k : ℕ) → k < length numbers → used_at value numbers uses k ≡ numbers_of value changed k)
      → NamedBy value numbers uses → AllIn has uses
      → IsUsedRow m has value zero columns numbers rows i row uses
  used_row_of i row uses factors changed one inside same_count swept is value_one at named in_ring = record {
    fits = record { some = led.0; is_row = swept.is_row; below = swept.below; in_ring = swept.in_ring };
    leads = led.1;
    one = ap (λ q. entries_of value row q % m) led.1 ∙ at_lead;
    clear = λ k h ne. swept_clear m (length rows) (lead_at rows) (row_at value rows) pos forward i inside (numbers_of value factors)
        (entries_of value row) none swept.swept k h ne;
    sum = λ col. swept.swept.is col
        ∙ combination_with_one m (length rows) i (row_at value rows) (numbers_of value factors) (used_at value numbers uses) col inside
        (none i (omega arith)) here other;
    named = named;
    in_ring = in_ring;
  }
    where
      pos : 0 < m
      pos = omega arith

      none : (k : ℕ) → k < i + 1 → numbers_of value factors k ≡ 0
      none = swept.none

      here : used_at value numbers uses i ≡ 1
      here = at i (omega arith) ∙ ap (λ xs. numbers_of value xs i) is ∙ numbers_of-set_same value factors i one (omega (arith, swept.count)) ∙ value_one

      other : (k : ℕ) → k < length rows → k ≢ i → used_at value numbers uses k ≡ numbers_of value factors k
      other k h ne = at k (omega arith) ∙ ap (λ xs. numbers_of value xs k) is ∙ numbers_of-set_other value factors i k one ne

      at_lead : Same m (entries_of value row (lead_at rows i)) 1
      at_lead = swept_one m (length rows) (lead_at rows) (row_at value rows) pos forward i inside (numbers_of value factors)
          (entries_of value row) none swept.swept

      residue : (q : ℕ) → entries_of value row q % m ≡ entries_of value row q
      residue q = mod-eq_of_lt (entry_of_below (λ k. k) zero has value m 0 q row pos value_below swept.is_row swept.in_ring)

      led : (0 < length row) × (lead_of row ≡ lead_at rows i)
      led = lead_of_is has value zero nonzero row (lead_at rows i) swept.is_row swept.in_ring
          (λ q l. sym (residue q) ∙ swept_before m (length rows) (lead_at rows) (row_at value rows) pos forward i inside (numbers_of value factors)
          (entries_of value row) none swept.swept q l ∙ mod-eq_of_lt pos)
          (λ e. let a : 1 % m ≡ 1 = mod-eq_of_lt (omega arith) in let b : 0 % m ≡ 0 = mod-eq_of_lt pos in
          let t : 0 % m ≡ 1 % m = ap (λ x. x % m) (sym e) ∙ at_lead in absurd (omega arith))

module _ {E : Type 0} (m : ℕ) (has : E → Bool) (value : E → ℕ) (zero : E) (columns : ℕ) (numbers : List ℕ) (rows : List (List (ℕ × E))) where
  pub reducing_none : (reduced uses : List (List (ℕ × E))) → reduced ≡ [] → uses ≡ [] → IsReducing m has value zero columns numbers rows 0 reduced uses
  reducing_none reduced uses no_rows no_uses =
      let empty : length reduced ≡ 0 = ap length no_rows in
      record {
        count = ap length no_uses ∙ sym empty;
        made = λ j h. absurd (omega arith);
        rising = λ j k l h. absurd (omega arith);
        below = λ j h. absurd (omega arith);
        complete = λ i h l. absurd (omega arith);
      }

  module _ (column : ℕ) (reduced uses : List (List (ℕ × E))) (kept : IsReducing m has value zero columns numbers rows column reduced uses) where
    -- no row leads at the column
    pub reducing_skip : ((i : ℕ) → i < length rows → lead_at rows i ≢ column) → IsReducing m has value zero columns numbers rows (column + 1) reduced uses
    reducing_skip nowhere = record {
      count = kept.count;
      made = kept.made;
      rising = kept.rising;
      below = λ j h. omega (arith, kept.below j h);
      complete = λ i h l. let apart : lead_at rows i ≢ column = nowhere i h in kept.complete i h (omega arith);
    }

    -- row i leads there
    pub reducing_more : (i : ℕ) (row used_with : List (ℕ × E)) (new_rows new_uses : List (List (ℕ × E))) → i < length rows → lead_at rows i ≡ column
        → IsUsedRow m has value zero columns numbers rows i row used_with
        → new_rows ≡ reduced ++ row ∷ [] → new_uses ≡ uses ++ used_with ∷ []
        → IsReducing m has value zero columns numbers rows (column + 1) new_rows new_uses
    reducing_more i row used_with new_rows new_uses inside leads used rows_are uses_are =
        subst (λ rs. IsReducing m has value zero columns numbers rows (column + 1) rs new_uses) (sym rows_are)
        (subst (IsReducing m has value zero columns numbers rows (column + 1) (reduced ++ row ∷ [])) (sym uses_are) more)
      where
        led : lead_of row ≡ column
        led = used.leads ∙ leads

        before : (j : ℕ) → j < length reduced → lead_at (reduced ++ row ∷ []) j ≡ lead_at reduced j
        before j h = ap lead_of (get_or_append_left reduced (row ∷ []) [] j h)

        last : lead_at (reduced ++ row ∷ []) (length reduced) ≡ column
        last = ap lead_of (get_or-append_seam reduced row [] []) ∙ led

        made_at : (j : ℕ) → j < length reduced + 1 → ((j < length reduced) ⊎ (length reduced ≤ j))
            → IsUsed m has value zero columns numbers rows (get_or (reduced ++ row ∷ []) j []) (get_or (uses ++ used_with ∷ []) j [])
        made_at j h (inl early) =
            let early_use : j < length uses = omega (arith, kept.count) in
            subst (λ r. IsUsed m has value zero columns numbers rows r (get_or (uses ++ used_with ∷ []) j []))
            (sym (get_or_append_left reduced (row ∷ []) [] j early))
            (subst (IsUsed m has value zero columns numbers rows (get_or reduced j [])) (sym (get_or_append_left uses (used_with ∷ []) [] j early_use))
            (kept.made j early))
        made_at j h (inr late) =
            let at : length reduced ≡ j = omega arith in
            let at_use : length uses ≡ j = omega (arith, kept.count) in
            let row_is : get_or (reduced ++ row ∷ []) j [] ≡ row =
            ap (λ k. get_or (reduced ++ row ∷ []) k []) (sym at) ∙ get_or-append_seam reduced row [] [] in
            let use_is : get_or (uses ++ used_with ∷ []) j [] ≡ used_with =
            ap (λ k. get_or (uses ++ used_with ∷ []) k []) (sym at_use) ∙ get_or-append_seam uses used_with [] [] in
            subst (λ r. IsUsed m has value zero columns numbers rows r (get_or (uses ++ used_with ∷ []) j [])) (sym row_is)
            (subst (IsUsed m has value zero columns numbers rows row) (sym use_is) (record { place = i; inside = inside; used = used }))

        found : (l : ℕ) → l < length rows → ((lead_at rows l ≡ column) ⊎ (lead_at rows l ≢ column)) → lead_at rows l < column + 1
            → (j : ℕ) × (j < length (reduced ++ row ∷ [])) × (lead_at (reduced ++ row ∷ []) j ≡ lead_at rows l)
        found l h (inl e) s = (length reduced, omega (arith, length-push reduced row), last ∙ sym e)
        found l h (inr ne) s = let (j, t, same) = kept.complete l h (omega arith) in (j, omega (arith, length-push reduced row), before j t ∙ same)

        more : IsReducing m has value zero columns numbers rows (column + 1) (reduced ++ row ∷ []) (uses ++ used_with ∷ [])
        more = record {
          count = omega (arith, length-push reduced row, length-push uses used_with, kept.count);
          made = λ j h. made_at j (omega (arith, length-push reduced row)) (cases_lt j (length reduced));
          rising = λ j k l h.
              let inside_j : j < length reduced = omega (arith, length-push reduced row) in
              subst (λ x. x < lead_at (reduced ++ row ∷ []) k) (sym (before j inside_j))
              (at_each reduced row [] (λ k es. j < k
              → lead_at reduced j < lead_of es) (λ k t s. kept.rising j k s t) (λ s. omega (arith, kept.below j inside_j, led)) k h l);
          below = at_each reduced row [] (λ j es. lead_of es < column + 1) (λ j h. omega (arith, kept.below j h)) (omega (arith, led));
          complete = λ l h s. found l h (cases_eq (lead_at rows l) column) s;
        }
