-- Where rows are not reduced as lists of pairs, and where as functions of the columns.
use Rattle.std.proofs.Common.{◌≡◌, ◌≢◌, ℕ, suc, ◌-◌, ◌%◌, ◌<◌, ◌≤◌, ◌⊎◌, inl, inr, Bool, true, List, [], ◌∷◌, length, get_or, sym, ◌∙◌, ap, arith, mod-eq_of_lt}
use Rattle.std.proofs.lemmas.Bool.{cases_eq, cases_lt}
use Rattle.zeta_model.specs.Modular.{Same}
use Rattle.sparse_rows.specs.Entries.{IsRow}
use Rattle.sparse_rows.proofs.EntryLemmas.{entry_of_before}
use Rattle.echelon.specs.Lists.{entries_of, lead_of, lead_at, row_at}
use Rattle.echelon.specs.Finishes.{IsNotReducedAt}
use Rattle.table_model.specs.Faults.{IsReducedAt}
use Rattle.cert_checker.specs.Verdicts.{AreWithin}
use Rattle.share_check.proofs.RowsLeft.{entry-below}

module _ {E : Type 0} (value : E → ℕ) (m : ℕ) (has : E → Bool) (nought : E) (big : 1 < m) (has_nought : has nought ≡ true) (value_nought : value nought ≡ 0)
    (small : (a : E) → has a ≡ true → value a < m) (injective : (a b : E) → has a ≡ true → has b ≡ true → value a ≡ value b → a ≡ b)
    (high : ℕ) (rows : List (List (ℕ × E))) (within : AreWithin nought has high rows) where
  below_m : (k q : ℕ) → k < length rows → row_at value rows k q < m
  below_m k q l =
      entry-below value m has nought (omega arith) has_nought value_nought small injective (get_or rows k []) q (within.is_row k l) (within.in_ring k l)

  own : (k q : ℕ) → k < length rows → row_at value rows k q % m ≡ row_at value rows k q
  own k q l = mod-eq_of_lt (below_m k q l)

  -- before its lead a row has nothing
  before-lead : (row : List (ℕ × E)) → IsRow (λ k. k) nought 0 row → (j : ℕ) → j < lead_of row → entries_of value row j ≡ 0
  before-lead [] r j l = absurd (omega arith)
  before-lead (e ∷ es) r j l = entry_of_before (λ k. k) nought value e.0 j (e ∷ es) (omega arith, r.1, r.2) l

  pub reduced-at : (i : ℕ) → i < length rows → ¬ (IsNotReducedAt value rows i) → IsReducedAt m (length rows) (lead_at rows) (row_at value rows) i
  reduced-at i l fits = record {
    one = one (cases_eq (row_at value rows i (lead_at rows i)) 1);
    before = λ j lj. ap (λ x. x % m) (before-lead (get_or rows i []) (within.is_row i l) j lj);
    rises = λ k e. rises k e (cases_lt (lead_at rows k) (lead_at rows i));
    clear = λ k lk other. clear k lk other (cases_eq (row_at value rows k (lead_at rows i)) 0);
  }
    where
      one : ((row_at value rows i (lead_at rows i) ≡ 1) ⊎ (row_at value rows i (lead_at rows i) ≢ 1)) → Same m (row_at value rows i (lead_at rows i)) 1
      one (inl e) = ap (λ x. x % m) e
      one (inr ne) = absurd (fits (inr (inl ne)))

      rises : (k : ℕ) → suc k ≡ i → (lead_at rows k < lead_at rows i) ⊎ (lead_at rows i ≤ lead_at rows k) → lead_at rows k < lead_at rows i
      rises k e (inl less) = less
      rises k e (inr late) =
          let place : k ≡ i - 1 = omega arith in
          absurd (fits (inr (inr (inl (omega arith, omega (arith, late, ap (lead_at rows) place))))))

      clear : (k : ℕ) → k < length rows → ¬ (k ≡ i) → ((row_at value rows k (lead_at rows i) ≡ 0) ⊎ (row_at value rows k (lead_at rows i) ≢ 0))
          → Same m (row_at value rows k (lead_at rows i)) 0
      clear k lk other (inl e) = ap (λ x. x % m) e
      clear k lk other (inr ne) = absurd (fits (inr (inr (inr (k, lk, other, ne)))))

  pub not-reduced-at : (i : ℕ) → i < length rows → IsNotReducedAt value rows i → ¬ (IsReducedAt m (length rows) (lead_at rows) (row_at value rows) i)
  not-reduced-at i l (inl empty) r =
      let none : row_at value rows i (lead_at rows i) ≡ 0 = ap (λ row. entries_of value row (lead_at rows i)) empty in
      let one : row_at value rows i (lead_at rows i) ≡ 1 = sym (own i (lead_at rows i) l) ∙ r.one ∙ mod-eq_of_lt big in
      omega arith
  not-reduced-at i l (inr (inl other)) r = other (sym (own i (lead_at rows i) l) ∙ r.one ∙ mod-eq_of_lt big)
  not-reduced-at i l (inr (inr (inl late))) r =
      let rise : lead_at rows (i - 1) < lead_at rows i = r.rises (i - 1) (omega (arith, late.0)) in
      omega (arith, late.1)
  not-reduced-at i l (inr (inr (inr (k, lk, other, some)))) r =
      some (sym (own k (lead_at rows i) lk) ∙ r.clear k lk other ∙ mod-eq_of_lt (omega arith))
