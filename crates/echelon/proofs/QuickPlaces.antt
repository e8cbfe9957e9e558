-- Steps of `is_reduced_list`: rows that lead with 1 by rising leads, and that are zero at each other's leads.
use Rattle.std.proofs.Common.{◌≡◌, ◌≢◌, ℕ, zero, suc, ◌+◌, ◌-◌, ◌<◌, ◌⊎◌, List, [], ◌∷◌, length, get_or, cond, eqb, inl, inr, sym, ◌∙◌, ap, subst, arith}
use Rattle.std.proofs.lemmas.Bool.{cases_eq, cases_order, ne_eqb}
use Rattle.echelon.specs.Lists.{entries_of, lead_of, row_at, lead_at}
use Rattle.echelon.specs.Inner.{LeadsAt}

module _ {E : Type 0} (value : E → ℕ) (nil : E) (rows : List (List (ℕ × E))) where
  pub leads_rising : ((i : ℕ) → i < length rows → LeadsAt value nil rows i) → (i k : ℕ) → i < k → k < length rows → lead_at rows i < lead_at rows k
  leads_rising each i zero l h = absurd (omega arith)
  leads_rising each i (suc k) l h =
      let place : suc k - 1 ≡ k = omega arith in
      let step : lead_at rows k < lead_at rows (suc k) = subst (λ x. lead_at rows x < lead_at rows (suc k)) place ((each (suc k) h).rising (omega arith)) in
      elim (cases_eq i k) [
        | inl e ↦ subst (λ x. lead_at rows x < lead_at rows (suc k)) (sym e) step
        | inr ne ↦ omega (arith, leads_rising each i k (omega arith) (omega arith))
      ]

module _ {E : Type 0} (rows : List (List (ℕ × E))) where
  -- an entry at no lead is nothing at each lead
  pub none_behind : (value : E → ℕ) (all rest behind : List (ℕ × E)) (entry : ℕ × E) (k : ℕ) → rest ≡ entry ∷ behind → lead_at rows k ≢ entry.0
      → entries_of value all (lead_at rows k) ≡ entries_of value rest (lead_at rows k)
      → entries_of value all (lead_at rows k) ≡ entries_of value behind (lead_at rows k)
  none_behind value all rest behind entry k is apart kept =
      let other : entry.0 ≢ lead_at rows k = λ e. apart (sym e) in
      kept ∙ ap (λ es. entries_of value es (lead_at rows k)) is
      ∙ ap (λ b. cond b (value entry.1) 0 + entries_of value behind (lead_at rows k)) (ne_eqb entry.0 (lead_at rows k) other) ∙ omega arith

  -- a row whose entries behind its lead are at no lead is zero at the leads of the others
  pub clear_row : (rising : (i k : ℕ) → i < k → k < length rows → lead_at rows i < lead_at rows k) (value : E
      → ℕ) (i : ℕ) (first : ℕ × E) (behind : List (ℕ × E)) → i < length rows → get_or rows i [] ≡ first ∷ behind
      → ((k : ℕ) → k < length rows → entries_of value behind (lead_at rows k) ≡ 0) → (k : ℕ) → k < length rows → k ≢ i
      → row_at value rows i (lead_at rows k) ≡ 0
  clear_row rising value i first behind inside is none k h ne =
      let led : lead_at rows i ≡ first.0 = ap lead_of is in
      let apart : lead_at rows i ≢ lead_at rows k = elim (cases_order i k) [
        | inl e ↦ absurd (ne (sym e))
        | inr o ↦ elim o [
          | inl less ↦ let up : lead_at rows i < lead_at rows k = rising i k less h in omega (arith, up)
          | inr more ↦ let up : lead_at rows k < lead_at rows i = rising k i more inside in omega (arith, up)
        ]
      ] in
      let other : first.0 ≢ lead_at rows k = λ e. apart (led ∙ e) in
      ap (λ es. entries_of value es (lead_at rows k)) is
      ∙ ap (λ b. cond b (value first.1) 0 + entries_of value behind (lead_at rows k)) (ne_eqb first.0 (lead_at rows k) other) ∙ omega (arith, none k h)
