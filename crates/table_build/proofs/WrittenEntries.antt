-- What is written of a row: one pair after the other, and as the pairs of a page.
use Rattle.std.specs.Prelude.{◌↔◌}
use Rattle.std.proofs.Common.{◌≡◌, ◌≢◌, ℕ, ◌<◌, Bool, true, List, [], ◌∷◌, refl, sym, ◌∙◌, ap, subst, mod-eq_of_lt}
use Rattle.std.specs.List.{AllByRecursion}
use Rattle.std.proofs.lemmas.List.Elements.{recursion_from_All}
use Rattle.sparse_rows.specs.Entries.{IsRow, IsBelow, AllIn}
use Rattle.page_codec.specs.Places.{AreBelow}
use Rattle.sparse_rows.proofs.EntryLemmas.{entry_of_below}
use Rattle.echelon.specs.Lists.{entries_of, lead_of}
use Rattle.page_rows.specs.Written.{written}
use Rattle.page_rows.proofs.Writing.{entry_of-written, residues-written}
use Rattle.file_model.specs.Pages.{pairs_of, IsPairs}
use Rattle.file_model.specs.Resuming.{lead_of as pairs_lead}

module _ {E : Type 0} (value : E → ℕ) where
  -- where the first pairs agree, all do if the others do
  pub same_behind : (e : ℕ × E) (es : List (ℕ × E)) (p : ℕ × ℕ) (ps : List (ℕ × ℕ)) → e.0 ≡ p.0 → value e.1 ≡ p.1
      → (ps ≡ written value es) ↔ (p ∷ ps ≡ written value (e ∷ es))
  same_behind e es p ps key residue = (λ h. λ i. (sym key i, sym residue i) ∷ h i, λ h. cc)

  pub other_key : (e : ℕ × E) (es : List (ℕ × E)) (p : ℕ × ℕ) (ps : List (ℕ × ℕ)) → e.0 ≢ p.0 → ¬ (p ∷ ps ≡ written value (e ∷ es))
  other_key e es p ps ne h =
      let first : ◌≡◌ {A = ℕ × ℕ} p (e.0, value e.1) = cc in
      ne (sym (ap (λ t. t.0) first))

  pub other_residue : (e : ℕ × E) (es : List (ℕ × E)) (p : ℕ × ℕ) (ps : List (ℕ × ℕ)) → value e.1 ≢ p.1 → ¬ (p ∷ ps ≡ written value (e ∷ es))
  other_residue e es p ps ne h =
      let first : ◌≡◌ {A = ℕ × ℕ} p (e.0, value e.1) = cc in
      ne (sym (ap (λ t. t.1) first))

  pub lead_written : (row : List (ℕ × E)) → pairs_lead (written value row) ≡ lead_of row
  lead_written [] = refl
  lead_written (e ∷ es) = refl

  -- what a page holds of a combination has its entries
  pub pairs_are : (zero : E) (has : E → Bool) (row : List (ℕ × E)) (pairs : List (ℕ × ℕ)) → written value row ≡ pairs → (q : ℕ)
      → entries_of value row q ≡ pairs_of pairs q
  pairs_are zero has row pairs is q = sym (entry_of-written (λ k. k) zero has value row q) ∙ ap (λ ps. pairs_of ps q) is

-- what is written below a number is of keys below it
pub below_written : {E : Type 0} (value : E → ℕ) (high m : ℕ) (row : List (ℕ × E)) (pairs : List (ℕ × ℕ)) → written value row ≡ pairs → AreBelow high m pairs
    → IsBelow (λ k. k) high row
below_written {E = E} value high m row pairs is all = go row (recursion_from_All (λ e. (e.0 < high) × (e.1 < m)) (written value row) (subst (AreBelow high m) (sym is) all))
  where
    go : (es : List (ℕ × E)) → AllByRecursion (λ e. (e.0 < high) × (e.1 < m)) (written value es) → IsBelow (λ k. k) high es
    go [] h = tt
    go (e ∷ es) h = (h.0.0, go es h.1)

module _ {E : Type 0} (m : ℕ) (zero : E) (has : E → Bool) (value : E → ℕ) (has_zero : has zero ≡ true) (value_zero : value zero ≡ 0)
    (value_injective : (a b : E) → has a ≡ true → has b ≡ true → value a ≡ value b → a ≡ b) (value_below : (a : E) → has a ≡ true → value a < m) where
  pub written_pairs : (row : List (ℕ × E)) → 0 < m → IsRow (λ k. k) zero 0 row → AllIn has row → IsPairs m (entries_of value row) (written value row)
  written_pairs row pos is_row all =
      let r = residues-written (λ k. k) zero has value has_zero value_zero value_injective m value_below row is_row all in record {
        row = r.increasing;
        residues = λ q. mod-eq_of_lt (entry_of_below (λ k. k) zero has value m 0 q row pos value_below is_row all)
            ∙ sym (entry_of-written (λ k. k) zero has value row q);
      }
