-- The row that stands for the lead of a forward row is put at its column.
use Rattle.std.proofs.Common.{◌≡◌, ℕ, ◌+◌, ◌%◌, ◌<◌, List, [], ◌∷◌, length, set, get_or, Bool, inl, inr, sym, ◌∙◌, ap, subst, arith}
use Rattle.std.proofs.lemmas.Bool.{cases_eq}
use Rattle.std.proofs.lemmas.List.{length-set, get_or-set_same, get_or-set_other}
use Rattle.zeta_model.specs.Modular.{Same}
use Rattle.linear_model.specs.Rows.{combination}
use Rattle.sparse_rows.specs.Entries.{IsRow, IsBelow, AllIn}
use Rattle.sparse_rows.proofs.EntryLemmas.{entry_of_first}
use Rattle.echelon.specs.Lists.{entries_of, lead_of, row_at, lead_at, FitsColumns}
use Rattle.echelon.specs.Inner.{unit_row, IsRest, AllStand, AreWithin}
use Rattle.echelon.proofs.Remains.{times_unit, rest_of_lead}

-- what holds at each place holds after a `set` too, where it holds of the new element
at_set : {A : Type 0} (xs : List A) (k : ℕ) (x d : A) (P : ℕ → A → Type 0) → ((j : ℕ) → j < length xs → P j (get_or xs j d)) → P k x → (j : ℕ)
    → j < length (set xs k x) → P j (get_or (set xs k x) j d)
at_set xs k x d P all here j l =
    let inside : j < length xs = omega (arith, length-set xs k x) in
    elim (cases_eq j k) [
      | inl e ↦ subst (λ i. P i (get_or (set xs k x) i d)) (sym e) (subst (P k) (sym (get_or-set_same xs k x d (omega (arith, inside, e)))) here)
      | inr ne ↦ subst (P j) (sym (get_or-set_other xs k j x d ne)) (all j inside)
    ]

module _ {E : Type 0} (has : E → Bool) (standing : List (List (ℕ × E))) (k : ℕ) (left : List (ℕ × E)) where
  pub within_put : AreWithin has standing → IsBelow (λ k. k) (length standing) left → AllIn has left → AreWithin has (set standing k left)
  within_put kept below in_ring = record {
    few = omega (arith, length-set standing k left, kept.few);
    below = at_set standing k left [] (λ j es. IsBelow (λ k. k) (length (set standing k left)) es)
        (λ j l. subst (λ n. IsBelow (λ k. k) n (get_or standing j [])) (sym (length-set standing k left)) (kept.below j l))
        (subst (λ n. IsBelow (λ k. k) n left) (sym (length-set standing k left)) below);
    in_ring = at_set standing k left [] (λ j es. AllIn has es) kept.in_ring in_ring;
  }

module _ {E : Type 0} (m : ℕ) (has : E → Bool) (value : E
    → ℕ) (zero : E) (columns : ℕ) (rows standing : List (List (ℕ × E))) (i : ℕ) (first : ℕ × E) (behind left : List (ℕ × E))
    (inside : i < length rows) (is : first ∷ behind ≡ get_or rows i []) (fits : FitsColumns has zero columns (get_or rows i [])) where
  pub lead_within : first.0 < columns
  lead_within = (subst (IsBelow (λ k. k) columns) (sym is) fits.below).0

  pub stand_put : Same m (row_at value rows i (lead_at rows i)) 1 → AllStand m value rows standing
      → ((c : ℕ → ℕ) × ((col : ℕ) → Same m 0
      (entries_of value left col + entries_of value behind col + combination (length rows) (row_at value rows) c col)))
      → AllStand m value rows (set standing first.0 left)
  stand_put one stand none =
      at_set standing first.0 left [] (λ k es. IsRest m value rows (unit_row k) (entries_of value es)) stand
      (rest_of_lead m value rows i first.0 (value first.1) (entries_of value left) (entries_of value behind) inside
      (ap (λ x. x % m) (sym (entry_of_first (λ k. k) zero value 0 first behind (subst (IsRow (λ k. k) zero 0) (sym is) fits.is_row)))
      ∙ ap (λ es. entries_of value es (lead_of es) % m) is ∙ one)
      (λ col. ap (λ es. entries_of value es col) (sym is) ∙ ap (λ x. x + entries_of value behind col) (times_unit (value first.1) first.0 col))
      none)
