-- A list of rows in a ring is one in the same ring, and fits more columns.
use Rattle.std.proofs.Common.{◌≡◌, ℕ, ◌≤◌, List, Bool, sym, subst}
use Rattle.sparse_rows.proofs.EntryLemmas.{below_more}
use Rattle.echelon.specs.Lists.{FitsColumns}
use Rattle.echelon.specs.States.{RowList, IsRowList}

pub fits_more : {E : Type 0} (has : E → Bool) (zero : E) (n k : ℕ) (row : List (ℕ × E)) → n ≤ k → FitsColumns has zero n row → FitsColumns has zero k row
fits_more has zero n k row h fits = record {
  some = fits.some;
  is_row = fits.is_row;
  below = below_more (λ q. q) n k row h fits.below;
  in_ring = fits.in_ring;
}

pub row_list_same : {E : Type 0} (m n : ℕ) (has other_has : E → Bool) (value other_value : E → ℕ) (zero : E) (columns : ℕ) (rows : List (List (ℕ × E)))
    → m ≡ n → has ≡ other_has → value ≡ other_value
    → IsRowList m has value zero columns rows → IsRowList n other_has other_value zero columns rows
row_list_same m n has other_has value other_value zero columns rows same_m same_has same_value list =
    subst (λ v. IsRowList n other_has v zero columns rows) same_value
    (subst (λ h. IsRowList n h value zero columns rows) same_has (subst (λ k. IsRowList k has value zero columns rows) same_m list))

module _ {R E : Type 0} (modulus : R → ℕ) (has : R → E → Bool) (value : R → E → ℕ) (zero : E) (has_same : (r s : R) → modulus r ≡ modulus s → (a : E)
    → has r a ≡ has s a) (value_same : (r s : R) → modulus r ≡ modulus s → (a : E) → value r a ≡ value s a) where
  pub row_list_at : (r : R) (inside s : RowList R E) → inside ≡ s → modulus r ≡ modulus s.ring
      → IsRowList (modulus inside.ring) (has inside.ring) (value inside.ring) zero inside.columns inside.rows
      → IsRowList (modulus r) (has r) (value r) zero s.columns s.rows
  row_list_at r inside s is same list =
      let back : modulus s.ring ≡ modulus r = sym same in
      row_list_same (modulus s.ring) (modulus r) (has s.ring) (has r) (value s.ring) (value r) zero s.columns s.rows back
      (λ i a. has_same s.ring r back a i) (λ i a. value_same s.ring r back a i)
      (subst (λ t. IsRowList (modulus t.ring) (has t.ring) (value t.ring) zero t.columns t.rows) is list)
