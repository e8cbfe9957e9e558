-- What a search by halves finds among the pairs of a row.
use Rattle.std.proofs.Common.{◌≡◌, ◌≢◌, ◌⊎◌, ℕ, zero, suc, ◌+◌, ◌<◌, ◌≤◌, Bool, true, cond, List, [], ◌∷◌, length, get_or, Ok, Err, inl, inr, refl, sym, ◌∙◌, ap, subst, arith}
use Rattle.std.specs.List.Sorted.{IsBinarySearchResult, IsNonDecreasingBy}
use Rattle.std.specs.Ordering.{nat_cmp, ordering_index}
use Rattle.std.proofs.lemmas.Cmp.{ranked}
use Rattle.std.proofs.lemmas.Bool.{ne_eqb, eq-eqb, cases_lt, cases_order}
use Rattle.std.proofs.lemmas.Bool.Decides.{nat_tests}
use Rattle.sparse_rows.specs.Entries.{entry_of, IsRow, AllIn}
use Rattle.sparse_rows.proofs.EntryLemmas.{entry_of_before}

module _ {E : Type 0} (zero_element : E) where
  -- the numbers rise from place to place
  pub rising : (low : ℕ) (row : List (ℕ × E)) → IsRow (λ k. k) zero_element low row → (d : ℕ × E) (i : ℕ) → i < length row
      → (low ≤ (get_or row i d).0) × ((j : ℕ) → i < j → j < length row → (get_or row i d).0 < (get_or row j d).0)
  rising low [] is d i l = absurd (omega (arith, l))
  rising low (e ∷ es) is d zero l = (is.0, λ j ij jl. later (λ k kl. (rising (e.0 + 1) es is.2 d k kl).0) j ij jl)
    where
      later : ((k : ℕ) → k < length es → e.0 + 1 ≤ (get_or es k d).0) → (j : ℕ) → zero < j → j < length (e ∷ es) → e.0 < (get_or (e ∷ es) j d).0
      later behind zero ij jl = absurd (omega (arith, ij))
      later behind (suc j) ij jl = omega (arith, behind j (omega (arith, jl)))
  rising low (e ∷ es) is d (suc i) l =
      let behind = rising (e.0 + 1) es is.2 d i (omega (arith, l)) in
      (omega (arith, behind.0, is.0), λ j ij jl. later behind.1 j ij jl)
    where
      later : ((j : ℕ) → i < j → j < length es → (get_or es i d).0 < (get_or es j d).0) → (j : ℕ) → suc i < j → j < length (e ∷ es)
          → (get_or es i d).0 < (get_or (e ∷ es) j d).0
      later more zero ij jl = absurd (omega (arith, ij))
      later more (suc j) ij jl = more j (omega (arith, ij)) (omega (arith, jl))

  -- what a row has at the number of a place
  pub entry_at_place : (value : E → ℕ) (low : ℕ) (row : List (ℕ × E)) → IsRow (λ k. k) zero_element low row → (d : ℕ × E) (i : ℕ) → i < length row
      → entry_of (λ k. k) value row (get_or row i d).0 ≡ value (get_or row i d).1
  entry_at_place value low [] is d i l = absurd (omega (arith, l))
  entry_at_place value low (e ∷ es) is d zero l =
      ap (λ b. cond b (value e.1) 0 + entry_of (λ k. k) value es e.0) (eq-eqb e.0 e.0 refl)
      ∙ omega (arith, entry_of_before (λ k. k) zero_element value (e.0 + 1) e.0 es is.2 (omega arith))
  entry_at_place value low (e ∷ es) is d (suc i) l =
      let behind = rising (e.0 + 1) es is.2 d i (omega (arith, l)) in
      ap (λ b. cond b (value e.1) 0 + entry_of (λ k. k) value es (get_or es i d).0) (ne_eqb e.0 (get_or es i d).0 (λ same. omega (arith, same, behind.0)))
      ∙ omega (arith, entry_at_place value (e.0 + 1) es is.2 d i (omega (arith, l)))

  -- a row has nothing at a number that no place has
  pub entry_nowhere : (value : E → ℕ) (row : List (ℕ × E)) (q : ℕ) (d : ℕ × E) → ((i : ℕ) → i < length row → (get_or row i d).0 ≢ q)
      → entry_of (λ k. k) value row q ≡ 0
  entry_nowhere value [] q d none = refl
  entry_nowhere value (e ∷ es) q d none =
      ap (λ b. cond b (value e.1) 0 + entry_of (λ k. k) value es q) (ne_eqb e.0 q (none 0 (omega arith)))
      ∙ omega (arith, entry_nowhere value es q d (λ i l. none (suc i) (omega (arith, l))))

module _ {E : Type 0} (zero_element : E) (row : List (ℕ × E)) (is : IsRow (λ k. k) zero_element 0 row) (k : ℕ) where
  -- the comparisons with k rise along the row, as a search by halves asks
  comparisons_rise : IsNonDecreasingBy (λ pair. ordering_index (nat_cmp pair.0 k)) row
  comparisons_rise i j d le within = go (cases_order i j)
    where
      go : ((i ≡ j) ⊎ ((i < j) ⊎ (j < i))) → ordering_index (nat_cmp (get_or row i d).0 k) ≤ ordering_index (nat_cmp (get_or row j d).0 k)
      go (inl same) = subst (λ n. ordering_index (nat_cmp (get_or row i d).0 k) ≤ ordering_index (nat_cmp (get_or row n d).0 k)) same (omega arith)
      go (inr (inl less)) =
          let up : (get_or row i d).0 < (get_or row j d).0 = (rising zero_element 0 row is d i (omega (arith, less, within))).1 j less within in
          grind (arith, nat_tests, up)
      go (inr (inr more)) = absurd (omega (arith, le, more))

  -- a search ends at a pair with the number
  pub found : (value : E → ℕ) (place : ℕ) (d : ℕ × E) → place < length row → IsBinarySearchResult (λ pair. nat_cmp pair.0 k) row (Ok place)
      → entry_of (λ k. k) value row k ≡ value (get_or row place d).1
  found value place d within equal =
      let at : (get_or row place d).0 ≡ k = ranked _ k _ (sym (equal d)) in
      ap (entry_of (λ k. k) value row) (sym at) ∙ entry_at_place zero_element value 0 row is d place within

  -- or there is none
  pub not_found : (value : E → ℕ) (place : ℕ) (d : ℕ × E) → IsBinarySearchResult (λ pair. nat_cmp pair.0 k) row (Err place)
      → entry_of (λ k. k) value row k ≡ 0
  not_found value place d parted = entry_nowhere zero_element value row k d (λ i l same. apart i l same (cases_lt i place))
    where
      apart : (i : ℕ) → i < length row → (get_or row i d).0 ≡ k → ((i < place) ⊎ (place ≤ i)) → ⊥
      apart i l same (inl less) =
          let below : (get_or row i d).0 < k = ranked _ k _ (sym ((parted comparisons_rise).0 i d (omega arith) less)) in
          absurd (omega (arith, below, same))
      apart i l same (inr late) =
          let above : k < (get_or row i d).0 = ranked _ k _ (sym ((parted comparisons_rise).1 i d late l)) in
          absurd (omega (arith, above, same))

-- the element at a place is one of the ring
pub in_ring_at : {E : Type 0} (has : E → Bool) (row : List (ℕ × E)) (place : ℕ) (d : ℕ × E) → place < length row → AllIn has row
    → has (get_or row place d).1 ≡ true
in_ring_at has [] place d l all = absurd (omega (arith, l))
in_ring_at has (e ∷ es) zero d l all = all.0
in_ring_at has (e ∷ es) (suc place) d l all = in_ring_at has es place d (omega (arith, l)) all.1
