-- Elements that are made of residues, one after the other.
use Rattle.std.proofs.Common.{◌≡◌, ℕ, ◌+◌, ◌%◌, ◌<◌, ◌≢◌, Bool, true, List, [], ◌∷◌, ◌++◌, refl, sym, ◌∙◌, ap, subst, append_assoc, arith, mod-eq_of_lt}
use Rattle.std.specs.List.{All}
use Rattle.std.proofs.lemmas.List.Elements.{All-head, All-tail}
use Rattle.sparse_rows.specs.Entries.{IsRow, IsBelow, AllIn}
use Rattle.sparse_rows.proofs.EntryLemmas.{IsRow-append, IsBelow-append, below_more, AllIn-append}
use Rattle.page_rows.specs.Written.{written, AreResidues}
use Rattle.page_rows.proofs.Writing.{written-append}

-- the row has the pairs that stand before the rest
pub record Making {K E : Type 0} (number : K → ℕ) (zero : E) (has : E → Bool) (value : E
    → ℕ) (m : ℕ) (pairs : List (K × ℕ)) (row : List (K × E)) (rest : List (K × ℕ)) : Type 0 where
  pub low : ℕ
  pub row_is : IsRow number zero 0 row
  pub row_below : IsBelow number low row
  pub in_ring : AllIn has row
  pub rest_row : IsRow number 0 low rest
  pub rest_below : All (λ e. e.1 < m) rest
  pub joined : written value row ++ rest ≡ pairs

module _ {K E : Type 0} (number : K → ℕ) (zero : E) (has : E → Bool) (value : E → ℕ) (m : ℕ) (pairs : List (K × ℕ)) where
  pub making-start : AreResidues number m pairs → Making number zero has value m pairs [] pairs
  making-start is = record { low = 0; row_is = tt; row_below = tt; in_ring = tt; rest_row = is.increasing; rest_below = is.below; joined = refl }

  module _ (row : List (K × E)) (rest behind : List (K × ℕ)) (e : K × ℕ) (a : E) (value_zero : value zero ≡ 0) (has_a : has a ≡ true)
      (value_a : value a ≡ e.1 % m) (making : Making number zero has value m pairs row rest) (begins : rest ≡ e ∷ behind) where
    kept : Making number zero has value m pairs row (e ∷ behind)
    kept = subst (Making number zero has value m pairs row) begins making

    pub first_behind : IsBelow number (number e.0) row
    first_behind = let r = kept.rest_row in below_more number kept.low (number e.0) row r.0 kept.row_below

    value_is : value a ≡ e.1
    value_is = value_a ∙ mod-eq_of_lt (All-head (λ (e : K × ℕ). e.1 < m) e behind kept.rest_below)

    pub first_some : a ≢ zero
    first_some z = let r = kept.rest_row in r.1 (sym value_is ∙ ap value z ∙ value_zero)

    pub making-more : (new : List (K × E)) → new ≡ row ++ (e.0, a) ∷ [] → Making number zero has value m pairs new behind
    making-more new is = let r = kept.rest_row in record {
      low = number e.0 + 1;
      row_is = rw is (IsRow-append number zero 0 e.0 a row (omega arith) kept.row_is first_behind first_some);
      row_below = rw is (IsBelow-append number (number e.0 + 1) e.0 a row first_behind (omega arith));
      in_ring = rw is (AllIn-append number has e.0 a row kept.in_ring has_a);
      rest_row = r.2;
      rest_below = All-tail (λ (e : K × ℕ). e.1 < m) e behind kept.rest_below;
      joined = ap (λ xs. written value xs ++ behind) is ∙ ap (λ xs. xs ++ behind) (written-append number zero has value row e.0 a)
          ∙ append_assoc (written value row) ((e.0, value a) ∷ []) behind ∙ ap (λ v. written value row ++ (e.0, v) ∷ behind) value_is ∙ kept.joined;
    }
