-- A list whose rows are reduced place by place is a reduced list.
use Rattle.std.proofs.Common.{◌≡◌, ℕ, zero, suc, ◌-◌, ◌%◌, ◌<◌, ◌≤◌, List, [], length, get_or, Bool, inl, inr, sym, ap, subst, arith}
use Rattle.std.proofs.lemmas.Bool.{cases_eq}
use Rattle.sparse_rows.specs.Entries.{IsBelow, AllIn}
use Rattle.echelon.specs.Lists.{lead_at}
use Rattle.echelon.specs.States.{IsRowList}
use Rattle.echelon.specs.Inner.{IsReducedAt}
use Rattle.echelon.proofs.Leads.{lead_of_below}
use Rattle.echelon.proofs.RowLemmas.{entries_of_before_lead}

module _ {E : Type 0} (m : ℕ) (has : E → Bool) (value : E → ℕ) (nil : E) (rows : List (List (ℕ × E))) (n : ℕ) (each : (k : ℕ) → k < n
    → IsReducedAt value nil rows k) where
  -- the leads rise
  leads_rise : (i k : ℕ) → i < k → k < n → lead_at rows i < lead_at rows k
  leads_rise i zero l h = absurd (omega arith)
  leads_rise i (suc k) l h =
      let place : suc k - 1 ≡ k = omega arith in
      let step : lead_at rows k < lead_at rows (suc k) = subst (λ x. lead_at rows x < lead_at rows (suc k)) place ((each (suc k) h).rising (omega arith)) in
      elim (cases_eq i k) [
        | inl e ↦ subst (λ x. lead_at rows x < lead_at rows (suc k)) (sym e) step
        | inr ne ↦ omega (arith, leads_rise i k (omega arith) (omega arith))
      ]

  pub place_at_most : (k : ℕ) → k < n → k ≤ lead_at rows k
  place_at_most zero h = omega arith
  place_at_most (suc k) h = omega (arith, place_at_most k (omega arith), leads_rise k (suc k) (omega arith) h)

  -- the next place is below the width
  pub place_below : (k columns : ℕ) → k < n → IsBelow (λ q. q) columns (get_or rows k []) → k < columns
  place_below k columns h below = omega (arith, place_at_most k h, lead_of_below columns (get_or rows k []) below (each k h).some)

  pub list_of_places : (columns : ℕ) → n ≡ length rows → columns ≤ 65536 → n ≤ 65536 → ((k : ℕ) → k < n → IsBelow (λ q. q) columns (get_or rows k []))
      → ((k : ℕ) → k < length rows → AllIn has (get_or rows k []))
      → IsRowList m has value nil columns rows
  list_of_places columns all few count below in_ring = record {
    few = few;
    count = omega arith;
    fit = λ i h. record {
      some = (each i (omega arith)).some;
      is_row = (each i (omega arith)).is_row;
      below = below i (omega arith);
      in_ring =
          in_ring i h;
    };
    reduced = record {
      one = λ i h. ap (λ x. x % m) (each i (omega arith)).one;
      before = λ i j h l. ap (λ x. x % m) (entries_of_before_lead value nil j (get_or rows i []) (each i (omega arith)).is_row l);
      rising = λ i k l h. leads_rise i k l (omega arith);
      clear = λ i k h hk ne. ap (λ x. x % m) ((each k (omega arith)).clear i h ne);
    };
  }
