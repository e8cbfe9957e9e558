-- What is left of a row after a sweep, and its forward row.
use Rattle.std.proofs.Common.{◌≡◌, ◌≢◌, ℕ, ◌*◌, ◌%◌, ◌<◌, ◌≤◌, List, [], ◌∷◌, length, Some, Bool, true, refl, sym, ◌∙◌, ap, subst, arith, mod-eq_of_lt}
use Rattle.std.specs.Prelude.{slice_get}
use Rattle.std.proofs.Math.Nat.{mul_comm}
use Rattle.zeta_model.specs.Modular.{Same}
use Rattle.linear_model.specs.Reduced.{IsLead}
use Rattle.linear_model.proofs.Sweeps.{normal_form_of_swept}
use Rattle.sparse_rows.specs.Entries.{IsRow, AllIn}
use Rattle.sparse_rows.proofs.EntryLemmas.{entry_of_first}
use Rattle.sparse_rows.proofs.SameRows.{IsLead-first}
use Rattle.echelon.specs.Lists.{entries_of, lead_of, AreForward}
use Rattle.echelon.specs.Inner.{numbers_of, IsSweptRow, IsFoundRow}
use Rattle.echelon.specs.Offers.{InSpanOf, HasNoInverse}
use Rattle.echelon.proofs.RowLemmas.{entries_of_behind, entries_of_before_lead, lead_of_is, IsBelow_by_entries}
use Rattle.echelon.proofs.ForwardRows.{forward_row_of, in_span_of_zero}

pub begins_with : {A : Type 0} (xs : List A) (x : A) → slice_get xs 0 ≡ Some x → (rest : List A) × (xs ≡ x ∷ rest)
begins_with [] x h = absurd (cc)
begins_with (y ∷ ys) x h = let same : y ≡ x = cc in (ys, ap (λ z. z ∷ ys) same)

module _ {E : Type 0} (m : ℕ) (has : E → Bool) (value : E → ℕ) (zero : E) (has_zero : has zero ≡ true) (value_zero : value zero ≡ 0)
    (value_injective : (a b : E) → has a ≡ true → has b ≡ true → value a ≡ value b → a ≡ b) (value_below : (a : E) → has a ≡ true
    → value a < m) (from : 3 ≤ m) where
  pub nonzero : (a : E) → has a ≡ true → a ≢ zero → value a ≢ 0
  nonzero a h ne is = ne (value_injective a zero h has_zero (is ∙ sym value_zero))

  module _ (columns : ℕ) (rows : List (List (ℕ × E))) (p : ℕ
      → ℕ) (rest : List (ℕ × E)) (factors : List E) (forward : AreForward m value rows)
      (swept : IsSweptRow m has value zero columns rows 0 p rest factors) where
    pos : 0 < m
    pos = omega arith

    -- nothing is left
    pub found_none : rest ≡ [] → InSpanOf m value rows p
    found_none none = in_span_of_zero m value rows p pos forward (entries_of value rest)
        (normal_form_of_swept m _ _ (length rows) (numbers_of value factors) p (entries_of value rest) pos swept.swept)
        (λ col. ap (λ es. entries_of value es col % m) none)

    module _ (lead : ℕ × E) (first : slice_get rest 0 ≡ Some lead) where
      begun : (behind : List (ℕ × E)) × (rest ≡ lead ∷ behind)
      begun = begins_with rest lead first

      pub lead_in : has lead.1 ≡ true
      lead_in = (subst (AllIn has) begun.1 swept.in_ring).0

      leads : IsLead m (entries_of value rest) lead.0
      leads = subst (λ es. IsLead m (entries_of value es) lead.0) (sym begun.1)
          (IsLead-first (λ k. k) (λ a b e. e) zero has value m has_zero value_zero value_injective 0 lead begun.0 value_below
          (subst (IsRow (λ k. k) zero 0) begun.1 swept.is_row) (subst (AllIn has) begun.1 swept.in_ring))

      here : entries_of value rest lead.0 ≡ value lead.1
      here = ap (λ es. entries_of value es lead.0) begun.1
          ∙ entry_of_first (λ k. k) zero value 0 lead begun.0 (subst (IsRow (λ k. k) zero 0) begun.1 swept.is_row)

      -- the lead has no inverse
      pub found_broken : ((b : ℕ) → value lead.1 * b % m ≢ 1) → HasNoInverse m value rows p (value lead.1)
      found_broken none = record {
        remainder = entries_of value rest;
        column = lead.0;
        is_remainder = normal_form_of_swept m _ _ (length rows) (numbers_of value factors) p (entries_of value rest) pos swept.swept;
        leads = leads;
        residue = sym (mod-eq_of_lt (value_below lead.1 lead_in)) ∙ ap (λ x. x % m) (sym here);
        no_inverse = none;
      }

      -- the lead has an inverse, and the rest was scaled by it
      pub found_forward : (row : List (ℕ × E)) (scale : E) → has scale ≡ true → value lead.1 * value scale % m ≡ 1 → IsRow (λ k. k) zero 0 row
          → AllIn has row
          → ((q : ℕ) → entries_of value row q ≡ value scale * entries_of value rest q % m) → IsFoundRow m has value zero columns rows p row scale factors
      found_forward row scale scale_in unit is_row in_ring scaled = record {
        fits = record {
          some = led.0;
          is_row = is_row;
          below = IsBelow_by_entries has value zero nonzero 0 columns row is_row in_ring
              (λ q l. vanishes q (entries_of_behind value columns q rest swept.below l));
          in_ring = in_ring;
        };
        scale_in_ring = scale_in;
        count = swept.count;
        factors_in_ring = swept.factors_in_ring;
        made = forward_row_of m value rows p pos forward rest row (value scale) (numbers_of value factors)
            (λ i. value scale * numbers_of value factors i) swept.swept
            (subst (IsLead m (entries_of value rest)) (sym led.1) leads)
            (subst (λ col. Same m (value scale * entries_of value rest col) 1) (sym led.1) (sym (scaled lead.0) ∙ unit_here ∙ sym one)) scaled
            (λ i l. refl);
      }
        where
          one : 1 % m ≡ 1
          one = mod-eq_of_lt (omega arith)

          none : 0 % m ≡ 0
          none = mod-eq_of_lt (omega arith)

          vanishes : (q : ℕ) → entries_of value rest q ≡ 0 → entries_of value row q ≡ 0
          vanishes q h = scaled q ∙ ap (λ x. value scale * x % m) h ∙ ap (λ x. x % m) (let e : value scale * 0 ≡ 0 = omega arith in e) ∙ none

          unit_here : entries_of value row lead.0 ≡ 1
          unit_here = scaled lead.0 ∙ ap (λ x. value scale * x % m) here ∙ ap (λ x. x % m) (mul_comm (value scale) (value lead.1)) ∙ unit

          led : (0 < length row) × (lead_of row ≡ lead.0)
          led = lead_of_is has value zero nonzero row lead.0 is_row in_ring
              (λ q l. vanishes q (entries_of_before_lead value zero q rest swept.is_row (let e : lead_of rest ≡ lead.0 = ap lead_of begun.1 in
              omega arith)))
              (λ e. absurd (omega (arith, unit_here)))
