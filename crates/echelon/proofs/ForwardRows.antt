-- The forward row of an offered row, from what a sweep leaves of it.
use Rattle.std.proofs.Common.{◌≡◌, ◌≢◌, ℕ, ◌+◌, ◌*◌, ◌%◌, ◌<◌, ◌++◌, List, [], ◌∷◌, length, inl, inr, sym, ◌∙◌, ap, subst, arith}
use Rattle.std.proofs.lemmas.Bool.{cases_order, cases_lt}
use Rattle.std.proofs.lemmas.List.{get_or_append_left}
use Rattle.std.proofs.Math.Nat.{mul_comm}
use Rattle.std.proofs.Math.Seq.{get_or-append_seam}
use Rattle.zeta_model.specs.Modular.{Same}
use Rattle.zeta_model.proofs.ModularLemmas.{same-add_left, same-add_right, same-mul_left, same-mul_right, same-mod}
use Rattle.linear_model.specs.Rows.{combination, SameRow, InSpan, SameSpan, rows_and}
use Rattle.linear_model.specs.Reduced.{IsLead}
use Rattle.linear_model.specs.Forward.{IsSwept}
use Rattle.linear_model.proofs.Totals.{same-total}
use Rattle.linear_model.proofs.Spans.{same-combination, combination_scaled}
use Rattle.linear_model.proofs.Sweeps.{normal_form_of_swept}
use Rattle.linear_model.proofs.ForwardLists.{normal_form_unique, in_span_iff}
use Rattle.echelon.specs.Lists.{entries_of, lead_of, row_at, lead_at, AreForward}
use Rattle.echelon.specs.Offers.{InSpanOf, IsRemainder, HasNoInverse, IsForwardRow, TakesIn}
use Rattle.echelon.proofs.RowLists.{length-push}
use Rattle.linear_model.proofs.SpanSteps.{rows_and-last, rows_and-before, span_within_and, same_span_none}

module _ {E : Type 0} (m : ℕ) (value : E → ℕ) (rows : List (List (ℕ × E))) (p : ℕ → ℕ) (pos : 0 < m) (forward : AreForward m value rows) where
  -- the remainder of a row is not zero where it leads, so the row is not in the span
  pub not_in_span : (rest : ℕ → ℕ) (col : ℕ) → IsRemainder m value rows p rest → IsLead m rest col → ¬ (InSpanOf m value rows p)
  not_in_span rest col is_rest leads lies =
      leads.here ((in_span_iff m (length rows) (lead_at rows) (row_at value rows) pos forward p rest is_rest).0 lies col)

  pub in_span_of_zero : (rest : ℕ → ℕ) → IsRemainder m value rows p rest → ((col : ℕ) → Same m (rest col) 0) → InSpanOf m value rows p
  in_span_of_zero rest is_rest none = (in_span_iff m (length rows) (lead_at rows) (row_at value rows) pos forward p rest is_rest).1 none

  -- a row of the span has no remainder that could lead with anything
  pub zero_has_inverse : (lead : ℕ) → InSpanOf m value rows p → ¬ (HasNoInverse m value rows p lead)
  zero_has_inverse lead lies broken = not_in_span broken.remainder broken.column broken.is_remainder broken.leads lies

  -- a remainder whose lead has an inverse leads with no other residue
  pub unit_has_inverse : (rest : ℕ → ℕ) (col scale lead : ℕ) → IsRemainder m value rows p rest → IsLead m rest col → Same m (scale * rest col) 1 → 1 % m ≡ 1
      → ¬ (HasNoInverse m value rows p lead)
  unit_has_inverse rest col scale lead is_rest leads unit one broken =
      let same : SameRow m broken.remainder rest =
      normal_form_unique m (length rows) (lead_at rows) (row_at value rows) pos forward p broken.remainder rest broken.is_remainder is_rest in
      let column : broken.column ≡ col = elim (cases_order broken.column col) [
        | inl e ↦ e
        | inr o ↦ elim o [
          | inl less ↦ absurd (broken.leads.here (same broken.column ∙ leads.before broken.column less))
          | inr more ↦ absurd (leads.here (sym (same col) ∙ broken.leads.before col more))
        ]
      ] in
      let here : Same m lead (rest col) =
      ap (λ x. x % m) broken.residue ∙ same-mod m (broken.remainder broken.column) ∙ same broken.column ∙ ap (λ q. rest q % m) column in
      broken.no_inverse scale (same-mul_right m lead (rest col) scale here ∙ ap (λ x. x % m) (mul_comm (rest col) scale) ∙ unit ∙ one)

  pub forward_row_of : (rest row : List (ℕ × E)) (scale : ℕ) (c u : ℕ → ℕ)
      → IsSwept m 0 (length rows) (lead_at rows) (row_at value rows) c p (entries_of value rest)
      → IsLead m (entries_of value rest) (lead_of row) → Same m (scale * entries_of value rest (lead_of row)) 1
      → ((q : ℕ) → entries_of value row q ≡ scale * entries_of value rest q % m) → ((i : ℕ) → i < length rows → Same m (u i) (scale * c i))
      → IsForwardRow m value rows p row scale u
  forward_row_of rest row scale c u swept leads unit scaled factors = record {
    remainder = entries_of value rest;
    is_remainder = normal_form_of_swept m (lead_at rows) (row_at value rows) (length rows) c p (entries_of value rest) pos swept;
    leads = leads;
    inverse = unit;
    is_scaled = λ q. is_scaled q;
    sum = λ q.
        let k = length rows in
        let at = row_at value rows in
        is_scaled q
        ∙ same-mul_left m _ _ scale (swept.is q)
        ∙ ap (λ x. x % m) (let e : scale * (p q + combination k at c q) ≡ scale * p q + combination k at c q * scale = omega arith in e)
        ∙ same-add_left m _ _ (scale * p q)
        (ap (λ x. x % m) (sym (combination_scaled k scale c at q))
        ∙ same-combination m k at (λ i. c i * scale) u (λ i l. ap (λ x. x % m) (mul_comm (c i) scale) ∙ sym (factors i l)) q);
  }
    where
      is_scaled : SameRow m (entries_of value row) (λ q. scale * entries_of value rest q)
      is_scaled q = ap (λ x. x % m) (scaled q) ∙ same-mod m (scale * entries_of value rest q)

  -- the forward row begins with 1, and is zero at the leads of the rows
  pub forward_row_one : (row : List (ℕ × E)) (scale : ℕ) (u : ℕ → ℕ) → IsForwardRow m value rows p row scale u
      → Same m (entries_of value row (lead_of row)) 1
  forward_row_one row scale u made = made.is_scaled (lead_of row) ∙ made.inverse

  pub forward_row_clear : (row : List (ℕ × E)) (scale : ℕ) (u : ℕ → ℕ) → IsForwardRow m value rows p row scale u → (k : ℕ) → k < length rows
      → Same m (entries_of value row (lead_at rows k)) 0
  forward_row_clear row scale u made k l =
      made.is_scaled (lead_at rows k) ∙ same-mul_left m _ 0 scale (made.is_remainder.zero_at_leads k l)
      ∙ ap (λ x. x % m) (let e : scale * 0 ≡ 0 = omega arith in e)

  -- the rows and the forward row have the span of the rows and the offered one
  pub takes_in_forward : (row : List (ℕ × E)) (scale : ℕ) (u : ℕ → ℕ) → IsForwardRow m value rows p row scale u → TakesIn m value rows p (rows ++ row ∷ [])
  takes_in_forward row scale u made =
      let k = length rows in
      let at = row_at value rows in
      let f = entries_of value row in
      let b : ℕ = made.remainder (lead_of row) in
      let back : SameRow m p (λ q. b * f q + combination k at made.is_remainder.coefficients q) = λ q.
      made.is_remainder.differs q
      ∙ same-add_right m (made.remainder q) (b * f q) _
      (ap (λ x. x % m) (let e : made.remainder q ≡ 1 * made.remainder q = omega arith in e)
      ∙ same-mul_right m 1 (scale * b) (made.remainder q) (sym made.inverse)
      ∙ ap (λ x. x % m) (let e : scale * b * made.remainder q ≡ b * (scale * made.remainder q) = omega arith in e)
      ∙ same-mul_left m _ _ b (sym (made.is_scaled q))) in
      let there : SameSpan m (k + 1) (rows_and k at p) (k + 1) (rows_and k at f) =
      (span_within_and m k at b made.is_remainder.coefficients f p back, span_within_and m k at scale u p f made.sum) in
      let count : k + 1 ≡ length (rows ++ row ∷ []) = sym (length-push rows row) in
      subst (λ n. SameSpan m (k + 1) (rows_and k at p) n (row_at value (rows ++ row ∷ []))) count
      ((λ i l. through (rows_and k at p i) (there.0 i l)), (λ i l. subst (InSpan m (k + 1) (rows_and k at p)) (alike i l) (there.1 i l)))
    where
      alike : (i : ℕ) → i < length rows + 1 → rows_and (length rows) (row_at value rows) (entries_of value row) i ≡ row_at value (rows ++ row ∷ []) i
      alike i l = elim (cases_lt i (length rows)) [
        | inl less ↦ let ne : i ≢ length rows = omega arith in
            rows_and-before m (length rows) (row_at value rows) (entries_of value row) i ne
            ∙ ap (entries_of value) (sym (get_or_append_left rows (row ∷ []) [] i less))
        | inr late ↦
            let same : i ≡ length rows = omega arith in
            ap (rows_and (length rows) (row_at value rows) (entries_of value row)) same
            ∙ rows_and-last m (length rows) (row_at value rows) (entries_of value row)
            ∙ ap (entries_of value) (sym (get_or-append_seam rows row [] [])) ∙ ap (row_at value (rows ++ row ∷ [])) (sym same)
      ]

      through : (q : ℕ → ℕ) → InSpan m (length rows + 1) (rows_and (length rows) (row_at value rows) (entries_of value row)) q
          → InSpan m (length rows + 1) (row_at value (rows ++ row ∷ [])) q
      through q (c, is) = (c, λ col. is col ∙ same_rows c col)
        where
          same_rows : (c : ℕ → ℕ) (col : ℕ)
              → Same m (combination (length rows + 1) (rows_and (length rows) (row_at value rows) (entries_of value row)) c col)
              (combination (length rows + 1) (row_at value (rows ++ row ∷ [])) c col)
          same_rows c col = same-total m (length rows + 1) _ _ (λ i l. ap (λ r. (c i * r col) % m) (alike i l))

  -- a row of the span adds nothing
  pub takes_in_none : InSpanOf m value rows p → TakesIn m value rows p rows
  takes_in_none lies = same_span_none m (length rows) (row_at value rows) p lies

  -- factors that are the same modulo m make the same row
  pub forward_row_with : (row : List (ℕ × E)) (scale : ℕ) (u v : ℕ → ℕ) → IsForwardRow m value rows p row scale u
      → ((i : ℕ) → i < length rows → Same m (u i) (v i)) → IsForwardRow m value rows p row scale v
  forward_row_with row scale u v made same = record {
    remainder = made.remainder;
    is_remainder = made.is_remainder;
    leads = made.leads;
    inverse = made.inverse;
    is_scaled = made.is_scaled;
    sum = λ q. made.sum q ∙ same-add_left m _ _ (scale * p q) (same-combination m (length rows) (row_at value rows) u v same q);
  }
