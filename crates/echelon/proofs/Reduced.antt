-- All reduced rows of a forward list: a reduced list of its span.
use Rattle.std.proofs.Common.{◌≡◌, ◌≢◌, ℕ, zero, suc, ◌%◌, ◌<◌, ◌≤◌, List, [], length, get_or, Bool, inl, inr, refl, sym, ◌∙◌, ap, arith}
use Rattle.std.proofs.lemmas.Bool.{cases_order}
use Rattle.linear_model.specs.Rows.{SpanWithin}
use Rattle.echelon.specs.Lists.{row_at, lead_at, AllFit, AreForward, AreReduced}
use Rattle.echelon.specs.States.{IsRowList}
use Rattle.echelon.specs.Offers.{used_at}
use Rattle.echelon.specs.Finishes.{SameSpanOf, AreUses}
use Rattle.echelon.specs.Inner.{IsUsed, IsReducing}
use Rattle.echelon.proofs.Leads.{lead_of_below}
use Rattle.echelon.proofs.RowLemmas.{entries_of_before_lead}
use Rattle.linear_model.proofs.Reducing.{spanned}

module _ {E : Type 0} (m : ℕ) (has : E → Bool) (value : E
    → ℕ) (nil : E) (columns : ℕ) (numbers : List ℕ) (rows : List (List (ℕ × E))) (pos : 0 < m) (forward : AreForward m value rows)
    (fit : AllFit has nil columns rows)
    (reduced uses : List (List (ℕ × E))) (made : IsReducing m has value nil columns numbers rows columns reduced uses) where
  -- the place of the row that leads where reduced row j does
  used : (j : ℕ) → j < length reduced → IsUsed m has value nil columns numbers rows (get_or reduced j []) (get_or uses j [])
  used j h = made.made j h

  pub all_reduced : AreReduced m value reduced
  all_reduced = record {
    one = λ j h. (used j h).used.one;
    before = λ j col h l. ap (λ x. x % m) (entries_of_before_lead value nil col (get_or reduced j []) (used j h).used.fits.is_row l);
    rising = made.rising;
    clear = λ j k h hk ne.
        let other : (used k hk).place ≢ (used j h).place =
        λ e. ne (same_lead j k h hk ((used j h).used.leads ∙ ap (lead_at rows) (sym e) ∙ sym (used k hk).used.leads)) in
        ap (λ col. row_at value reduced j col % m) (used k hk).used.leads ∙ (used j h).used.clear (used k hk).place (used k hk).inside other;
  }
    where
      same_lead : (j k : ℕ) → j < length reduced → k < length reduced → lead_at reduced j ≡ lead_at reduced k → j ≡ k
      same_lead j k h hk e = elim (cases_order j k) [
        | inl s ↦ s
        | inr o ↦ elim o [
          | inl less ↦ absurd (let l : lead_at reduced j < lead_at reduced k = made.rising j k less hk in omega arith)
          | inr more ↦ absurd (let l : lead_at reduced k < lead_at reduced j = made.rising k j more h in omega arith)
        ]
      ]

  lies : SpanWithin m (length reduced) (row_at value reduced) (length rows) (row_at value rows)
  lies j h = (used_at value numbers (get_or uses j []), (used j h).used.sum)

  pub same_span : SameSpanOf m value rows reduced
  same_span = (
    spanned m (length rows) (lead_at rows) (row_at value rows) pos forward (length reduced) (lead_at reduced) (row_at value reduced) all_reduced lies
        (λ i h. made.complete i h (lead_of_below columns (get_or rows i []) (fit i h).below (fit i h).some)),
    lies,
  )

  pub are_uses : AreUses m has value numbers rows reduced uses
  are_uses = record {
    count = made.count;
    named = λ j h. (used j (omega (arith, made.count))).used.named;
    in_ring = λ j h. (used j (omega (arith, made.count))).used.in_ring;
    sums = λ j h. (used j h).used.sum;
  }

  -- there are no more rows than columns
  place_at_most_lead : (j : ℕ) → j < length reduced → j ≤ lead_at reduced j
  place_at_most_lead zero h = omega arith
  place_at_most_lead (suc j) h = omega (arith, place_at_most_lead j (omega arith), made.rising j (suc j) (omega arith) h)

  pub is_row_list : columns ≤ 65536 → IsRowList m has value nil columns reduced
  is_row_list few = record {
    few = few;
    count = at_most (length reduced) refl;
    fit = λ j h. (used j h).used.fits;
    reduced = all_reduced;
  }
    where
      at_most : (n : ℕ) → length reduced ≡ n → length reduced ≤ 65536
      at_most zero e = omega arith
      at_most (suc n) e = let inside : n < length reduced = omega arith in omega (arith, place_at_most_lead n inside, made.below n inside)
