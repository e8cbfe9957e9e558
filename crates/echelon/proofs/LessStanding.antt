-- The rows that standing rows leave of unit rows lie in the span of the forward rows; where they are a reduced list that leads as these, it is that of the
-- span.
use Rattle.std.proofs.Common.{◌≡◌, ◌≢◌, ℕ, zero, suc, ◌+◌, ◌-◌, ◌*◌, ◌%◌, ◌<◌, ◌≤◌, ◌⊎◌, ◌++◌, List, [], ◌∷◌, length, get_or, Bool, cond, eqb, inl}
use Rattle.std.proofs.Common.{inr, refl, sym, ◌∙◌, ap, subst, arith}
use Rattle.std.proofs.lemmas.Bool.{cases_eq}
use Rattle.std.proofs.lemmas.List.{get_or_append_left}
use Rattle.std.proofs.Math.Seq.{get_or-append_seam}
use Rattle.zeta_model.specs.Modular.{Same}
use Rattle.zeta_model.proofs.ModularLemmas.{same-add_left, same-add_right, same-mul_right}
use Rattle.linear_model.specs.Rows.{combination, SameRow, SpanWithin}
use Rattle.linear_model.proofs.Reducing.{spanned}
use Rattle.sparse_rows.specs.Entries.{IsBelow, AllIn}
use Rattle.echelon.specs.Lists.{entries_of, lead_of, row_at, lead_at, AllFit, AreForward, AreReduced}
use Rattle.echelon.specs.Offers.{InSpanOf}
use Rattle.echelon.specs.Finishes.{SameSpanOf}
use Rattle.echelon.specs.Inner.{unit_row, IsRest, AreFound, IsReducedAt}
use Rattle.echelon.proofs.Leads.{lead_of_below}
use Rattle.echelon.proofs.ReducedPlaces.{place_below}
use Rattle.echelon.proofs.RowLists.{length-push, at_each}

-- the row of one pair is the unit row
pub unit_pair : {E : Type 0} (value : E → ℕ) (k : ℕ) (one : E) (row : List (ℕ × E)) → row ≡ (k, one) ∷ [] → value one ≡ 1 → (q : ℕ)
    → entries_of value row q ≡ unit_row k q
unit_pair value k one row is one_is q =
    ap (λ es. entries_of value es q) is ∙ (let e : cond (eqb k q) (value one) 0 + 0 ≡ cond (eqb k q) (value one) 0 = omega arith in e)
    ∙ ap (λ v. cond (eqb k q) v 0) one_is

module _ {E : Type 0} (m : ℕ) (value : E → ℕ) (rows : List (List (ℕ × E))) where
  -- a unit row less what stands for it is a combination of the rows
  pub less_lies : (k s : ℕ) (x row : ℕ → ℕ) → IsRest m value rows (unit_row k) x → Same m (s + 1) 0 → SameRow m row (λ q. unit_row k q + s * x q)
      → InSpanOf m value rows row
  less_lies k s x row (c, is) minus same = (
    c,
    λ q.
        let sum = combination (length rows) (row_at value rows) c q in
        same q
        ∙ same-add_right m (unit_row k q) (x q + sum) (s * x q) (is q)
        ∙ ap (λ y. y % m) (let e : x q + sum + s * x q ≡ sum + (s + 1) * x q = omega arith in e)
        ∙ same-add_left m ((s + 1) * x q) (0 * x q) sum (same-mul_right m (s + 1) 0 (x q) minus)
        ∙ ap (λ y. y % m) (let e : sum + 0 * x q ≡ sum = omega arith in e),
  )

module _ {E : Type 0} (m : ℕ) (has : E → Bool) (value : E → ℕ) (columns : ℕ) (rows : List (List (ℕ × E))) where
  pub found_start : (made : List (List (ℕ × E))) → made ≡ [] → AreFound m has value columns rows 0 made
  found_start made none =
      let empty : length made ≡ 0 = ap length none in
      record {
        below = λ j h. absurd (omega arith);
        in_ring = λ j h. absurd (omega arith);
        lies = λ j h. absurd (omega arith);
        complete = λ i h l. absurd (omega arith);
      }

  module _ (column : ℕ) (made : List (List (ℕ × E))) (kept : AreFound m has value columns rows column made) where
    -- no row leads at the column
    pub found_skip : ((i : ℕ) → i < length rows → lead_at rows i ≢ column) → AreFound m has value columns rows (column + 1) made
    found_skip nowhere = record {
      below = kept.below;
      in_ring = kept.in_ring;
      lies = kept.lies;
      complete = λ i h l. let apart : lead_at rows i ≢ column = nowhere i h in kept.complete i h (omega arith);
    }

    -- a row of the span that leads there is put behind the others
    pub found_more : (row : List (ℕ × E)) (new : List (List (ℕ × E))) → IsBelow (λ k. k) columns row → AllIn has row
        → InSpanOf m value rows (entries_of value row) → lead_of row ≡ column → new ≡ made ++ row ∷ [] → AreFound m has value columns rows (column + 1) new
    found_more row new below in_ring lies leads is = subst (AreFound m has value columns rows (column + 1)) (sym is) (record {
      below = at_each made row [] (λ j es. IsBelow (λ k. k) columns es) kept.below below;
      in_ring = at_each made row [] (λ j es. AllIn has es) kept.in_ring in_ring;
      lies = at_each made row [] (λ j es. InSpanOf m value rows (entries_of value es)) kept.lies lies;
      complete = λ i h l. place i h (cases_eq (lead_at rows i) column) l;
    })
      where
        place : (i : ℕ) → i < length rows → ((lead_at rows i ≡ column) ⊎ (lead_at rows i ≢ column)) → lead_at rows i < column + 1
            → (j : ℕ) × (j < length (made ++ row ∷ [])) × (lead_at (made ++ row ∷ []) j ≡ lead_at rows i)
        place i h (inl e) l = (length made, omega (arith, length-push made row), ap lead_of (get_or-append_seam made row [] []) ∙ leads ∙ sym e)
        place i h (inr ne) l =
            let (j, t, same) = kept.complete i h (omega arith) in
            (j, omega (arith, length-push made row), ap lead_of (get_or_append_left made (row ∷ []) [] j t) ∙ same)

module _ {E : Type 0} (m : ℕ) (has : E → Bool) (value : E → ℕ) (nil : E) (columns : ℕ) (rows made : List (List (ℕ × E))) where
  -- there are no more rows than columns
  pub found_few : ((k : ℕ) → k < length made → IsReducedAt value nil made k) → ((j : ℕ) → j < length made → IsBelow (λ k. k) columns (get_or made j []))
      → length made ≤ columns
  found_few each below = at_most (length made) refl
    where
      at_most : (n : ℕ) → length made ≡ n → length made ≤ columns
      at_most zero e = omega arith
      at_most (suc n) e = let inside : n < length made = omega arith in
          omega (arith, place_below m has value nil made (length made) each n columns inside (below n inside))

  pub found_span : 0 < m → AreForward m value rows → AllFit has nil columns rows → AreFound m has value columns rows columns made → AreReduced m value made
      → SameSpanOf m value rows made
  found_span pos forward fit found reduced = (
    spanned m (length rows) (lead_at rows) (row_at value rows) pos forward (length made) (lead_at made) (row_at value made) reduced found.lies
        (λ i h. found.complete i h (lead_of_below columns (get_or rows i []) (fit i h).below (fit i h).some)),
    found.lies,
  )
