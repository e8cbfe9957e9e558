-- Steps of `gathered`: the row of the sums below a column.
use Rattle.std.proofs.Common.{◌≡◌, ◌≢◌, ℕ, ◌+◌, ◌%◌, ◌<◌, ◌≤◌, ◌⊎◌, List, [], ◌∷◌, ◌++◌, Bool, true, false, IsTrue, cond, eqb, inl, inr, sym, ◌∙◌, ap}
use Rattle.std.proofs.Common.{subst, arith}
use Rattle.std.proofs.lemmas.Bool.{cases_eq, eq-eqb, ne_eqb}
use Rattle.sparse_rows.specs.Entries.{IsRow, IsBelow, AllIn}
use Rattle.sparse_rows.proofs.EntryLemmas.{entry_of-append, IsRow-append, IsBelow-append, AllIn-append, below_more}
use Rattle.sparse_rows.specs.Entries.{entry_of}

-- a test is not both
pub true_or_false : (b : Bool) → IsTrue b → b ≡ false → ⊥
true_or_false true t f = absurd (let e : true ≡ false = f in cc)
true_or_false false t f = absurd (let e : false ≡ true = t in cc)

-- the row has the residues of the sums below the column, and nothing from there on
pub record Gathering {E : Type 0} (m : ℕ) (has : E → Bool) (value : E → ℕ) (zero : E) (sums : ℕ → ℕ) (column : ℕ) (row : List (ℕ × E)) : Type 0 where
  pub is_row : IsRow (λ k. k) zero 0 row
  pub below : IsBelow (λ k. k) column row
  pub in_ring : AllIn has row
  pub before : (q : ℕ) → q < column → entry_of (λ k. k) value row q ≡ sums q % m
  pub behind : (q : ℕ) → column ≤ q → entry_of (λ k. k) value row q ≡ 0

module _ {E : Type 0} (m : ℕ) (has : E → Bool) (value : E → ℕ) (zero : E) (sums : ℕ
    → ℕ) (column key : ℕ) (row : List (ℕ × E)) (a : E) (is_key : key ≡ column)
    (kept : Gathering m has value zero sums column row) (a_in : has a ≡ true) (a_is : value a ≡ sums column % m) where
  -- a residue that is not zero is put behind the others
  pub gathered_more : (new : List (ℕ × E)) → new ≡ row ++ (key, a) ∷ [] → a ≢ zero → Gathering m has value zero sums (column + 1) new
  gathered_more new is nonzero =
      let here : entry_of (λ k. k) value new ≡ entry_of (λ k. k) value (row ++ (column, a) ∷ []) = λ i. entry_of (λ k. k) value ((is ∙ ap (λ k. row ++ (k, a) ∷ []) is_key) i) in
      let made : new ≡ row ++ (column, a) ∷ [] = is ∙ ap (λ k. row ++ (k, a) ∷ []) is_key in
      record {
        is_row = subst (IsRow (λ k. k) zero 0) (sym made) (IsRow-append (λ k. k) zero 0 column a row (omega arith) kept.is_row kept.below nonzero);
        below = subst (IsBelow (λ k. k) (column + 1)) (sym made) (IsBelow-append (λ k. k) (column + 1) column a row kept.below (omega arith));
        in_ring = subst (AllIn has) (sym made) (AllIn-append (λ k. k) has column a row kept.in_ring a_in);
        before = λ q l. ap (λ f. f q) here ∙ entry_of-append (λ k. k) value row column a q ∙ at q l (cases_eq q column);
        behind = λ q l. let other : column ≢ q = omega arith in
            ap (λ f. f q) here ∙ entry_of-append (λ k. k) value row column a q
            ∙ ap (λ b. entry_of (λ k. k) value row q + cond b (value a) 0) (ne_eqb column q other) ∙ omega (arith, kept.behind q (omega arith));
      }
    where
      at : (q : ℕ) → q < column + 1 → ((q ≡ column) ⊎ (q ≢ column)) → entry_of (λ k. k) value row q + cond (eqb column q) (value a) 0 ≡ sums q % m
      at q l (inl e) = ap (λ b. entry_of (λ k. k) value row q + cond b (value a) 0) (eq-eqb column q (sym e))
          ∙ omega (arith, kept.behind q (omega arith), a_is ∙ ap (λ k. sums k % m) (sym e))
      at q l (inr ne) = let other : column ≢ q = λ e. ne (sym e) in
          ap (λ b. entry_of (λ k. k) value row q + cond b (value a) 0) (ne_eqb column q other) ∙ omega (arith, kept.before q (omega arith))

  -- a zero is left out
  pub gathered_none : value a ≡ 0 → Gathering m has value zero sums (column + 1) row
  gathered_none none = record {
    is_row = kept.is_row;
    below = below_more (λ k. k) column (column + 1) row (omega arith) kept.below;
    in_ring = kept.in_ring;
    before = λ q l. at q l (cases_eq q column);
    behind = λ q l. kept.behind q (omega arith);
  }
    where
      at : (q : ℕ) → q < column + 1 → ((q ≡ column) ⊎ (q ≢ column)) → entry_of (λ k. k) value row q ≡ sums q % m
      at q l (inl e) = kept.behind q (omega arith) ∙ sym none ∙ a_is ∙ ap (λ k. sums k % m) (sym e)
      at q l (inr ne) = kept.before q (omega arith)
