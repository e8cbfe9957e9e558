-- Steps of `named`: factors, one for each number of a rising list, as pairs.
use Rattle.std.proofs.Common.{◌≡◌, ◌≢◌, ℕ, ◌+◌, ◌<◌, ◌≤◌, ◌⊎◌, List, [], ◌∷◌, ◌++◌, length, get_or, Bool, true, cond, eqb, inl, inr, refl, sym, ◌∙◌}
use Rattle.std.proofs.Common.{ap, subst, arith}
use Rattle.std.proofs.lemmas.Bool.{cases_eq, eq-eqb, ne_eqb}
use Rattle.sparse_rows.specs.Entries.{IsRow, IsBelow, AllIn}
use Rattle.sparse_rows.proofs.EntryLemmas.{entry_of-append, IsRow-append, IsBelow-append, AllIn-append}
use Rattle.echelon.specs.Lists.{entries_of}

-- the pairs have the factors of the first k numbers, and nothing at any other number
pub record Naming {E : Type 0} (has : E → Bool) (value : E → ℕ) (zero : E) (numbers : List ℕ) (factors : ℕ → ℕ) (k : ℕ) (uses : List (ℕ × E)) : Type 0 where
  pub is_row : IsRow (λ k. k) zero 0 uses
  pub below : (j : ℕ) → k ≤ j → j < length numbers → IsBelow (λ k. k) (get_or numbers j 0) uses
  pub in_ring : AllIn has uses
  pub at : (i : ℕ) → i < k → entries_of value uses (get_or numbers i 0) ≡ factors i
  pub none : (q : ℕ) → ((i : ℕ) → i < k → get_or numbers i 0 ≢ q) → entries_of value uses q ≡ 0

module _ {E : Type 0} (has : E → Bool) (value : E → ℕ) (zero : E) (numbers : List ℕ) (factors : ℕ → ℕ) (k number : ℕ) (uses : List (ℕ × E)) (a : E)
    (rising : (i j : ℕ) → i < j → j < length numbers → get_or numbers i 0 < get_or numbers j 0)
    (inside : k < length numbers) (is_number : number ≡ get_or numbers k 0) (kept : Naming has value zero numbers factors k uses) (a_in : has a ≡ true)
    (a_is : value a ≡ factors k) where
  fresh : (i : ℕ) → i < k → get_or numbers i 0 ≢ get_or numbers k 0
  fresh i l e = absurd (omega (arith, rising i k l inside))

  -- a factor that is not zero is put behind the others
  pub named_more : (new : List (ℕ × E)) → new ≡ uses ++ (number, a) ∷ [] → a ≢ zero → Naming has value zero numbers factors (k + 1) new
  named_more new is nonzero =
      let key = get_or numbers k 0 in
      let made : new ≡ uses ++ (key, a) ∷ [] = is ∙ ap (λ n. uses ++ (n, a) ∷ []) is_number in
      let entry : (q : ℕ) → entries_of value new q ≡ entries_of value uses q + cond (eqb key q) (value a) 0 =
      λ q. ap (λ es. entries_of value es q) made ∙ entry_of-append (λ k. k) value uses key a q in
      record {
        is_row = subst (IsRow (λ k. k) zero 0) (sym made)
            (IsRow-append (λ k. k) zero 0 key a uses (omega arith) kept.is_row (kept.below k (omega arith) inside) nonzero);
        below = λ j l h. subst (IsBelow (λ k. k) (get_or numbers j 0)) (sym made)
            (IsBelow-append (λ k. k) (get_or numbers j 0) key a uses (kept.below k (omega arith) inside) (rising k j (omega arith) h));
        in_ring = subst (AllIn has) (sym made) (AllIn-append (λ k. k) has key a uses kept.in_ring a_in);
        at = λ i l. entry (get_or numbers i 0) ∙ at_place i l (cases_eq i k);
        none = λ q h. entry q ∙ ap (λ b. entries_of value uses q + cond b (value a) 0) (ne_eqb key q (h k (omega arith)))
            ∙ omega (arith, kept.none q (λ i l. h i (omega arith)));
      }
    where
      at_place : (i : ℕ) → i < k + 1 → ((i ≡ k) ⊎ (i ≢ k))
          → entries_of value uses (get_or numbers i 0) + cond (eqb (get_or numbers k 0) (get_or numbers i 0)) (value a) 0 ≡ factors i
      at_place i l (inl e) =
          subst (λ j. entries_of value uses (get_or numbers j 0) + cond (eqb (get_or numbers k 0) (get_or numbers j 0)) (value a) 0 ≡ factors j) (sym e)
          (ap (λ b. entries_of value uses (get_or numbers k 0) + cond b (value a) 0) (eq-eqb (get_or numbers k 0) (get_or numbers k 0) refl)
          ∙ omega (arith, kept.none (get_or numbers k 0) fresh, a_is))
      at_place i l (inr ne) =
          let early : i < k = omega arith in
          let other : get_or numbers k 0 ≢ get_or numbers i 0 = λ e. fresh i early (sym e) in
          ap (λ b. entries_of value uses (get_or numbers i 0) + cond b (value a) 0) (ne_eqb (get_or numbers k 0) (get_or numbers i 0) other)
          ∙ omega (arith, kept.at i early)

  -- a zero is left out
  pub named_none : value a ≡ 0 → Naming has value zero numbers factors (k + 1) uses
  named_none none = record {
    is_row = kept.is_row;
    below = λ j l h. kept.below j (omega arith) h;
    in_ring = kept.in_ring;
    at = λ i l. at_place i l (cases_eq i k);
    none = λ q h. kept.none q (λ i l. h i (omega arith));
  }
    where
      at_place : (i : ℕ) → i < k + 1 → ((i ≡ k) ⊎ (i ≢ k)) → entries_of value uses (get_or numbers i 0) ≡ factors i
      at_place i l (inl e) = subst (λ j. entries_of value uses (get_or numbers j 0) ≡ factors j) (sym e) (kept.none (get_or numbers k 0) fresh ∙ sym none
          ∙ a_is)
      at_place i l (inr ne) = kept.at i (omega arith)
