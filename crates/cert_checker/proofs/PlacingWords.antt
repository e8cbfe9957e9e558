-- Words of a sum that are put at their places, one after the other.
use Rattle.std.proofs.Common.{◌≡◌, ℕ, ◌+◌, ◌*◌, ◌%◌, ◌<◌, ◌≤◌, Bool, true, false, cond, eqb, Option, Some, None, List, [], ◌∷◌, ◌++◌, map, length, slice_get, get_or, ◌⊎◌, inl, inr, sym, ◌∙◌, ap, subst, arith}
use Rattle.std.specs.Prelude.{◌↔◌}
use Rattle.std.specs.Map.{values_of}
use Rattle.std.proofs.lemmas.Bool.{cases_eq, cases_lt, eq-eqb, ne_eqb}
use Rattle.std.proofs.lemmas.List.{length-map, length-append, get_or_append_left}
use Rattle.std.proofs.Math.Seq.{get_or-append_seam}
use Rattle.std.proofs.lemmas.List.Elements.{All-head, All-tail}
use Rattle.std.proofs.lemmas.Option.{slice_get_within, slice_get-get_or}
use Rattle.zeta_model.specs.declared.Letter.{Letter}
use Rattle.zeta_model.specs.Sums.{Sum, single}
use Rattle.zeta_model.proofs.ModularLemmas.{same-mod}
use Rattle.zeta_model.proofs.ProductWords.{single-other}
use Rattle.zeta_model.proofs.WordOrder.{same_word-itself}
use Rattle.word_sums.specs.Terms.{coefficient_of, AllIn as AllTermsIn}
use Rattle.word_sums.specs.Sums.{IsSumOf}
use Rattle.sparse_rows.specs.Entries.{IsBelow, AllIn}
use Rattle.sparse_rows.proofs.EntryLemmas.{entry_of-append, AllIn-append}
use Rattle.lyndon_words.specs.Lyndon.{joined}
use Rattle.column_order.specs.Columns.{ColumnList}
use Rattle.column_order.proofs.WordPlaces.{word_at_place}
use Rattle.table_model.specs.MonomialWords.{column_at, words_of_monomial}
use Rattle.echelon.specs.Lists.{entries_of}
use Rattle.cert_checker.specs.Inner.{word_at, IsPlaced}

abbrev Word : Type 0
Word = List Letter

-- the last pair may be any below the bound
below-append : {E : Type 0} (high : ℕ) (k : ℕ) (a : E) (es : List (ℕ × E)) → IsBelow (λ k. k) high es → k < high
    → IsBelow (λ k. k) high (es ++ (k, a) ∷ [])
below-append high k a [] b l = (l, tt)
below-append high k a (e ∷ es) b l = (b.0, below-append high k a es b.1 l)

module _ (columns : ColumnList) (w : Word) (place : Option ℕ) (told : (i : ℕ) → (place ≡ Some i) ↔ (slice_get (map joined columns.list) i ≡ Some w)) where
  word_here : (i : ℕ) → i < length columns.list → word_at columns i ≡ w → place ≡ Some i
  word_here i l e = (told i).1 (word_at_place columns.list i (column_at columns.list i) (slice_get-get_or columns.list i [] l) ∙ ap (λ x. Some x) e)

  pub place_within : (i : ℕ) → place ≡ Some i → i < length columns.list
  place_within i e = omega (arith, slice_get_within (map joined columns.list) i w ((told i).0 e), length-map columns.list joined)

  word_there : (i : ℕ) → place ≡ Some i → word_at columns i ≡ w
  word_there i e =
      let here : Some (word_at columns i) ≡ Some w =
      sym (word_at_place columns.list i (column_at columns.list i) (slice_get-get_or columns.list i [] (place_within i e))) ∙ (told i).0 e in cc

  -- a word has its own place
  pub single-placed : (i q : ℕ) → place ≡ Some i → q < length columns.list → single w (word_at columns q) ≡ cond (eqb i q) 1 0
  single-placed i q e l = elim (cases_eq i q) [
    | inl same ↦
        ap (λ t. single w t) (ap (word_at columns) (sym same) ∙ word_there i e) ∙ ap (λ b. cond b 1 0) (same_word-itself w)
        ∙ ap (λ b. cond b 1 0) (sym (eq-eqb i q same))
    | inr other ↦
        single-other w (word_at columns q) (λ is. let same : Some i ≡ Some q = sym e ∙ word_here q l is in other cc)
        ∙ ap (λ b. cond b 1 0) (sym (ne_eqb i q other))
  ]

  -- a word without a place is at none
  pub single-nowhere : (q : ℕ) → place ≡ None → q < length columns.list → single w (word_at columns q) ≡ 0
  single-nowhere q e l =
      single-other w (word_at columns q) (λ is. let both : ◌≡◌ {A = Option ℕ} None (Some q) = sym e ∙ word_here q l is in cc)

module _ {E : Type 0} (has : E → Bool) (value : E → ℕ) (columns : ColumnList) (all : List (Word × E)) where
  -- what is placed, with what is left to place, gives the words what all terms give them
  pub record PlacingWords (placed : List (ℕ × E)) (rest : List (Word × E)) : Type 0 where
    pub below : IsBelow (λ k. k) (length columns.list) placed
    pub in_ring : AllIn has placed
    pub rest_in : AllTermsIn has rest
    pub same : (q : ℕ) → q < length columns.list
        → entries_of value placed q + coefficient_of value rest (word_at columns q) ≡ coefficient_of value all (word_at columns q)

  pub placing-start : AllTermsIn has all → PlacingWords [] all
  placing-start in_ring = record { below = tt; in_ring = tt; rest_in = in_ring; same = λ q l. omega arith }

  module _ (placed : List (ℕ × E)) (before rest : List (Word × E)) (w : Word) (a : E) (is : before ≡ (w, a) ∷ rest) (kept : PlacingWords placed before)
      (place : Option ℕ) (told : (i : ℕ) → (place ≡ Some i) ↔ (slice_get (map joined columns.list) i ≡ Some w)) where
    begun : PlacingWords placed ((w, a) ∷ rest)
    begun = subst (PlacingWords placed) is kept

    pub placing-more : (i k : ℕ) (new : List (ℕ × E)) → place ≡ Some i → k ≡ i → new ≡ placed ++ (k, a) ∷ [] → PlacingWords new rest
    placing-more i k new e same made =
        let there : new ≡ placed ++ (i, a) ∷ [] = made ∙ ap (λ x. placed ++ (x, a) ∷ []) same in
        subst (λ es. PlacingWords es rest) (sym there) (record {
          below = below-append (length columns.list) i a placed begun.below (place_within columns w place told i e);
          in_ring = AllIn-append (λ k. k) has i a placed begun.in_ring (All-head (λ b. has b ≡ true) a (values_of rest) begun.rest_in);
          rest_in = All-tail (λ b. has b ≡ true) a (values_of rest) begun.rest_in;
          same = λ q l.
              let one : single w (word_at columns q) ≡ cond (eqb i q) 1 0 = single-placed columns w place told i q e l in
              let more : entries_of value (placed ++ (i, a) ∷ []) q ≡ entries_of value placed q + cond (eqb i q) (value a) 0 =
              entry_of-append (λ k. k) value placed i a q in
              let times : value a * single w (word_at columns q) ≡ cond (eqb i q) (value a) 0 = ap (λ x. value a * x) one ∙ choose (eqb i q) (value a) in
              omega (arith, begun.same q l);
        })
      where
        choose : (b : Bool) (v : ℕ) → v * cond b 1 0 ≡ cond b v 0
        choose true v = omega arith
        choose false v = omega arith

    pub placing-none : place ≡ None → PlacingWords placed rest
    placing-none e = record {
      below = begun.below;
      in_ring = begun.in_ring;
      rest_in = All-tail (λ b. has b ≡ true) a (values_of rest) begun.rest_in;
      same = λ q l.
          let none : value a * single w (word_at columns q) ≡ 0 = ap (λ x. value a * x) (single-nowhere columns w place told q e l) ∙ omega arith in
          omega (arith, begun.same q l);
    }

  pub placing-end : (m : ℕ) (nought : E) (placed : List (ℕ × E)) (rest : List (Word × E)) → rest ≡ [] → PlacingWords placed rest
      → (s : Sum) → IsSumOf nought has value m s all → IsPlaced m has value columns s placed
  placing-end m nought placed rest none kept s is = record {
    below = kept.below;
    in_ring = kept.in_ring;
    same = λ q l.
        let t : Word = word_at columns q in
        let all_of : entries_of value placed q ≡ coefficient_of value all t =
        (let e : entries_of value placed q ≡ entries_of value placed q + 0 = omega arith in e)
        ∙ ap (λ es. entries_of value placed q + coefficient_of value es t) (sym none) ∙ kept.same q l in
        ap (λ x. x % m) (all_of ∙ is.coefficients t) ∙ same-mod m (s t);
  }

-- what holds at each place, and of one more at the end, holds at each place
pub each-push : {A : Type 0} (P : ℕ → A → Type 0) (d : A) (xs : List A) (x : A) (new : List A) → ((i : ℕ) → i < length xs → P i (get_or xs i d))
    → P (length xs) x → new ≡ xs ++ x ∷ [] → (i : ℕ) → i < length new → P i (get_or new i d)
each-push P d xs x new each last is i l = subst (λ ys. P i (get_or ys i d)) (sym is) (by (cases_lt i (length xs)))
  where
    by : (i < length xs) ⊎ (length xs ≤ i) → P i (get_or (xs ++ x ∷ []) i d)
    by (inl h) = subst (P i) (sym (get_or_append_left xs (x ∷ []) d i h)) (each i h)
    by (inr h) =
        let end : i ≡ length xs = omega (arith, h, l, ap length is, length-append xs (x ∷ [])) in
        subst (λ k. P k (get_or (xs ++ x ∷ []) k d)) (sym end) (subst (P (length xs)) (sym (get_or-append_seam xs x [] d)) last)

-- the words of one column more
pub column_words-push : {E : Type 0} (m : ℕ) (has : E → Bool) (value : E
    → ℕ) (columns : ColumnList) (words : List (List (ℕ × E))) (i : ℕ) (placed : List (ℕ × E))
    (new : List (List (ℕ × E))) → length words ≡ i
    → ((k : ℕ) → k < length words → IsPlaced m has value columns (words_of_monomial (column_at columns.list k)) (get_or words k []))
    → IsPlaced m has value columns (words_of_monomial (column_at columns.list i)) placed → new ≡ words ++ placed ∷ []
    → (k : ℕ) → k < length new → IsPlaced m has value columns (words_of_monomial (column_at columns.list k)) (get_or new k [])
column_words-push m has value columns words i placed new count each last is =
    each-push (λ k placed. IsPlaced m has value columns (words_of_monomial (column_at columns.list k)) placed) [] words placed new each
    (subst (λ k. IsPlaced m has value columns (words_of_monomial (column_at columns.list k)) placed) (sym count) last) is
