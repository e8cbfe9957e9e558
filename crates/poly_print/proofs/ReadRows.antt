-- Reading a row back, column by column.
use Rattle.std.proofs.Common.{◌≡◌, ◌≢◌, ℕ, ◌+◌, ◌%◌, ◌^◌, ◌<◌, ◌≤◌, inl, inr, Bool, true, List, [], ◌∷◌, ◌++◌, length, map, get_or, refl, sym, ap, subst, ◌∙◌, append_assoc, append-nil, mod-eq_of_lt, arith}
use Rattle.std.specs.Prelude.{codes}
use Rattle.std.specs.List.{join_with_byte}
use Rattle.std.specs.Fmt.{decimal}
use Rattle.std.proofs.lemmas.Bool.{cases_eq}
use Rattle.zeta_model.specs.declared.Letter.{Letter}
use Rattle.sparse_rows.specs.Entries.{IsRow, IsBelow, AllIn}
use Rattle.poly_print.specs.Polynomials.{monomial_text, term_text, residue_pairs, IsTextOf}
use Rattle.poly_print.specs.Inner.{behind_first, EndsTerm, IsTermAt}
use Rattle.poly_print.proofs.TextLemmas.{behind_text, join-cons}
use Rattle.poly_print.proofs.MonomialTexts.{monomial_text-injective}
use Rattle.poly_print.proofs.RowTexts.{HaveTexts, monomial_is_free, no_term}

ends_term : (xs : List (List ℕ)) → EndsTerm (behind_text 43 xs)
ends_term [] = tt
ends_term (x ∷ xs) = refl

behind_join : (xs : List (List ℕ)) → behind_first (behind_text 43 xs) ≡ join_with_byte 43 xs
behind_join [] = refl
behind_join (x ∷ xs) = sym (join-cons 43 x xs)

-- p is the row so far and pairs from a column on, whose text is left
pub record Left {E : Type 0} (none : E) (has : E → Bool) (value : E
    → ℕ) (columns : List (List (List Letter))) (p row : List (ℕ × E)) (rest : List ℕ) (col : ℕ) : Type 0 where
  pub more : List (ℕ × E)
  pub whole : p ≡ row ++ more
  pub later : IsRow (λ c. c) none col more
  pub below : IsBelow (λ c. c) (length columns) more
  pub in_ring : AllIn has more
  pub left : rest ≡ join_with_byte 43 (map (term_text columns) (residue_pairs (λ c. c) value more))

module _ {E : Type 0} (none : E) (has : E → Bool) (value : E → ℕ) (m : ℕ) (small : m < 2 ^ 64) (value_zero : value none ≡ 0) (has_zero : has none
    ≡ true) (value_below : (a : E) → has a ≡ true → value a < m) (value_injective : (a b : E) → has a ≡ true → has b ≡ true → value a ≡ value b → a ≡ b)
    (columns : List (List (List Letter))) (texts : HaveTexts columns) where
  abbrev terms : List (ℕ × E) → List (List ℕ)
  terms es = map (term_text columns) (residue_pairs (λ c. c) value es)

  abbrev pub text_at : ℕ → List ℕ
  text_at col = monomial_text (get_or columns col [])

  abbrev IsLeft : List (ℕ × E) → List (ℕ × E) → List ℕ → ℕ → Type 0
  IsLeft q row rest col = Left none has value columns q row rest col

  pub left-begin : (p : List (ℕ × E)) (text rest : List ℕ) → IsTextOf none has value columns p text → (text ≡ codes "0" → rest ≡ []) → ((text ≡ codes "0"
      → ⊥) → rest ≡ text) → IsLeft p [] rest 0
  left-begin [] text rest t f g = record { more = []; whole = refl; later = tt; below = tt; in_ring = tt; left = f t.prints }
  left-begin (e ∷ es) text rest t f g = record {
    more = e ∷ es;
    whole = refl;
    later = t.pairs;
    below = t.below;
    in_ring = t.in_ring;
    left = g (λ z. no_term columns (e.0, value e.1) (residue_pairs (λ c. c) value es) (sym z ∙ t.prints)) ∙ t.prints;
  }

  -- the next pair stands at the front of what is left
  first_term : (e : ℕ × E) (es : List (ℕ × E)) (rest : List ℕ) → (e.0 < length columns) → has e.1 ≡ true → rest ≡ join_with_byte 43 (terms (e ∷ es))
      → IsTermAt (value e.1) (text_at e.0) (behind_text 43 (terms es)) rest
  first_term e es rest b i h = record {
    small = let v = value_below e.1 i in omega arith;
    free = monomial_is_free columns texts (get_or columns e.0 []) (texts.each e.0 b);
    ends = ends_term (terms es);
    whole = h ∙ join-cons 43 (term_text columns (e.0, value e.1)) (terms es)
        ∙ append_assoc (decimal (value e.1)) (42 ∷ text_at e.0) (behind_text 43 (terms es));
  }

  same_column : (i j : ℕ) → i < length columns → j < length columns → text_at i ≡ text_at j → i ≡ j
  same_column i j a b e = texts.apart i j a b (monomial_text-injective (get_or columns i []) (get_or columns j []) (texts.each i a) (texts.each j b) e)

  -- a term of the column is found
  module _ (col : ℕ) (within : col < length columns) (rest behind : List ℕ) (r : ℕ) (some : 0 < length rest)
      (found : (s : ℕ) (text tail : List ℕ) → IsTermAt s text tail rest → (text ≡ text_at col) × (r ≡ s) × (behind ≡ behind_first tail))
      (a : E) (in_ring : has a ≡ true) (is : value a ≡ r % m) where
    taken : (p row more : List (ℕ × E)) → p ≡ row ++ more → IsRow (λ c. c) none col more → IsBelow (λ c. c) (length columns) more → AllIn has more → rest
        ≡ join_with_byte 43 (terms more) → (a ≢ none) × IsLeft p (row ++ (col, a) ∷ []) behind (col + 1)
    taken p row [] w l b i h = absurd (omega (arith, ap length h))
    taken p row (e ∷ es) w l b i h =
        let f = found (value e.1) (text_at e.0) (behind_text 43 (terms es)) (first_term e es rest b.0 i.0 h) in
        let at : e.0 ≡ col = same_column e.0 col b.0 within f.0 in
        let v : value e.1 < m = value_below e.1 i.0 in
        let same : value a ≡ value e.1 = is ∙ ap (λ n. n % m) f.1 ∙ mod-eq_of_lt v in
        let element : a ≡ e.1 = value_injective a e.1 in_ring i.0 same in (
          λ z. l.1 (sym element ∙ z),
          record {
            more = es;
            whole = w ∙ (λ k. row ++ (at k, sym element k) ∷ es) ∙ sym (append_assoc row ((col, a) ∷ []) es);
            later = subst (λ c. IsRow (λ c. c) none (c + 1) es) at l.2;
            below = b.1;
            in_ring = i.1;
            left = f.2 ∙ behind_join (terms es);
          },
        )

    pub left-taken : (p row : List (ℕ × E)) → IsLeft p row rest col → (a ≢ none) × IsLeft p (row ++ (col, a) ∷ []) behind (col + 1)
    left-taken p row l = taken p row l.more l.whole l.later l.below l.in_ring l.left

  -- no term of the column is found
  module _ (col : ℕ) (rest : List ℕ) (missing : (s : ℕ) (text tail : List ℕ) → IsTermAt s text tail rest → text ≡ text_at col → ⊥) where
    later : (more : List (ℕ × E)) → IsRow (λ c. c) none col more → IsBelow (λ c. c) (length columns) more → AllIn has more → rest
        ≡ join_with_byte 43 (terms more) → IsRow (λ c. c) none (col + 1) more
    later [] l b i h = tt
    later (e ∷ es) l b i h =
        let n : e.0 ≡ col → ⊥ = λ z. missing (value e.1) (text_at e.0) (behind_text 43 (terms es)) (first_term e es rest b.0 i.0 h) (ap text_at z) in
        (elim (cases_eq e.0 col) [ inl z ↦ absurd (n z) | inr z ↦ omega (arith, l.0) ], l.1, l.2)

    pub left-missing : (p row : List (ℕ × E)) → IsLeft p row rest col → IsLeft p row rest (col + 1)
    left-missing p row l = record {
      more = l.more;
      whole = l.whole;
      below = l.below;
      in_ring = l.in_ring;
      left = l.left;
      later = later l.more l.later l.below l.in_ring l.left;
    }

  nothing : (col : ℕ) (more : List (ℕ × E)) → length columns ≤ col → IsRow (λ c. c) none col more → IsBelow (λ c. c) (length columns) more → more ≡ []
  nothing col [] h l b = refl
  nothing col (e ∷ es) h l b = absurd (omega (arith, l.0, b.0))

  pub left-end : (p row : List (ℕ × E)) (rest : List ℕ) (col : ℕ) → length columns ≤ col → IsLeft p row rest col → p ≡ row
  left-end p row rest col h l = l.whole ∙ ap (λ more. row ++ more) (nothing col l.more h l.later l.below) ∙ append-nil row
