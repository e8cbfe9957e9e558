-- The text of a row determines its pairs.
use Rattle.std.proofs.Common.{◌≡◌, ℕ, ◌+◌, ◌^◌, ◌<◌, ◌≤◌, ◌⊎◌, inl, inr, List, [], ◌∷◌, ◌++◌, length, map, get_or, refl, sym, ◌∙◌, append_assoc, arith}
use Rattle.std.specs.Prelude.{codes}
use Rattle.std.proofs.lemmas.Bool.{cases_eq, cases_lt}
use Rattle.std.specs.List.{AllByRecursion, join_with_byte}
use Rattle.std.specs.Fmt.{decimal}
use Rattle.std.proofs.lemmas.Fmt.{decimal_injective}
use Rattle.std.proofs.lemmas.List.{length-append}
use Rattle.std.proofs.lemmas.List.Elements.{Contains-get_or}
use Rattle.zeta_model.specs.declared.Letter.{Letter}
use Rattle.zeta_model.proofs.WordLemmas.{admissible-ends}
use Rattle.lyndon_words.specs.Lyndon.{joined}
use Rattle.lyndon_words.specs.Monomials.{AllAdmissible}
use Rattle.lyndon_words.proofs.Factorising.{length-monomial}
use Rattle.column_order.specs.Columns.{IsColumn, IsColumnList}
use Rattle.column_order.specs.LeadOrder.{lead_cmp}
use Rattle.column_order.proofs.Distinct.{AllDistinct-from_sorted, AllDistinct-apart}
use Rattle.column_order.proofs.LeadLaws.{Leads-irreflexive}
use Rattle.poly_print.specs.Polynomials.{monomial_text, term_text, row_text, ArePairs}
use Rattle.poly_print.proofs.CutTexts.{IsFree, free_append, cut, never, join_same, decimal_free}
use Rattle.poly_print.proofs.MonomialTexts.{IsPrinted, HasText, no_digit, monomial_text-injective, monomial_free}

-- the monomials of some columns have texts, and no two are one
pub record HaveTexts (columns : List (List (List Letter))) : Type 0 where
  pub each : (col : ℕ) → col < length columns → HasText (get_or columns col [])
  pub apart : (i j : ℕ) → i < length columns → j < length columns → get_or columns i [] ≡ get_or columns j [] → i ≡ j

less_or_more : (i j : ℕ) → (i ≡ j) ⊎ ((i < j) ⊎ (j < i))
less_or_more i j = elim (cases_eq i j) [ inl e ↦ inl e | inr n ↦ inr (elim (cases_lt i j) [ inl l ↦ inl l | inr g ↦ inr (omega arith) ]) ]

printed : (us : List (List Letter)) → AllAdmissible us → length (joined us) ≤ 24 → AllByRecursion IsPrinted us
printed [] h l = tt
printed (u ∷ us) h l =
    let s = length-append u (joined us) in
    (record { ends = admissible-ends u h.0; light = omega arith }, printed us h.1 (omega arith))

some_factor : (p : List (List Letter)) → 2 ≤ length (joined p) → 0 < length p
some_factor [] h = absurd (omega arith)
some_factor (u ∷ us) h = omega arith

column_has_text : (w d : ℕ) (p : List (List Letter)) → 2 ≤ w → IsColumn w d p → HasText p
column_has_text w d p h c =
    let few = length-monomial p c.monomial in
    let l : length (joined p) ≤ 24 = c.monomial.within in
    let e : length (joined p) ≡ w = c.weight in
    record { some = some_factor p (omega arith); few = omega arith; words = printed p c.monomial.admissible l }

pub columns_have_texts : (ranks : List Letter → ℕ) (w d : ℕ) (columns : List (List (List Letter))) → 2 ≤ w → IsColumnList ranks w d columns
    → HaveTexts columns
columns_have_texts ranks w d columns h c = record {
  each = λ col l. column_has_text w d (get_or columns col []) h ((c.whole (get_or columns col [])).0 (Contains-get_or columns col [] l));
  apart = λ i j a b e.
      let distinct = AllDistinct-from_sorted (lead_cmp ranks) (Leads-irreflexive ranks) columns c.in_order in
      elim (less_or_more i j) [
        | inl s ↦ s
        | inr d ↦ elim d [
          | inl l ↦ absurd (AllDistinct-apart columns i j [] distinct l b e)
          | inr g ↦ absurd (AllDistinct-apart columns j i [] distinct g a (sym e))
        ]
      ];
}

-- a star stands in the text of some pairs
pub starred : (columns : List (List (List Letter))) (e : ℕ × ℕ) (es : List (ℕ × ℕ)) → (b : List ℕ) × (row_text columns (e ∷ es) ≡ decimal e.1 ++ 42 ∷ b)
starred columns e [] = (monomial_text (get_or columns e.0 []), refl)
starred columns e (f ∷ fs) =
    let rest = join_with_byte 43 (map (term_text columns) (f ∷ fs)) in
    (monomial_text (get_or columns e.0 []) ++ 43 ∷ rest, append_assoc (decimal e.1) (42 ∷ monomial_text (get_or columns e.0 [])) (43 ∷ rest))

-- some pairs do not print 0
pub no_term : (columns : List (List (List Letter))) (e : ℕ × ℕ) (es : List (ℕ × ℕ)) → codes "0" ≡ row_text columns (e ∷ es) → ⊥
no_term columns e es q = let s = starred columns e es in never 42 (codes "0") (decimal e.1) s.0 ((λ h. absurd (omega arith)), tt) (q ∙ s.1)

module _ (columns : List (List (List Letter))) (texts : HaveTexts columns) where
  -- a column and a residue that are printed
  abbrev IsTerm : ℕ × ℕ → Type 0
  IsTerm e = (e.0 < length columns) × (e.1 < 2 ^ 64)

  pub monomial_is_free : (p : List (List Letter)) → HasText p → IsFree 43 (monomial_text p)
  monomial_is_free [] h = tt
  monomial_is_free (u ∷ us) h = monomial_free u us h

  term_free : (e : ℕ × ℕ) → IsTerm e → IsFree 43 (term_text columns e)
  term_free e h = free_append 43 (decimal e.1) (42 ∷ monomial_text (get_or columns e.0 [])) (decimal_free 43 e.1 (no_digit 43 (omega arith)) h.1)
      ((λ q. cc), monomial_is_free (get_or columns e.0 []) (texts.each e.0 h.0))

  terms_free : (es : List (ℕ × ℕ)) → AllByRecursion IsTerm es → AllByRecursion (IsFree 43) (map (term_text columns) es)
  terms_free [] h = tt
  terms_free (e ∷ es) h = (term_free e h.0, terms_free es h.1)

  term_same : (e f : ℕ × ℕ) → IsTerm e → IsTerm f → term_text columns e ≡ term_text columns f → e ≡ f
  term_same e f h k q =
      let star = no_digit 42 (omega arith) in
      let c = cut 42 (decimal e.1) (decimal f.1) (monomial_text (get_or columns e.0 [])) (monomial_text (get_or columns f.0 []))
      (decimal_free 42 e.1 star h.1) (decimal_free 42 f.1 star k.1) q in
      let a = decimal_injective e.1 f.1 h.1 k.1 c.0 in
      let b = texts.apart e.0 f.0 h.0 k.0 (monomial_text-injective (get_or columns e.0 []) (get_or columns f.0 []) (texts.each e.0 h.0)
      (texts.each f.0 k.0) c.1) in
      λ i. (b i, a i)

  terms_same : (es fs : List (ℕ × ℕ)) → AllByRecursion IsTerm es → AllByRecursion IsTerm fs → map (term_text columns) es ≡ map (term_text columns) fs
      → es ≡ fs
  terms_same [] [] h k e = refl
  terms_same [] (f ∷ fs) h k e = cc
  terms_same (e ∷ es) [] h k q = cc
  terms_same (e ∷ es) (f ∷ fs) h k q =
      let s : term_text columns e ≡ term_text columns f = cc in
      let t : map (term_text columns) es ≡ map (term_text columns) fs = cc in
      let u = term_same e f h.0 k.0 s in
      let v = terms_same es fs h.1 k.1 t in
      λ i. u i ∷ v i

  text_same : (es fs : List (ℕ × ℕ)) → AllByRecursion IsTerm es → AllByRecursion IsTerm fs → row_text columns es ≡ row_text columns fs → es ≡ fs
  text_same [] [] h k e = refl
  text_same [] (f ∷ fs) h k q = absurd (no_term columns f fs q)
  text_same (e ∷ es) [] h k q = absurd (no_term columns e es (sym q))
  text_same (e ∷ es) (f ∷ fs) h k q = terms_same (e ∷ es) (f ∷ fs) h k (join_same 43 (term_text columns e) (term_text columns f) (map
      (term_text columns) es) (map (term_text columns) fs) (terms_free (e ∷ es) h) (terms_free (f ∷ fs) k) q)

  pairs_are_terms : (m low : ℕ) (es : List (ℕ × ℕ)) → m < 2 ^ 64 → ArePairs m (length columns) low es → AllByRecursion IsTerm es
  pairs_are_terms m low [] h a = tt
  pairs_are_terms m low (e ∷ es) h (a, b, c, d, r) = ((b, omega arith), pairs_are_terms m (e.0 + 1) es h r)

  pub row_text-injective : (m : ℕ) (es fs : List (ℕ × ℕ)) → m < 2 ^ 64 → ArePairs m (length columns) 0 es → ArePairs m (length columns) 0 fs
      → row_text columns es ≡ row_text columns fs → es ≡ fs
  row_text-injective m es fs h a b q = text_same es fs (pairs_are_terms m 0 es h a) (pairs_are_terms m 0 fs h b) q
