-- One more term of a row, as it is printed.
use Rattle.std.proofs.Common.{◌≡◌, ℕ, ◌+◌, ◌<◌, ◌≤◌, Bool, true, false, List, [], ◌∷◌, ◌++◌, length, drop, get_or, refl, sym, ap, subst, ◌∙◌, add-one, append_assoc, append-nil}
use Rattle.std.specs.Prelude.{◌==◌, codes}
use Rattle.std.proofs.Math.Seq.{drop-cons}
use Rattle.std.proofs.Math.ListN.{drop_of_length-le}
use Rattle.zeta_model.specs.declared.Letter.{Letter}
use Rattle.sparse_rows.specs.Entries.{IsBelow, AllIn}
use Rattle.poly_print.specs.Polynomials.{monomial_text, residue_pairs}
use Rattle.fraction_print.specs.FractionTexts.{Coefficient, IsCoefficient, AreCoefficients, is_negative, size_text, sign_text, signed_term, terms_text, fractions_text}
use Rattle.fraction_print.proofs.SomeFractions.{one_coefficient}

-- a coefficient is printed behind its sign
pub coefficient_written : (m c : ℕ) (first : Bool) (k j : Coefficient) (out mid out' : List ℕ) → IsCoefficient m c k → IsCoefficient m c j
    → mid ≡ out ++ sign_text first (is_negative j) → out' ≡ mid ++ size_text j → out' ≡ out ++ (sign_text first (is_negative k) ++ size_text k)
coefficient_written m c first k j out mid out' hk hj e h =
    let same : j ≡ k = one_coefficient m c j k hj hk in
    h ∙ ap (λ l. l ++ size_text j) e ∙ append_assoc out (sign_text first (is_negative j)) (size_text j)
    ∙ ap (λ x. out ++ (sign_text first (is_negative x) ++ size_text x)) same

-- and behind it the monomial
pub term_written : (columns : List (List (List Letter))) (col : ℕ) (first : Bool) (k : Coefficient) (out mid front out' : List ℕ) (p : List (List Letter))
    → mid ≡ out ++ (sign_text first (is_negative k) ++ size_text k) → front ≡ mid ++ codes "*" → get_or columns col [] ≡ p → out' ≡ front ++ monomial_text p
    → out' ≡ out ++ signed_term first columns col k
term_written columns col first k out mid front out' p e f same h =
    let sign : List ℕ = sign_text first (is_negative k) in
    let size : List ℕ = size_text k in
    let mono : List ℕ = monomial_text p in
    h ∙ ap (λ l. l ++ mono) (f ∙ ap (λ l. l ++ codes "*") e)
    ∙ append_assoc (out ++ (sign ++ size)) (codes "*") mono ∙ append_assoc out (sign ++ size) (codes "*" ++ mono)
    ∙ ap (λ l. out ++ l) (append_assoc sign size (codes "*" ++ mono))
    ∙ ap (λ q. out ++ (sign ++ (size ++ (codes "*" ++ monomial_text q)))) (sym same)

module _ {E : Type 0} (value : E → ℕ) (has : E → Bool) (columns : List (List (List Letter))) where
  -- what is still to be written of some entries
  abbrev pub rest_terms : Bool → (ℕ → Coefficient) → List (ℕ × E) → List ℕ
  rest_terms first f es = terms_text first columns f (residue_pairs (λ c. c) value es)

  drop-next : (es : List (ℕ × E)) (i : ℕ) (d : ℕ × E) → i < length es → d ≡ get_or es i d → drop i es ≡ d ∷ drop (i + 1) es
  drop-next es i d l q = drop-cons es i d l ∙ (λ j. sym q j ∷ drop (sym (add-one i) j) es)

  pub next-below : (n : ℕ) (es : List (ℕ × E)) (i : ℕ) (d : ℕ × E) → i < length es → d ≡ get_or es i d → IsBelow (λ c. c) n (drop i es)
      → (d.0 < n) × IsBelow (λ c. c) n (drop (i + 1) es)
  next-below n es i d l q h = subst (IsBelow (λ c. c) n) (drop-next es i d l q) h

  pub next-in : (es : List (ℕ × E)) (i : ℕ) (d : ℕ × E) → i < length es → d ≡ get_or es i d → AllIn has (drop i es)
      → (has d.1 ≡ true) × AllIn has (drop (i + 1) es)
  next-in es i d l q h = subst (AllIn has) (drop-next es i d l q) h

  pub term-next : (m : ℕ) (f : ℕ → Coefficient) → AreCoefficients m f → (out out' : List ℕ) (first : Bool) (es : List (ℕ × E)) (i : ℕ) (d : ℕ × E)
      (whole : List ℕ) → i < length es → d ≡ get_or es i d → value d.1 < m
      → ((k : Coefficient) → IsCoefficient m (value d.1) k → out' ≡ out ++ signed_term first columns d.0 k)
      → out ++ rest_terms first f (drop i es) ≡ whole → out' ++ rest_terms false f (drop (i + 1) es) ≡ whole
  term-next m f are out out' first es i d whole l q small e h =
      let rest : List ℕ = rest_terms false f (drop (i + 1) es) in
      ap (λ x. x ++ rest) (e (f (value d.1)) (are (value d.1) small))
      ∙ append_assoc out (signed_term first columns d.0 (f (value d.1))) rest
      ∙ ap (λ xs. out ++ rest_terms first f xs) (sym (drop-next es i d l q)) ∙ h

  -- some terms are the text of the row
  pub some-terms : (f : ℕ → Coefficient) (es : List (ℕ × E)) → (length es == 0) ≡ false
      → rest_terms true f es ≡ fractions_text columns f (residue_pairs (λ c. c) value es)
  some-terms f [] h = cc
  some-terms f (e ∷ es) h = refl

  -- where no entry is left all is written
  pub terms-done : (f : ℕ → Coefficient) (out whole : List ℕ) (first : Bool) (es : List (ℕ × E)) (i : ℕ) → length es ≤ i
      → out ++ rest_terms first f (drop i es) ≡ whole → out ≡ whole
  terms-done f out whole first es i l h = sym (append-nil out) ∙ ap (λ xs. out ++ rest_terms first f xs) (sym (drop_of_length-le es l)) ∙ h
