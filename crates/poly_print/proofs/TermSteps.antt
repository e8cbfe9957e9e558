-- One more term of a row, as it is printed.
use Rattle.std.proofs.Common.{◌≡◌, ℕ, ◌+◌, ◌<◌, Bool, true, false, List, [], ◌∷◌, ◌++◌, length, map, drop, get_or, refl, sym, ap, subst, ◌∙◌, add-one, arith}
use Rattle.std.proofs.Math.Seq.{drop-cons}
use Rattle.zeta_model.specs.declared.Letter.{Letter}
use Rattle.sparse_rows.specs.Entries.{IsBelow, AllIn}
use Rattle.poly_print.specs.Polynomials.{term_text, row_text, residue_pairs}
use Rattle.poly_print.specs.Inner.{behind_byte}
use Rattle.poly_print.proofs.TextLemmas.{rest_text, rest_text-step}

module _ {E : Type 0} (value : E → ℕ) (has : E → Bool) (columns : List (List (List Letter))) where
  -- what is still to be written of some entries
  abbrev pub rest_terms : Bool → List (ℕ × E) → List ℕ
  rest_terms first es = rest_text 43 first (map (term_text columns) (residue_pairs (λ c. c) value es))

  drop-next : (es : List (ℕ × E)) (i : ℕ) (d : ℕ × E) → i < length es → d ≡ get_or es i d → drop i es ≡ d ∷ drop (i + 1) es
  drop-next es i d l q = drop-cons es i d l ∙ (λ j. sym q j ∷ drop (sym (add-one i) j) es)

  pub next-below : (n : ℕ) (es : List (ℕ × E)) (i : ℕ) (d : ℕ × E) → i < length es → d ≡ get_or es i d → IsBelow (λ c. c) n (drop i es)
      → (d.0 < n) × IsBelow (λ c. c) n (drop (i + 1) es)
  next-below n es i d l q h = subst (IsBelow (λ c. c) n) (drop-next es i d l q) h

  pub next-in : (es : List (ℕ × E)) (i : ℕ) (d : ℕ × E) → i < length es → d ≡ get_or es i d → AllIn has (drop i es) → (has d.1
      ≡ true) × AllIn has (drop (i + 1) es)
  next-in es i d l q h = subst (AllIn has) (drop-next es i d l q) h

  pub term-next : (out out' : List ℕ) (first : Bool) (es : List (ℕ × E)) (i : ℕ) (d : ℕ × E) (whole : List ℕ) → i < length es → d ≡ get_or es i d → out'
      ≡ out ++ behind_byte 43 first (term_text columns (d.0, value d.1)) → out ++ rest_terms first (drop i es) ≡ whole
      → out' ++ rest_terms false (drop (i + 1) es) ≡ whole
  term-next out out' first es i d whole l q e h =
      rest_text-step 43 out out' first (term_text columns (d.0, value d.1)) (map (term_text columns) (residue_pairs (λ c. c) value (drop
      (i + 1) es))) whole e (ap (λ xs. out ++ rest_terms first xs) (sym (drop-next es i d l q)) ∙ h)

  -- some terms joined are the text of the row
  pub some-terms : (es : List (ℕ × E)) → 0 < length es → rest_terms true es ≡ row_text columns (residue_pairs (λ c. c) value es)
  some-terms [] h = absurd (omega arith)
  some-terms (e ∷ es) h = refl
