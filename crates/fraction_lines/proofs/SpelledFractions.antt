-- The text of a row with fractions is spelled by the tokens of its terms.
use Rattle.std.proofs.Common.{◌≡◌, ℕ, Bool, true, false, List, [], ◌∷◌, ◌++◌, map, get_or, refl, sym, ap, subst, ◌∙◌, append_assoc}
use Rattle.std.specs.Prelude.{◌==◌, if◌then◌else◌, codes}
use Rattle.std.specs.List.{AllByRecursion}
use Rattle.std.specs.Fmt.{decimal}
use Rattle.zeta_model.specs.declared.Letter.{Letter}
use Rattle.line_tokens.specs.declared.marks.Mark.TheVariants.{Plus, Minus, Slash}
use Rattle.line_tokens.specs.Tokens.{Token, mark, run, IsSpelled}
use Rattle.zeta_expr.specs.Grammar.{WrittenFactor, number, fraction, WrittenTerm, factor_tokens, more_factors, term_tokens, more_terms, line_tokens, sign_token}
use Rattle.poly_print.specs.Polynomials.{powers_of, power_text, monomial_text}
use Rattle.poly_print.proofs.TextLemmas.{behind_text}
use Rattle.poly_lines.proofs.Spelling.{written_power, put, spelled_factors, starred_join, IsSpelledColumn}
use Rattle.fraction_print.specs.FractionTexts.{Coefficient, is_negative, size_text, sign_text, terms_text}
use Rattle.fraction_print.specs.FractionTexts.Coefficient.{Ratio, Residue}

-- a coefficient without its sign, by its digits
abbrev pub written_ratio : Bool → ℕ → ℕ → WrittenFactor
written_ratio t a b = if t then number (decimal a) else fraction (decimal a) (decimal b)

abbrev pub written_size : Coefficient → WrittenFactor
written_size (Ratio negative a b) = written_ratio (b == 1) a b
written_size (Residue r) = number (decimal r)

abbrev pub written_coefficient : List (List (List Letter)) → ℕ → Coefficient → WrittenTerm
written_coefficient columns col k =
    record { negative = is_negative k; first = written_size k; more = map written_power (powers_of (get_or columns col [])) }

abbrev pub written_terms : List (List (List Letter)) → (ℕ → Coefficient) → List (ℕ × ℕ) → List WrittenTerm
written_terms columns f es = map (λ d. written_coefficient columns d.0 (f d.1)) es

spelled_ratio : (t : Bool) (a b : ℕ) (tokens : List Token) (rest : List ℕ) → IsSpelled tokens rest
    → IsSpelled (factor_tokens (written_ratio t a b) tokens) ((if t then decimal a else decimal a ++ (codes "/" ++ decimal b)) ++ rest)
spelled_ratio true a b tokens rest h = put (run (decimal a)) tokens rest h
spelled_ratio false a b tokens rest h =
    subst (IsSpelled (run (decimal a) ∷ mark Slash ∷ run (decimal b) ∷ tokens)) (sym (append_assoc (decimal a) (47 ∷ decimal b) rest))
    (put (run (decimal a)) (mark Slash ∷ run (decimal b) ∷ tokens) (47 ∷ (decimal b ++ rest))
    (put (mark Slash) (run (decimal b) ∷ tokens) (decimal b ++ rest) (put (run (decimal b)) tokens rest h)))

spelled_size : (k : Coefficient) (tokens : List Token) (rest : List ℕ) → IsSpelled tokens rest
    → IsSpelled (factor_tokens (written_size k) tokens) (size_text k ++ rest)
spelled_size (Ratio s a b) tokens rest h = spelled_ratio (b == 1) a b tokens rest h
spelled_size (Residue r) tokens rest h = put (run (decimal r)) tokens rest h

module _ (columns : List (List (List Letter))) where
  -- a term without its sign
  spelled_body : (col : ℕ) (k : Coefficient) (tokens : List Token) (rest : List ℕ) → IsSpelledColumn (get_or columns col []) → IsSpelled tokens rest
      → IsSpelled (term_tokens (written_coefficient columns col k) tokens) ((size_text k ++ (codes "*" ++ monomial_text (get_or columns col []))) ++ rest)
  spelled_body col k tokens rest c h =
      let ps = powers_of (get_or columns col []) in
      let behind : List ℕ = behind_text 42 (map power_text ps) in
      subst (IsSpelled (term_tokens (written_coefficient columns col k) tokens))
      (sym (append_assoc (size_text k) behind rest) ∙ ap (λ bytes. (size_text k ++ bytes) ++ rest) (sym (starred_join ps c.some)))
      (spelled_size k (more_factors (map written_power ps) tokens) (behind ++ rest) (spelled_factors ps tokens rest c.numbers h))

  -- behind its sign
  spelled_signed : (s : Bool) (col : ℕ) (k : Coefficient) (tokens : List Token) (rest : List ℕ) → is_negative k ≡ s → IsSpelledColumn (get_or columns col [])
      → IsSpelled tokens rest → IsSpelled (sign_token s ∷ term_tokens (written_coefficient columns col k) tokens)
      ((sign_text false s ++ (size_text k ++ (codes "*" ++ monomial_text (get_or columns col [])))) ++ rest)
  spelled_signed true col k tokens rest e c h =
      put (mark Minus) (term_tokens (written_coefficient columns col k) tokens) _ (spelled_body col k tokens rest c h)
  spelled_signed false col k tokens rest e c h =
      put (mark Plus) (term_tokens (written_coefficient columns col k) tokens) _ (spelled_body col k tokens rest c h)

  spelled_more : (f : ℕ → Coefficient) (es : List (ℕ × ℕ)) → AllByRecursion (λ e. IsSpelledColumn (get_or columns e.0 [])) es
      → IsSpelled (more_terms (written_terms columns f es)) (terms_text false columns f es)
  spelled_more f [] c = tt
  spelled_more f (e ∷ es) c =
      spelled_signed (is_negative (f e.1)) e.0 (f e.1) (more_terms (written_terms columns f es)) (terms_text false columns f es) refl c.0
      (spelled_more f es c.1)

  -- the first term has a sign where it is negative
  spelled_first : (s : Bool) (col : ℕ) (k : Coefficient) (ts : List WrittenTerm) (rest : List ℕ) → is_negative k ≡ s
      → IsSpelledColumn (get_or columns col []) → IsSpelled (more_terms ts) rest
      → IsSpelled (line_tokens s (written_coefficient columns col k) ts)
      ((sign_text true s ++ (size_text k ++ (codes "*" ++ monomial_text (get_or columns col [])))) ++ rest)
  spelled_first true col k ts rest e c h =
      subst (λ b. IsSpelled (sign_token b ∷ term_tokens (written_coefficient columns col k) (more_terms ts))
      (45 ∷ ((size_text k ++ (codes "*" ++ monomial_text (get_or columns col []))) ++ rest))) (sym e)
      (put (mark Minus) (term_tokens (written_coefficient columns col k) (more_terms ts)) _ (spelled_body col k (more_terms ts) rest c h))
  spelled_first false col k ts rest e c h = spelled_body col k (more_terms ts) rest c h

  pub spelled_line : (f : ℕ → Coefficient) (e : ℕ × ℕ) (es : List (ℕ × ℕ)) → AllByRecursion (λ e. IsSpelledColumn (get_or columns e.0 [])) (e ∷ es)
      → IsSpelled (line_tokens (is_negative (f e.1)) (written_coefficient columns e.0 (f e.1)) (written_terms columns f es))
      (terms_text true columns f (e ∷ es))
  spelled_line f e es c =
      spelled_first (is_negative (f e.1)) e.0 (f e.1) (written_terms columns f es) (terms_text false columns f es) refl c.0 (spelled_more f es c.1)
