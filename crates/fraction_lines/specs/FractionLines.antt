-- The text of a row with fractions as a line of expressions: the terms that it spells, and what it owes to its reader.
use Rattle.std.specs.Prelude.{◌≡◌, ℕ, ◌==◌, if◌then◌else◌, false, Some, None, List, [], ◌∷◌, map, get_or}
use Rattle.zeta_model.specs.declared.Letter.{Letter}
use Rattle.zeta_model.specs.Sums.{SameSum}
use Rattle.sparse_rows.specs.Entries.{entry_of}
use Rattle.zeta_expr.specs.declared.expr.Factor.{Factor}
use Rattle.zeta_expr.specs.declared.expr.Factor.TheVariants.{Number}
use Rattle.zeta_expr.specs.Forms.{TermForm}
use Rattle.zeta_expr.specs.Readings.{IsReading}
use Rattle.zeta_expr.specs.Meaning.{sum_of_terms, refusal_of}
use Rattle.table_model.specs.MonomialWords.{words_of_row}
use Rattle.poly_print.specs.Polynomials.{powers_of}
use Rattle.poly_lines.specs.Lines.{power_factor}
use Rattle.fraction_print.specs.FractionTexts.{Coefficient, is_negative}
use Rattle.fraction_print.specs.FractionTexts.Coefficient.{Ratio, Residue}

-- a coefficient without its sign
abbrev pub size_factor : Coefficient → Factor
size_factor (Ratio negative top bottom) = Number top (if bottom == 1 then None else Some bottom)
size_factor (Residue r) = Number r None

-- the coefficient times the powers of the monomial
abbrev pub coefficient_form : List (List (List Letter)) → ℕ → Coefficient → TermForm
coefficient_form columns col k =
    record { negative = is_negative k; factors = size_factor k ∷ map power_factor (powers_of (get_or columns col [])) }

-- the number 0 for no pair
abbrev pub fraction_terms : List (List (List Letter)) → (ℕ → Coefficient) → List (ℕ × ℕ) → List TermForm
fraction_terms columns f [] = record { negative = false; factors = Number 0 None ∷ [] } ∷ []
fraction_terms columns f (e ∷ es) = map (λ d. coefficient_form columns d.0 (f d.1)) (e ∷ es)

-- the text is a line, its meaning modulo m is the words of the row, and it is not refused in a table of weight w and depth d
pub record ReadsBack (m w d : ℕ) (columns : List (List (List Letter))) (row : List (ℕ × ℕ)) (text : List ℕ) : Type 0 where
  pub terms : List TermForm
  pub line : IsReading text terms
  pub words : SameSum m (sum_of_terms m terms) (words_of_row columns (entry_of (λ col. col) (λ r. r) row))
  pub accepted : refusal_of m w d terms ≡ None
