-- The text of a row whose residues are printed as fractions.
use Rattle.std.specs.Prelude.{◌≡◌, ℕ, ◌<◌, ◌==◌, if◌then◌else◌, Bool, true, false, List, [], ◌∷◌, ◌++◌, codes, get_or}
use Rattle.std.specs.Fmt.{decimal}
use Rattle.zeta_model.specs.declared.Letter.{Letter}
use Rattle.fractions.specs.Fractions.{IsFraction}
use Rattle.poly_print.specs.Polynomials.{monomial_text}

-- what is printed for a residue: a fraction, negative or not, with its top and its bottom; or the residue
pub data Coefficient : Type 0 where
  Ratio : Bool → ℕ → ℕ → Coefficient
  Residue : ℕ → Coefficient

-- the fraction that stands for the residue c, and c itself where there is none
abbrev pub IsCoefficient : ℕ → ℕ → Coefficient → Type 0
IsCoefficient m c (Ratio negative top bottom) = IsFraction m c negative top bottom
IsCoefficient m c (Residue r) = (r ≡ c) × ((negative : Bool) (top bottom : ℕ) → ¬ (IsFraction m c negative top bottom))

-- so it is for each residue modulo m
abbrev pub AreCoefficients : ℕ → (ℕ → Coefficient) → Type 0
AreCoefficients m f = (c : ℕ) → c < m → IsCoefficient m c (f c)

abbrev pub is_negative : Coefficient → Bool
is_negative (Ratio negative top bottom) = negative
is_negative (Residue r) = false

-- `2/5`, and `2` where the bottom is 1
abbrev pub ratio_text : ℕ → ℕ → List ℕ
ratio_text top bottom = if bottom == 1 then decimal top else decimal top ++ (codes "/" ++ decimal bottom)

-- without the sign
abbrev pub size_text : Coefficient → List ℕ
size_text (Ratio negative top bottom) = ratio_text top bottom
size_text (Residue r) = decimal r

-- `-` before a negative term, `+` before any other but the first
abbrev pub sign_text : Bool → Bool → List ℕ
sign_text first true = codes "-"
sign_text true false = []
sign_text false false = codes "+"

-- a term behind its sign, as `-2/5*z(2)^2`, from a column and its coefficient
abbrev pub signed_term : Bool → List (List (List Letter)) → ℕ → Coefficient → List ℕ
signed_term first columns col k = sign_text first (is_negative k) ++ (size_text k ++ (codes "*" ++ monomial_text (get_or columns col [])))

-- the terms of columns with their residues, of which the first is the first of all or not
abbrev pub terms_text : Bool → List (List (List Letter)) → (ℕ → Coefficient) → List (ℕ × ℕ) → List ℕ
terms_text first columns f [] = []
terms_text first columns f (e ∷ es) = signed_term first columns e.0 (f e.1) ++ terms_text false columns f es

-- the terms, and `0` where there is none
abbrev pub fractions_text : List (List (List Letter)) → (ℕ → Coefficient) → List (ℕ × ℕ) → List ℕ
fractions_text columns f [] = codes "0"
fractions_text columns f (e ∷ es) = terms_text true columns f (e ∷ es)

-- a row of columns with residues modulo m prints so
pub record IsFractionsText (m : ℕ) (columns : List (List (List Letter))) (row : List (ℕ × ℕ)) (text : List ℕ) : Type 0 where
  pub coefficient : ℕ → Coefficient
  pub are : AreCoefficients m coefficient
  pub prints : text ≡ fractions_text columns coefficient row
