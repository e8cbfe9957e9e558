-- The text of a monomial, and of a row over a list of columns.
use Rattle.std.specs.Prelude.{◌≡◌, ℕ, zero, suc, Bool, ◌+◌, ◌<◌, ◌≤◌, ◌==◌, if◌then◌else◌, List, [], ◌∷◌, ◌++◌, codes, map, length, get_or}
use Rattle.std.specs.List.{join_with_byte}
use Rattle.std.specs.Fmt.{decimal}
use Rattle.zeta_model.specs.declared.Letter.{Letter}
use Rattle.zeta_model.specs.Indices.{word_text}
use Rattle.zeta_model.specs.Sums.{same_word}
use Rattle.sparse_rows.specs.Entries.{IsRow, IsBelow, AllIn}

-- the factors with how often each stands in a row, where u has stood k times before them
abbrev pub powers_from : List Letter → ℕ → List (List Letter) → List (List Letter × ℕ)
powers_from u k [] = (u, k) ∷ []
powers_from u k (v ∷ vs) = if same_word u v then powers_from u (k + 1) vs else (u, k) ∷ powers_from v 1 vs

abbrev pub powers_of : List (List Letter) → List (List Letter × ℕ)
powers_of [] = []
powers_of (u ∷ us) = powers_from u 1 us

-- `z(3)`, and `z(2)^2` where the factor stands there twice
abbrev pub power_text : List Letter × ℕ → List ℕ
power_text p = if p.1 == 1 then word_text p.0 else word_text p.0 ++ (codes "^" ++ decimal p.1)

-- `z(3)*z(2)^2`
abbrev pub monomial_text : List (List Letter) → List ℕ
monomial_text p = join_with_byte 42 (map power_text (powers_of p))

-- `100*z(3)*z(2)^2`, from a column and its residue
abbrev pub term_text : List (List (List Letter)) → ℕ × ℕ → List ℕ
term_text columns e = decimal e.1 ++ (codes "*" ++ monomial_text (get_or columns e.0 []))

-- the terms joined by `+`, and `0` where there is none
abbrev pub row_text : List (List (List Letter)) → List (ℕ × ℕ) → List ℕ
row_text columns [] = codes "0"
row_text columns (e ∷ es) = join_with_byte 43 (map (term_text columns) (e ∷ es))

-- columns that increase from low on and are below n, with residues from 1 to below m
abbrev pub ArePairs : ℕ → ℕ → ℕ → List (ℕ × ℕ) → Type 0
ArePairs m n low [] = Unit {0}
ArePairs m n low (e ∷ es) = (low ≤ e.0) × (e.0 < n) × (0 < e.1) × (e.1 < m) × ArePairs m n (e.0 + 1) es

-- the residues that are not 0, with their columns, from a column on
abbrev pub pairs_from : ℕ → ℕ → (ℕ → ℕ) → List (ℕ × ℕ)
pairs_from col zero row = []
pairs_from col (suc k) row = if row col == 0 then pairs_from (col + 1) k row else (col, row col) ∷ pairs_from (col + 1) k row

-- the text of the residues below the number of columns
abbrev pub residues_text : List (List (List Letter)) → (ℕ → ℕ) → List ℕ
residues_text columns row = row_text columns (pairs_from 0 (length columns) row)

-- a row of elements as columns with residues
abbrev pub residue_pairs : {K E : Type 0} → (K → ℕ) → (E → ℕ) → List (K × E) → List (ℕ × ℕ)
residue_pairs number value row = map (λ e. (number e.0, value e.1)) row

-- the row of elements prints so
pub record IsTextOf {E : Type 0} (none : E) (has : E → Bool) (value : E
    → ℕ) (columns : List (List (List Letter))) (row : List (ℕ × E)) (text : List ℕ) : Type 0 where
  pub pairs : IsRow (λ col. col) none 0 row
  pub below : IsBelow (λ col. col) (length columns) row
  pub in_ring : AllIn has row
  pub prints : text ≡ row_text columns (residue_pairs (λ col. col) value row)
