-- Rows of elements as lists of residues, the form in which pages hold them.
use Rattle.std.specs.Prelude.{ℕ, ◌<◌, List, map, All}
use Rattle.sparse_rows.specs.Entries.{IsRow}

module _ {K : Type 0} where
  -- what is written of a row: each key with the residue that its element stands for
  abbrev pub written : {E : Type 0} → (E → ℕ) → List (K × E) → List (K × ℕ)
  written value row = map (λ e. (e.0, value e.1)) row

  -- keys that increase, each with a residue from 1 to below m
  pub record AreResidues (number : K → ℕ) (m : ℕ) (pairs : List (K × ℕ)) : Type 0 where
    pub increasing : IsRow number 0 0 pairs
    pub below : All (λ e. e.1 < m) pairs
