-- The lines that a merge writes.
use Rattle.std.specs.Prelude.{ℕ, List, ◌++◌, length, codes, decimal}
use Rattle.std.specs.List.{flat_map}
use Rattle.zeta_model.specs.declared.Letter.{Letter}
use Rattle.whole_runs.specs.Texts.{line}
use Rattle.whole_runs.specs.FileTexts.{row_line}

abbrev pub unreadable_line : ℕ → List ℕ
unreadable_line file = codes "not a share: file " ++ (decimal file ++ line (codes " unreadable"))

abbrev pub other_line : ℕ → List ℕ
other_line file = codes "not a share: file " ++ (decimal file ++ line (codes " other"))

abbrev pub bad_row_line : ℕ → ℕ → List ℕ
bad_row_line file i = codes "not a share: file " ++ (decimal file ++ (codes " row " ++ (decimal i ++ line (codes " is not its combination"))))

abbrev pub not_reduced_line : ℕ → ℕ → List ℕ
not_reduced_line file i = codes "not a share: file " ++ (decimal file ++ (codes " row " ++ (decimal i ++ line (codes " is not reduced"))))

-- the rows of the file leave the polynomial of this text of relation n
abbrev pub leaves_line : ℕ → ℕ → List ℕ → List ℕ
leaves_line file n text = codes "not a share: file " ++ (decimal file ++ (codes " relation " ++ (decimal n ++ (codes " leaves " ++ line text))))

abbrev pub missing_line : ℕ → List ℕ
missing_line index = codes "not complete: share " ++ (decimal index ++ line (codes " missing"))

-- what the rows before it leave of a row of a share leads with a residue that has no inverse
abbrev pub turn_line : ℕ → ℕ → ℕ → List ℕ
turn_line residue share row =
    codes "no inverse: " ++ (decimal residue ++ (codes " at share " ++ (decimal share ++ (codes " row " ++ line (decimal row)))))

-- how many rows there are, and each row as columns with residues modulo m
abbrev pub merged_lines : ℕ → List (List (List Letter)) → List (List (ℕ × ℕ)) → List ℕ
merged_lines m columns rows = codes "merged: rows " ++ (line (decimal (length rows)) ++ flat_map (row_line m columns) rows)
