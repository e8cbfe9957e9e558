-- The lines that a run writes of a file.
use Rattle.std.specs.Prelude.{ℕ, zero, suc, ◌-◌, List, [], ◌∷◌, ◌++◌, length, map, get_or, codes, decimal}
use Rattle.std.specs.List.{flat_map, join_with_byte}
use Rattle.zeta_model.specs.declared.Letter.{Letter}
use Rattle.zeta_model.specs.Indices.{word_text}
use Rattle.page_codec.specs.declared.params.Params.{Params}
use Rattle.page_codec.specs.declared.parts.FinalEntry.{FinalEntry}
use Rattle.page_codec.specs.declared.page.Page.{Page}
use Rattle.poly_print.specs.Polynomials.{monomial_text, row_text}
use Rattle.file_model.specs.FinalRows.{finals_of}
use Rattle.file_model.specs.Builds.{Figures}
use Rattle.whole_runs.specs.Texts.{line}

abbrev pub foreign_line : ℕ → List ℕ
foreign_line n = codes "not a table: foreign " ++ line (decimal n)

abbrev pub unreadable_line : ℕ → List ℕ
unreadable_line i = codes "not a table: page " ++ (decimal i ++ line (codes " unreadable"))

abbrev pub misplaced_line : ℕ → List ℕ
misplaced_line i = codes "not a table: page " ++ (decimal i ++ line (codes " misplaced"))

abbrev pub unfinished_line : ℕ → List ℕ
unfinished_line n = codes "not complete: pages " ++ (decimal n ++ line (codes ", not done"))

abbrev pub bad_row_line : ℕ → List ℕ
bad_row_line i = codes "not complete: row " ++ (decimal i ++ line (codes " is not its combination"))

abbrev pub not_reduced_line : ℕ → List ℕ
not_reduced_line i = codes "not complete: row " ++ (decimal i ++ line (codes " is not reduced"))

-- relation n leaves the polynomial of this text
abbrev pub missing_line : ℕ → List ℕ → List ℕ
missing_line n text = codes "not complete: relation " ++ (decimal n ++ (codes " leaves " ++ line text))

abbrev pub exists_line : ℕ → List ℕ
exists_line n = codes "not a table: exists " ++ line (decimal n)

abbrev pub not_forward_line : ℕ → List ℕ
not_forward_line i = codes "not a table: page " ++ (decimal i ++ line (codes " not forward"))

abbrev pub differs_line : ℕ → List ℕ
differs_line i = codes "not a table: page " ++ (decimal i ++ line (codes " differs"))

-- the order of columns that a number stands for
abbrev pub order_text : ℕ → List ℕ
order_text zero = codes "lex"
order_text (suc n) = codes "odd"

-- a blank and the index texts of the preferred words, joined by +; nothing where there is none
abbrev pub preferred_text : List (List Letter) → List ℕ
preferred_text [] = []
preferred_text (u ∷ us) = 32 ∷ join_with_byte 43 (map word_text (u ∷ us))

-- weight, depth, modulus, order and preferred words
abbrev pub params_text : Params → List ℕ
params_text p = decimal p.weight ++ (32 ∷ decimal p.depth ++ (32 ∷ decimal p.modulus ++ (32 ∷ order_text p.order ++ preferred_text p.preferred)))

-- the negative of pairs of columns with residues from 1 to below m
abbrev pub negated : ℕ → List (ℕ × ℕ) → List (ℕ × ℕ)
negated m pairs = map (λ e. (e.0, m - e.1)) pairs

-- `z(3,1) = 91*z(2)^2`: the monomial of the row's lead is, by the row, the negative of what stands behind it
abbrev pub row_line : ℕ → List (List (List Letter)) → List (ℕ × ℕ) → List ℕ
row_line m columns [] = []
row_line m columns (e ∷ es) = monomial_text (get_or columns e.0 []) ++ (codes " = " ++ line (row_text columns (negated m es)))

abbrev pub row_lines : ℕ → List (List (List Letter)) → List FinalEntry → List ℕ
row_lines m columns entries = flat_map (λ (e : FinalEntry). row_line m columns e.row) entries

-- the header, how many pages there are, and the final rows in order
abbrev pub table_lines : Params → List (List (List Letter)) → List Page → List ℕ
table_lines params columns pages =
    codes "table " ++ (line (params_text params) ++ (codes "pages " ++ (line (decimal (length pages)) ++ row_lines params.modulus columns (finals_of pages))))

-- the header, how many relations are listed, and how many rows there are
abbrev pub complete_line : Params → ℕ → ℕ → List ℕ
complete_line params relations rows =
    codes "complete: " ++ (params_text params ++ (codes ", relations " ++ (decimal relations ++ (codes ", rows " ++ line (decimal rows)))))

abbrev pub other_line : Params → List ℕ
other_line params = codes "not a table: other " ++ line (params_text params)

-- the header, and how many pages are sealed
abbrev pub migrated_line : Params → ℕ → List ℕ
migrated_line params pages = codes "migrated: " ++ (params_text params ++ (codes ", pages " ++ line (decimal pages)))

-- what was done, how many relations are listed, how many rows there are, how many relations were offered, and how many pages are sealed
abbrev pub figures_line : List ℕ → Figures → List ℕ
figures_line done figures =
    done ++ (codes ": relations " ++ (decimal figures.relations ++ (codes ", rows " ++ (decimal figures.rows
    ++ (codes ", offered " ++ (decimal figures.offered ++ (codes ", pages " ++ line (decimal figures.pages))))))))
