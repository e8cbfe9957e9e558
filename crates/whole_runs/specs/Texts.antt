-- The lines that a run writes besides replies.
use Rattle.std.specs.Prelude.{ℕ, ◌+◌, List, [], ◌∷◌, ◌++◌, length, codes, decimal}
use Rattle.zeta_model.specs.declared.Letter.{Letter}
use Rattle.zeta_model.specs.Indices.{word_text}
use Rattle.relation_list.specs.declared.names.RelName.{RelName}
use Rattle.relation_list.specs.Texts.{text_of}
use Rattle.page_codec.specs.declared.fault.ParamFault.{ParamFault}
use Rattle.page_codec.specs.declared.fault.ParamFault.TheVariants.{Weight, Depth, Modulus, NotBelow, Order, Preferred, Columns}
use Rattle.line_samples.specs.Counts.{zero_count, distinct_count, term_count}

-- the bytes and the byte 10
abbrev pub line : List ℕ → List ℕ
line bytes = bytes ++ 10 ∷ []

abbrev pub usage_line : List ℕ
usage_line =
    codes "usage: dual M; list W D; reduce W D M ORDER [PREF]; build FILE W D M ORDER [PREF]; "
    ++ (codes "resume FILE W D M ORDER [PREF]; check FILE; rewrite FILE; show FILE; "
    ++ (codes "sample W D M SEED COUNT; migrate FILE; rational FILE; probe N M" ++ 10 ∷ []))

abbrev pub fault_text : ParamFault → List ℕ
fault_text (Weight w) = codes "weight " ++ decimal w
fault_text (Depth d) = codes "depth " ++ decimal d
fault_text (Modulus m) = codes "modulus " ++ decimal m
fault_text (NotBelow w m) = codes "weight " ++ (decimal w ++ (codes " not below modulus " ++ decimal m))
fault_text Order = codes "order"
fault_text (Preferred i) = codes "preferred " ++ decimal i
fault_text (Columns n) = codes "columns " ++ decimal n

abbrev pub param_line : ParamFault → List ℕ
param_line fault = codes "bad parameter: " ++ (fault_text fault ++ 10 ∷ [])

abbrev pub count_line : ℕ → List ℕ
count_line n = codes "bad parameter: count " ++ (decimal n ++ 10 ∷ [])

abbrev pub terms_line : ℕ → List ℕ
terms_line n = codes "bad parameter: terms " ++ (decimal n ++ 10 ∷ [])

-- the line of a name: its number, a blank, its text, and the byte 10
abbrev pub name_line : ℕ → RelName → List ℕ
name_line number name = decimal number ++ (32 ∷ text_of name ++ (10 ∷ []))

-- the lines of names that are numbered from `first` on
abbrev pub name_lines : ℕ → List RelName → List ℕ
name_lines first [] = []
name_lines first (name ∷ names) = name_line first name ++ name_lines (first + 1) names

-- `no inverse: v at word z(..)`
abbrev pub word_line : ℕ → List Letter → List ℕ
word_line residue u = codes "no inverse: " ++ (decimal residue ++ (codes " at word " ++ line (word_text u)))

-- `no inverse: v at relation n`
abbrev pub relation_line : ℕ → ℕ → List ℕ
relation_line residue n = codes "no inverse: " ++ (decimal residue ++ (codes " at relation " ++ line (decimal n)))

-- `no inverse: v at term k`
abbrev pub term_line : ℕ → ℕ → List ℕ
term_line residue term = codes "no inverse: " ++ (decimal residue ++ (codes " at term " ++ line (decimal term)))

-- `rows R, columns C, lines L, zero Z, distinct Q, terms T`
abbrev pub sample_line : ℕ → ℕ → List (List ℕ) → List ℕ
sample_line rows columns replies =
    codes "rows " ++ (decimal rows ++ (codes ", columns " ++ (decimal columns ++ (codes ", lines " ++ (decimal (length replies)
    ++ (codes ", zero " ++ (decimal (zero_count replies) ++ (codes ", distinct " ++ (decimal (distinct_count replies)
    ++ (codes ", terms " ++ line (decimal (term_count replies))))))))))))
