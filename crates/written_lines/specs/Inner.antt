-- What single steps of the code write. No public clause cites these, so a reader need not believe them.
use Rattle.std.specs.Prelude.{ℕ, Bool, true, false, List, [], ◌∷◌, ◌++◌, codes}
use Rattle.zeta_model.specs.declared.Letter.{Letter}
use Rattle.zeta_model.specs.Indices.{index_of}
use Rattle.word_letters.specs.Inner.{part_text}

-- the numbers of an index with commas between them, one before them where they are not the first, and what ends the line of a word
abbrev pub numbers_text : Bool → List ℕ → List ℕ
numbers_text first [] = codes ")" ++ 10 ∷ []
numbers_text first (k ∷ ks) = part_text first k ++ numbers_text false ks

-- what the line of a word has behind the residue
abbrev pub at_word : List Letter → List ℕ
at_word word = codes " at word z(" ++ numbers_text true (index_of word)
