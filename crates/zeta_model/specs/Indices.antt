-- The index of a word, and its text: z_k is the word x .. x y of k letters, and the index k1, .., kr is z_k1 .. z_kr.
use Rattle.std.specs.Prelude.{ℕ, zero, suc, ◌+◌, List, [], ◌∷◌, ◌++◌, codes, map}
use Rattle.std.specs.List.{flat_map, join_with_byte}
use Rattle.std.specs.Fmt.{decimal}
use Rattle.zeta_model.specs.declared.Letter.{Letter}
use Rattle.zeta_model.specs.declared.Letter.TheVariants.{X, Y}

-- the word x .. x y of k letters
abbrev pub z_word : ℕ → List Letter
z_word zero = []
z_word (suc zero) = Y ∷ []
z_word (suc (suc k)) = X ∷ z_word (suc k)

abbrev pub word_of_index : List ℕ → List Letter
word_of_index ks = flat_map z_word ks

-- the index of a word, where k - 1 letters x have been read before it
abbrev pub index_from : ℕ → List Letter → List ℕ
index_from k [] = []
index_from k (X ∷ w) = index_from (k + 1) w
index_from k (Y ∷ w) = k ∷ index_from 1 w

abbrev pub index_of : List Letter → List ℕ
index_of w = index_from 1 w

-- `z(3,1)` for the index 3, 1
abbrev pub index_text : List ℕ → List ℕ
index_text ks = codes "z(" ++ join_with_byte 44 (map decimal ks) ++ codes ")"

abbrev pub word_text : List Letter → List ℕ
word_text w = index_text (index_of w)
