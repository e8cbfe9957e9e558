-- The letters x and y meet the laws of an alphabet.
use Rattle.std.proofs.Common.{◌≡◌, ℕ, ◌<◌, List, [], ◌∷◌, ◌++◌, length, take, drop, refl, arith}
use Rattle.zeta_model.specs.declared.Letter.{Letter}
use Rattle.zeta_model.specs.Product.{AlphabetLaws, IsLetter}
use Rattle.zeta_model.specs.Alphabets.{shuffle_alphabet}

pub shuffle_laws : (limit : ℕ) → AlphabetLaws limit shuffle_alphabet
shuffle_laws limit = record {
  covers_empty = refl;
  first_is_letter = λ w c p h. one_letter w p;
  first_begins = λ w c p h. split w p;
  covers_rest = λ w c p h. refl;
  covers_more = λ a w la c h. refl;
  first_of_more = λ a w la c h. back a w la;
  joined_is_letter = λ a b c la lb h e. cc;
  joined_length = λ a b c la lb h e. cc;
  joined_comm = λ a b la lb h. refl;
  joined_assoc = λ a b c la lb lc h. refl;
}
  where
    one_letter : (w : List Letter) → 0 < length w → IsLetter shuffle_alphabet (take 1 w)
    one_letter [] p = absurd (omega arith)
    one_letter (a ∷ w) p = record { covers = refl; some = omega arith; alone = refl }

    split : (w : List Letter) → 0 < length w → w ≡ take 1 w ++ drop (length (take 1 w)) w
    split [] p = absurd (omega arith)
    split (a ∷ w) p = refl

    back : (a w : List Letter) → IsLetter shuffle_alphabet a → take 1 (a ++ w) ≡ a
    back [] w la = let p = la.some in absurd (omega arith)
    back (a ∷ []) w la = refl
    back (a ∷ b ∷ u) w la = let e : a ∷ [] ≡ a ∷ b ∷ u = la.alone in cc
