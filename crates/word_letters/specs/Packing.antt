-- How a word of at most 24 letters stands in one number: the letters in 24 binary places, the first letter highest,
-- and the weight in five places below them.
use Rattle.std.specs.Prelude.{◌≡◌, ℕ, zero, suc, ◌+◌, ◌*◌, ◌/◌, ◌%◌, ◌^◌, ◌≤◌, List, [], ◌∷◌, length}
use Rattle.zeta_model.specs.declared.Letter.{Letter}
use Rattle.zeta_model.specs.Words.{letter_rank, letter_at_rank}

-- the letters of w as binary digits, the first one at the highest of k places
unfoldable pub digits_of : ℕ → List Letter → ℕ
digits_of k [] = 0
digits_of zero (a ∷ w) = 0
digits_of (suc k) (a ∷ w) = letter_rank a * 2 ^ k + digits_of k w

-- the first m letters that stand in k places
unfoldable pub letters_of : ℕ → ℕ → ℕ → List Letter
letters_of k zero n = []
letters_of zero (suc m) n = []
letters_of (suc k) (suc m) n = letter_at_rank (n / 2 ^ k) ∷ letters_of k m (n % 2 ^ k)

unfoldable pub packed_of : List Letter → ℕ
packed_of w = digits_of 24 w * 32 + length w

unfoldable pub word_of : ℕ → List Letter
word_of n = letters_of 24 (n % 32) (n / 32)

-- the number is that of its word, which has at most 24 letters
pub record IsPacked (n : ℕ) : Type 0 where
  pub kept : packed_of (word_of n) ≡ n
  pub within : length (word_of n) ≤ 24
