-- The words of a sum that fail a test, and the least of them.
use Rattle.std.specs.Prelude.{◌≡◌, Bool, true, not, List, Contains, All, filter}
use Rattle.std.specs.Map.{keys_of}
use Rattle.std.specs.Ordering.{is_le}
use Rattle.zeta_model.specs.declared.Letter.{Letter}
use Rattle.zeta_model.specs.Words.{word_cmp}

-- those of which the test is not true
abbrev pub failing : {E : Type 0} → (List Letter → Bool) → List (List Letter × E) → List (List Letter)
failing passes terms = filter (λ w. not (passes w)) (keys_of terms)

-- the word stands in the list, and it is before each other one or the same
pub record IsLeast (words : List (List Letter)) (w : List Letter) : Type 0 where
  pub stands : Contains words w
  pub least : All (λ u. is_le (word_cmp w u) ≡ true) words
