-- The list of all Lyndon words of a weight.
use Rattle.std.specs.Prelude.{◌≡◌, ℕ, ◌≤◌, ◌↔◌, List, length}
use Rattle.std.specs.List.{Contains}
use Rattle.std.specs.List.Sorted.{IsStrictlySortedBy}
use Rattle.zeta_model.specs.declared.Letter.{Letter}
use Rattle.zeta_model.specs.Words.{word_cmp, depth_of}
use Rattle.lyndon_words.specs.Lyndon.{IsLyndon}

-- us lists the Lyndon words of the weight and of at most the depth, and nothing else, in increasing order
pub record IsLyndonList (weight depth : ℕ) (us : List (List Letter)) : Type 0 where
  pub increases : IsStrictlySortedBy word_cmp us
  pub whole : (w : List Letter) → Contains us w ↔ (IsLyndon w × (length w ≡ weight) × (depth_of w ≤ depth))
