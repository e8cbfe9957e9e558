-- The value of a sum of words, term by term.
use Rattle.std.specs.Prelude.{◌≡◌, ℕ, ◌+◌, Bool, true, List, All}
use Rattle.std.specs.Map.{keys_of}
use Rattle.zeta_model.specs.Sums.{numbered}
use Rattle.truncated_sums.specs.TruncatedSums.{terms_value}
use Rattle.word_sums.specs.Terms.{AllIn}
use Rattle.zeta_model.specs.Modular.{Same}
use Rattle.zeta_model.specs.Words.{has_index}
use Rattle.zeta_model.specs.declared.Letter.{Letter}

-- the value so far and that of the rest make the whole
pub record Summing {E : Type 0} (m : ℕ) (has : E → Bool) (value : E → ℕ) (inverse : ℕ
    → ℕ) (n : ℕ) (whole : List (List Letter × E)) (sum : E) (rest : List (List Letter × E)) : Type 0 where
  pub in_ring : has sum ≡ true
  pub indices : All (λ w. has_index w ≡ true) (keys_of rest)
  pub all_in : AllIn has rest
  pub values : Same m (value sum + terms_value inverse n (numbered value rest)) (terms_value inverse n (numbered value whole))
