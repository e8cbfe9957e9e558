-- What single steps of the code answer. No public clause cites these, so a reader need not believe them.
-- Room for more letters behind the words of a sum.
use Rattle.std.specs.Prelude.{ℕ, ◌+◌, ◌≤◌, Bool, List, length}
use Rattle.std.specs.List.{AllByRecursion}
use Rattle.word_sums.specs.Sums.{IsSumOf}
use Rattle.zeta_model.specs.declared.Letter.{Letter}
use Rattle.zeta_model.specs.Sums.{single, continued}
use Rattle.zeta_expr.specs.Meaning.{Terms}

-- no word of the terms has more than j letters
abbrev pub AreShort : ℕ → Terms → Type 0
AreShort j p = AllByRecursion (λ c. length c.1 ≤ j) p

-- the sum stands for terms that have room for so many letters more
pub record HasRoom {E : Type 0} (zero : E) (has : E → Bool) (value : E → ℕ) (m : ℕ) (sum : List (List Letter × E)) (room : ℕ) : Type 0 where
  pub terms : Terms
  pub most : ℕ
  pub gives : IsSumOf zero has value m (continued single terms) sum
  pub short : AreShort most terms
  pub fits : most + room ≤ 24
