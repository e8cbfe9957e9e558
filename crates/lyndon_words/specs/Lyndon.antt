-- Lyndon words, and how words are put together of them (Chen, Fox and Lyndon 1958).
use Rattle.std.specs.Prelude.{◌≡◌, ◌<◌, List, [], ◌∷◌, ◌++◌, length}
use Rattle.std.specs.declared.cmp.Ordering.TheVariants.{Less}
use Rattle.zeta_model.specs.declared.Letter.{Letter}
use Rattle.zeta_model.specs.Words.{word_cmp}

-- u comes before v in the order of words
abbrev pub IsBefore : List Letter → List Letter → Type 0
IsBefore u v = word_cmp u v ≡ Less

-- nonempty, and before each of its proper nonempty suffixes
pub record IsLyndon (w : List Letter) : Type 0 where
  pub nonempty : 0 < length w
  pub least : (u v : List Letter) → w ≡ u ++ v → 0 < length u → 0 < length v → IsBefore w v

abbrev pub AllLyndon : List (List Letter) → Type 0
AllLyndon [] = Unit {0}
AllLyndon (u ∷ us) = IsLyndon u × AllLyndon us

-- u is before none of the words
abbrev pub IsAtLeast : List Letter → List (List Letter) → Type 0
IsAtLeast u [] = Unit {0}
IsAtLeast u (v ∷ vs) = ¬ (IsBefore u v) × IsAtLeast u vs

-- the words do not increase: each is at least every later one
abbrev pub Falls : List (List Letter) → Type 0
Falls [] = Unit {0}
Falls (u ∷ us) = IsAtLeast u us × Falls us

-- the words put together, one behind the other
abbrev pub joined : List (List Letter) → List Letter
joined [] = []
joined (u ∷ us) = u ++ joined us

-- us are the Lyndon factors of w
pub record IsFactors (w : List Letter) (us : List (List Letter)) : Type 0 where
  pub lyndon : AllLyndon us
  pub falls : Falls us
  pub whole : joined us ≡ w
