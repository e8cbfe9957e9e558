-- What single steps of writing and reading a text do. No public clause cites these, so a reader need not believe them.
use Rattle.std.specs.Prelude.{◌≡◌, ℕ, ◌^◌, ◌<◌, Bool, true, false, List, [], ◌∷◌, ◌++◌}
use Rattle.std.specs.List.{AllByRecursion}
use Rattle.std.specs.Fmt.{decimal}

-- a text, behind a byte where it is not the first
abbrev pub behind_byte : ℕ → Bool → List ℕ → List ℕ
behind_byte c true text = text
behind_byte c false text = c ∷ text

-- what stands behind the first byte
abbrev pub behind_first : List ℕ → List ℕ
behind_first [] = []
behind_first (b ∷ bytes) = bytes

abbrev pub HasNoPlus : List ℕ → Type 0
HasNoPlus bytes = AllByRecursion (λ b. b ≡ 43 → ⊥) bytes

-- nothing, or a `+` first
abbrev pub EndsTerm : List ℕ → Type 0
EndsTerm [] = Unit {0}
EndsTerm (b ∷ bytes) = b ≡ 43

-- the bytes are a number, `*`, the text of a monomial, and behind it the tail
pub record IsTermAt (r : ℕ) (monomial tail bytes : List ℕ) : Type 0 where
  pub small : r < 2 ^ 64
  pub free : HasNoPlus monomial
  pub ends : EndsTerm tail
  pub whole : bytes ≡ decimal r ++ 42 ∷ (monomial ++ tail)
