-- Bytes that an object tells, or doesn't. What a call does to them is an equation, so one that tells goes on telling,
-- and one that doesn't never begins.
use Rattle.std.specs.Prelude.{◌≡◌, ◌<◌, ℕ, List, [], ◌++◌, length, take, Option, Result, MatchResult, IfSome}
use Rattle.std.specs.Option.{option_map}

-- the bytes, and then what is told
abbrev pub before_told : List ℕ → Option (List ℕ) → Option (List ℕ)
before_told bytes told = option_map (λ xs. bytes ++ xs) told

-- what is told, and then the bytes
abbrev pub after_told : Option (List ℕ) → List ℕ → Option (List ℕ)
after_told told bytes = option_map (λ xs. xs ++ bytes) told

-- a read gave the first of what was left, none only at the end or with no room, and took nothing where it failed
abbrev pub Reads : {E : Type 0} → Option (List ℕ) → Option (List ℕ) → Result ℕ E → List ℕ → Type 0
Reads old new result buf = MatchResult result (λ n. old ≡ before_told (take n buf) new) (λ _. new ≡ old)

abbrev pub EndsOnly : {E : Type 0} → Option (List ℕ) → Result ℕ E → List ℕ → Type 0
EndsOnly old result buf = MatchResult result (λ n. n ≡ 0 → 0 < length buf → IfSome old (λ xs. xs ≡ [])) (λ _. Unit {0})

-- a write appended the first of the bytes, and nothing where it failed
abbrev pub Writes : {E : Type 0} → Option (List ℕ) → Option (List ℕ) → Result ℕ E → List ℕ → Type 0
Writes old new result bytes = MatchResult result (λ n. new ≡ after_told old (take n bytes)) (λ _. new ≡ old)

-- the first of the bytes were appended, and the rest not
pub record AppendsFront (old new : Option (List ℕ)) (bytes : List ℕ) : Type 0 where
  pub front : List ℕ
  pub rest : List ℕ
  pub parts : bytes ≡ front ++ rest
  pub taken : new ≡ after_told old front
