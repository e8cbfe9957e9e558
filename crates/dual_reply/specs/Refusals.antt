-- Why a line is not accepted, and what is told of it.
use Rattle.std.specs.Prelude.{◌≡◌, ℕ, ◌+◌, ◌<◌, ◌≤◌, Bool, false, List, [], ◌∷◌, ◌++◌, length, sum, slice_index, IsTrue}
use Rattle.std.specs.List.{AllByRecursion}
use Rattle.line_tokens.specs.Tokens.{is_blank, is_digit}
use Rattle.line_tokens.specs.Prefixes.{IsStop}
use Rattle.dual_reply.specs.Grammar.{Term, IsLine, IsReading}
use Rattle.dual_reply.specs.declared.refusal.Refusal.{Refusal}
use Rattle.dual_reply.specs.declared.refusal.Refusal.TheVariants.{LineTooLong, Syntax, NotAdmissible, WeightIs}

abbrev pub begins_with_digit : List ℕ → Bool
begins_with_digit [] = false
begins_with_digit (b ∷ bytes) = is_digit b

-- an index begins with the number 1, at this byte: behind a bracket that opens and any blanks stands the digit 1, and no digit behind that
pub record BeginsWithOne (line : List ℕ) (at : ℕ) : Type 0 where
  pub front : List ℕ
  pub gap : List ℕ
  pub behind : List ℕ
  pub whole : line ≡ front ++ (40 ∷ (gap ++ (49 ∷ behind)))
  pub blank : AllByRecursion (λ b. IsTrue (is_blank b)) gap
  pub alone : begins_with_digit behind ≡ false
  pub place : at ≡ length front + (1 + length gap)

abbrev pub IsFirstOne : List ℕ → ℕ → Type 0
IsFirstOne line at = BeginsWithOne line at × ((k : ℕ) → BeginsWithOne line k → at ≤ k)

-- the first zeta of a weight over 24 has this weight
pub record IsFirstHeavy (terms : List Term) (weight : ℕ) : Type 0 where
  pub front : List Term
  pub heavy : Term
  pub behind : List Term
  pub whole : terms ≡ front ++ heavy ∷ behind
  pub light : AllByRecursion (λ t. sum t.index ≤ 24) front
  pub over : 24 < sum heavy.index
  pub told : weight ≡ sum heavy.index

-- each refusal where its cause stands and none before it does
abbrev pub IsRefused : List ℕ → Refusal → Type 0
IsRefused line LineTooLong = 4096 < length line
IsRefused line (Syntax at) = (length line ≤ 4096) × IsStop IsLine line at
IsRefused line (NotAdmissible at) = (length line ≤ 4096) × IsLine line × IsFirstOne line at
IsRefused line (WeightIs weight) =
    (length line ≤ 4096) × ((terms : List Term) × IsReading terms line × AllByRecursion (λ t. 1 < slice_index t.index 0) terms × IsFirstHeavy terms weight)
