-- A reader of tokens by places, and what it does byte by byte.
use Rattle.std.specs.Prelude.{◌≡◌, ℕ, zero, suc, ◌+◌, ◌-◌, ◌*◌, Bool, true, false, ◌&&◌, nat_le, if◌then◌else◌, Option, Some, None, option_map, option_and_then, List, [], ◌∷◌}
use Rattle.std.specs.Option.{option_map_or}
use Rattle.line_tokens.specs.declared.marks.Mark.{Mark}
use Rattle.line_tokens.specs.declared.spots.Run.{Run}
use Rattle.line_tokens.specs.declared.spots.Spot.{Spot}
use Rattle.line_tokens.specs.declared.spots.Spot.TheVariants.{Between, Within}
use Rattle.line_tokens.specs.Tokens.{Token, mark, run, is_blank, is_digit, value_of}
use Rattle.line_tokens.specs.Marks.{mark_of}

-- what may stand at each place, and whether a line may end there
pub record Machine (P : Type 0) : Type 0 where
  pub after_mark : P → Mark → Option P
  pub run_at : P → Option (Run P)
  pub ends : P → Bool

-- what is made of the tokens: n is the value of the last run
pub record Maker (P D : Type 0) : Type 0 where
  pub on_mark : P → Mark → ℕ → D → D
  pub at_end : P → ℕ → D → D

abbrev pub are_digits : ℕ → List ℕ → Bool
are_digits k [] = true
are_digits zero (digit ∷ digits) = false
are_digits (suc k) (digit ∷ digits) = is_digit digit && are_digits k digits

-- a digit from the lowest on, and at most k more
abbrev pub is_run : ℕ → ℕ → List ℕ → Bool
is_run lowest k [] = false
is_run lowest k (digit ∷ digits) = is_digit digit && nat_le lowest digit && are_digits k digits

-- behind a run there stands none
abbrev pub IsAlternating : {P : Type 0} → Machine P → Type 0
IsAlternating {P = P} M = (p : P) (r : Run P) → M.run_at p ≡ Some r → M.run_at r.next ≡ None

module _ {P : Type 0} where
  abbrev pub place_of : Spot P → P
  place_of (Between p) = p
  place_of (Within p k) = p

  abbrev pub first_digit : Option (Run P) → ℕ → Option (Spot P)
  first_digit None b = None
  first_digit (Some r) b = if nat_le r.lowest b then Some (Within r.next r.more) else None

  abbrev pub after_digit : Machine P → Spot P → ℕ → Option (Spot P)
  after_digit M (Between p) b = first_digit (M.run_at p) b
  after_digit M (Within p zero) b = None
  after_digit M (Within p (suc k)) b = Some (Within p k)

  -- where a byte takes the reader: none where no line goes on so
  abbrev pub step : Machine P → Spot P → ℕ → Option (Spot P)
  step M s b =
      if is_blank b then Some (Between (place_of s)) else
      (if is_digit b then after_digit M s b else option_map Between (option_and_then (M.after_mark (place_of s)) (mark_of b)))

  -- the number of bytes that the reader passes
  abbrev pub passed : Machine P → Spot P → List ℕ → ℕ
  passed M s [] = 0
  passed M s (b ∷ bytes) = option_map_or (λ t. suc (passed M t bytes)) (step M s b) 0

  -- whether the reader passes all bytes, to a place where a line may end
  abbrev pub accepts : Machine P → Spot P → List ℕ → Bool
  accepts M s [] = M.ends (place_of s)
  accepts M s (b ∷ bytes) = option_map_or (λ t. accepts M t bytes) (step M s b) false

  -- whether tokens lead from a place to one where a line may end
  abbrev pub takes : Machine P → P → List Token → Bool
  takes M p [] = M.ends p
  takes M p (mark m ∷ tokens) = option_map_or (λ q. takes M q tokens) (M.after_mark p m) false
  takes M p (run digits ∷ tokens) = option_map_or (λ r. is_run r.lowest r.more digits && takes M r.next tokens) (M.run_at p) false

  abbrev pub number_after : Spot P → ℕ → ℕ → ℕ
  number_after (Between p) n b = if is_digit b then b - 48 else n
  number_after (Within p k) n b = if is_digit b then 10 * n + (b - 48) else n

module _ {P D : Type 0} where
  abbrev pub made_after : Maker P D → Spot P → ℕ → D → ℕ → D
  made_after K s n d b = option_map_or (λ m. K.on_mark (place_of s) m n d) (mark_of b) d

  -- what is made of a line from a spot on: none where it is not accepted
  abbrev pub read : Machine P → Maker P D → Spot P → ℕ → D → List ℕ → Option D
  read M K s n d [] = if M.ends (place_of s) then Some (K.at_end (place_of s) n d) else None
  read M K s n d (b ∷ bytes) = option_and_then (λ t. read M K t (number_after s n b) (made_after K s n d b) bytes) (step M s b)

  -- the same of a list of tokens
  abbrev pub take_tokens : Machine P → Maker P D → P → ℕ → D → List Token → Option D
  take_tokens M K p n d [] = if M.ends p then Some (K.at_end p n d) else None
  take_tokens M K p n d (mark m ∷ tokens) = option_and_then (λ q. take_tokens M K q n (K.on_mark p m n d) tokens) (M.after_mark p m)
  take_tokens M K p n d (run digits ∷ tokens) =
      option_and_then (λ r. if is_run r.lowest r.more digits then take_tokens M K r.next (value_of digits) d tokens else None) (M.run_at p)
