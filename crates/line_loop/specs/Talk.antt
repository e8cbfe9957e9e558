-- What a conversation over lines reads and says.
use Rattle.std.specs.Prelude.{◌≡◌, ℕ, ◌+◌, ◌<◌, ◌≤◌, List, [], ◌++◌, length, take, Option, IfSome}
use Rattle.outside_io.specs.Told.{before_told, after_told, AppendsFront}
use Rattle.line_loop.specs.declared.conversation.Ended.{Ended}
use Rattle.line_loop.specs.declared.conversation.Ended.TheVariants.{Done, Memory, ReadFault, WriteFault, TooMuchInput}
use Rattle.line_loop.specs.Lines.{cut, lines, answers, whole_output, too_much_text, IsPrefix}

-- what the object tells, where it tells anything
abbrev pub Tells : Option (List ℕ) → List ℕ → Type 0
Tells told bytes = IfSome told (λ xs. xs ≡ bytes)

-- at most so many bytes were taken
pub record TakesAtMost (most : ℕ) (left left_new : Option (List ℕ)) : Type 0 where
  pub seen : List ℕ
  pub read : left ≡ before_told seen left_new
  pub bounded : length seen ≤ most

-- a first part of all that is said to the bytes that were read and more, which is what is left where that is told
abbrev pub SaidInPart : ℕ → (List ℕ → List ℕ) → List ℕ → List ℕ → Option (List ℕ) → Type 0
SaidInPart limit reply seen said left = (more : List ℕ) × Tells left more × IsPrefix said (whole_output limit reply (seen ++ more))

-- how it ended, by the bytes that were read, the bytes that were said, and what is left
abbrev pub Ends : ℕ → (List ℕ → List ℕ) → List ℕ → List ℕ → Option (List ℕ) → Ended → Type 0
Ends limit reply seen said left Done = (length seen ≤ limit) × (said ≡ answers reply (lines seen)) × Tells left []
Ends limit reply seen said left ReadFault = (length seen ≤ limit) × (said ≡ answers reply (cut seen).0)
Ends limit reply seen said left TooMuchInput = (length seen ≡ limit + 1) × (said ≡ answers reply (cut (take limit seen)).0 ++ too_much_text)
Ends limit reply seen said left WriteFault = SaidInPart limit reply seen said left
Ends limit reply seen said left Memory = SaidInPart limit reply seen said left

-- some bytes were read, never more than one past the limit, and some were said
pub record Talks (limit : ℕ) (reply : List ℕ → List ℕ) (left left_new taken taken_new : Option (List ℕ)) (ended : Ended) : Type 0 where
  pub seen : List ℕ
  pub said : List ℕ
  pub read : left ≡ before_told seen left_new
  pub wrote : taken_new ≡ after_told taken said
  pub bounded : length seen ≤ limit + 1
  pub ends : Ends limit reply seen said left_new ended

-- an end that nothing broke off
abbrev pub EndsWhole : ℕ → (List ℕ → List ℕ) → Option (List ℕ) → Option (List ℕ) → List ℕ → Ended → Type 0
EndsWhole limit reply taken taken_new input Done = (taken_new ≡ after_told taken (whole_output limit reply input)) × (length input ≤ limit)
EndsWhole limit reply taken taken_new input TooMuchInput = (taken_new ≡ after_told taken (whole_output limit reply input)) × (limit < length input)
EndsWhole limit reply taken taken_new input Memory = Unit {0}
EndsWhole limit reply taken taken_new input ReadFault = Unit {0}
EndsWhole limit reply taken taken_new input WriteFault = Unit {0}

-- what was said is a first part of all that is said to an input, and all of it where nothing broke it off; the input
-- is what the source tells, where it tells
pub record SaysOf (limit : ℕ) (reply : List ℕ → List ℕ) (left taken taken_new : Option (List ℕ)) (ended : Ended) : Type 0 where
  pub input : List ℕ
  pub told : Tells left input
  pub front : AppendsFront taken taken_new (whole_output limit reply input)
  pub whole : EndsWhole limit reply taken taken_new input ended
