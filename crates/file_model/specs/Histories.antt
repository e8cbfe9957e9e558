-- What befalls a disk that was empty at first: runs that build the file of parameters or go on with it, and crashes, one after the other.
use Rattle.std.specs.Prelude.{◌≡◌, ℕ, Option, Some, IfSome, IsSomeAnd, List, [], ◌∷◌, ◌++◌, get_or}
use Rattle.outside_io.specs.Moments.{Moment, IsImage, settled}
use Rattle.outside_io.specs.Traces.{Trace, moments}
use Rattle.page_codec.specs.declared.params.Params.{Params}
use Rattle.page_file.specs.Stays.{IsSettled}
use Rattle.file_model.specs.Prefixes.{IsFile, HasPages}
use Rattle.file_model.specs.Stays.{Stays}

-- a run passed through moments, the newest first; or a crash left an image
pub data Step : Type 0 where
  Run : List Moment → Step
  Crash : List ℕ → Step

-- the moments of steps; of both the newest come first
abbrev pub moments_of : List Step → List Moment
moments_of [] = []
moments_of (Run since ∷ steps) = since ++ moments_of steps
moments_of (Crash image ∷ steps) = settled image ∷ moments_of steps

-- the moment at which the disk is behind steps; before the first one it is empty, and nothing is pending
abbrev pub now_after : List Step → Moment
now_after steps = get_or (moments_of steps) 0 (settled [])

-- the moments of a run that began at a moment, up to its end, or up to one at which it was cut off: the first pages that every image had when it
-- began, every image has at each of its moments
pub record IsRun (params : Params) (start : Moment) (since : List Moment) : Type 0 where
  pub old : Trace
  pub new : Trace
  pub begins : old.now ≡ start
  pub unreached : List Moment
  pub goes_on : moments new ≡ unreached ++ (since ++ moments old)
  pub stays : (k : ℕ) → Stays (HasPages params k) (Some old) (Some new)

-- each step goes on from where those before it left the disk, and a crash leaves an image of that moment
abbrev pub IsHistory : Params → List Step → Type 0
IsHistory params [] = Unit {0}
IsHistory params (Run since ∷ steps) = IsRun params (now_after steps) since × IsHistory params steps
IsHistory params (Crash image ∷ steps) = IsImage (now_after steps) image × IsHistory params steps

-- the moments since are one step more of the history
pub record IsContinued (params : Params) (steps : List Step) (old new : Trace) : Type 0 where
  pub since : List Moment
  pub goes_on : moments new ≡ since ++ moments old
  pub history : IsHistory params (Run since ∷ steps)
  pub now : now_after (Run since ∷ steps) ≡ new.now

-- whatever history of the parameters left the disk at its moment before, it goes on to the moment now, where the disk tells
abbrev pub Continues : Params → Option Trace → Option Trace → Type 0
Continues params old new = (steps : List Step) → IsHistory params steps
    → IfSome old (λ t. t.now ≡ now_after steps → IsSomeAnd new (IsContinued params steps t))

-- and the file of the parameters stands there now, with nothing pending
abbrev pub EndsInFile : Params → Option Trace → Option Trace → Type 0
EndsInFile params old new = (steps : List Step) → IsHistory params steps
    → IfSome old (λ t. t.now ≡ now_after steps → IsSomeAnd new (λ u. IsFile params u.now.contents × IsSettled u.now))
