-- What the calls of a disk do to its moments, of which the newest comes first.
use Rattle.std.specs.Prelude.{◌≡◌, ◌⊎◌, ℕ, List, ◌∷◌, length, take, Option, Some, None, Result, MatchResult}
use Rattle.std.specs.Option.{option_map}
use Rattle.outside_io.specs.Moments.{Moment, IsImage, overlaid, writing, cutting, settled}

-- the moment now, and those before
pub record Trace : Type 0 where
  pub now : Moment
  pub past : List Moment

abbrev pub moments : Trace → List Moment
moments t = t.now ∷ t.past

-- one moment more
abbrev pub step : (Moment → Moment) → Trace → Trace
step f t = record { now = f t.now; past = moments t }

abbrev pub steps : (Moment → Moment) → Option Trace → Option Trace
steps f told = option_map (step f) told

-- a call failed: nothing was done, or it is under way and a read gives one of its images
abbrev pub Breaks : (Moment → List ℕ → Moment) → Option Trace → Option Trace → Type 0
Breaks half None new = new ≡ None
Breaks half (Some t) new = (new ≡ Some t) ⊎ ((contents : List ℕ) × (new ≡ Some (step (λ m. half m contents) t)) × IsImage (half t.now contents) contents)

abbrev pub Written : {E : Type 0} → ℕ → List ℕ → Option Trace → Option Trace → Result (Unit {0}) E → Type 0
Written at bytes old new result =
    MatchResult result (λ _. new ≡ steps (λ m. writing m at (length bytes) (overlaid m.contents at bytes)) old)
    (λ _. Breaks (λ m c. writing m at (length bytes) c) old new)

abbrev pub CutOff : {E : Type 0} → ℕ → Option Trace → Option Trace → Result (Unit {0}) E → Type 0
CutOff len old new result = MatchResult result (λ _. new ≡ steps (λ m. cutting m len (take len m.contents)) old)
    (λ _. Breaks (λ m c. cutting m len c) old new)

-- a sync that failed changed nothing
abbrev pub Synced : {E : Type 0} → Option Trace → Option Trace → Result (Unit {0}) E → Type 0
Synced old new result = MatchResult result (λ _. new ≡ steps (λ m. settled m.contents) old) (λ _. new ≡ old)
