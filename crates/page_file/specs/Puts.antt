-- What single calls on the disk answer. No public clause cites these, so a reader need not believe them.
use Rattle.std.specs.Prelude.{◌≡◌, ◌⊎◌, ℕ, ◌≤◌, List, [], length, take, drop, Option}
use Rattle.outside_io.specs.Moments.{IsImage, overlaid, writing, cutting, settled}
use Rattle.outside_io.specs.Traces.{Trace, steps}

-- these bytes stand at the place
abbrev pub StandsAt : ℕ → List ℕ → List ℕ → Type 0
StandsAt place bytes contents = bytes ≡ take (length bytes) (drop place contents)

-- what a write that is then synced may leave on its way
abbrev pub IsPut : ℕ → List ℕ → Trace → List ℕ → Type 0
IsPut at bytes t image = IsImage (writing t.now at (length bytes) []) image ⊎ (image ≡ overlaid t.now.contents at bytes)

abbrev pub put_steps : ℕ → List ℕ → Option Trace → Option Trace
put_steps at bytes told = steps (λ m. settled m.contents) (steps (λ m. writing m at (length bytes) (overlaid m.contents at bytes)) told)

-- what a cut that stands between two syncs may leave on its way
pub record IsCutBehind (end : ℕ) (t : Trace) (image : List ℕ) : Type 0 where
  pub long : end ≤ length image
  pub front : image ≡ take (length image) t.now.contents

abbrev pub cut_steps : ℕ → Option Trace → Option Trace
cut_steps end told =
    steps (λ m. settled m.contents) (steps (λ m. cutting m end (take end m.contents)) (steps (λ m. settled m.contents) told))
