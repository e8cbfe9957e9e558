-- What calls on a disk that tells its moments leave, at each moment and at their end.
use Rattle.std.specs.Prelude.{◌≡◌, ℕ, Option, Some, None, IsSomeAnd, List, ◌++◌}
use Rattle.std.specs.List.{AllByRecursion}
use Rattle.outside_io.specs.Moments.{Moment, IsImage, settled}
use Rattle.outside_io.specs.Traces.{Trace, moments}

-- whatever a crash leaves at this moment has P
abbrev pub AllImages : (List ℕ → Type 0) → Moment → Type 0
AllImages P m = (image : List ℕ) → IsImage m image → P image

-- so it is at each moment since an earlier one
pub record Through (P : List ℕ → Type 0) (old new : Trace) : Type 0 where
  pub since : List Moment
  pub goes_on : moments new ≡ since ++ moments old
  pub each : AllByRecursion (AllImages P) since

-- what a crash leaves at a moment since has P, where the disk tells; and one that does not goes on so
abbrev pub Passes : (Trace → List ℕ → Type 0) → Option Trace → Option Trace → Type 0
Passes P None new = new ≡ None
Passes P (Some t) new = IsSomeAnd new (Through (P t) t)

-- nothing is pending
abbrev pub IsSettled : Moment → Type 0
IsSettled m = m ≡ settled m.contents

-- what a read gives has P now, and nothing is pending, where the disk tells
abbrev pub Leaves : (Trace → List ℕ → Type 0) → Option Trace → Option Trace → Type 0
Leaves P None new = new ≡ None
Leaves P (Some t) new = IsSomeAnd new (λ u. P t u.now.contents × IsSettled u.now)
