-- Images of a disk in memory that a test may pick.
use Rattle.std.specs.Prelude.{◌≡◌, ℕ, ◌<◌, nat_lt, not, ◌&&◌, if◌then◌else◌, List, length, slice_index}
use Rattle.outside_io.specs.Moments.{Moment, is_open}
use Rattle.outside_io.specs.declared.crashing.Pick.{Pick}
use Rattle.outside_io.specs.declared.crashing.Pick.TheVariants as picks

-- the byte at a place, where what is open holds b
abbrev pub filled_at : ℕ → Moment → ℕ → ℕ
filled_at b m i = if nat_lt i (length m.synced) && not (is_open m.open_ranges i) then slice_index m.synced i else b

-- the longest image whose open bytes all hold b
pub record IsFilled (b : ℕ) (m : Moment) (image : List ℕ) : Type 0 where
  pub longest : length image ≡ m.high
  pub cells : (i : ℕ) → i < m.high → slice_index image i ≡ filled_at b m i

abbrev pub IsPicked : Pick → Moment → List ℕ → Type 0
IsPicked picks.Synced m image = image ≡ m.synced
IsPicked picks.Read m image = image ≡ m.contents
IsPicked (picks.Filled b) m image = IsFilled b m image
