-- What single steps of the code answer. No public clause cites these, so a reader need not believe them.
-- What a record of changes stands for.
use Rattle.std.specs.Prelude.{◌≡◌, ℕ, List, [], ◌∷◌, length, take}
use Rattle.outside_io.specs.Moments.{Moment, IsImage, overlaid, writing, cutting, settled}
use Rattle.outside_io.specs.Traces.{Trace, step}
use Rattle.outside_io.specs.declared.history.Change.{Change}
use Rattle.outside_io.specs.declared.history.Change.TheVariants as changes

abbrev pub after_change : Change → Moment → Moment
after_change (changes.Wrote at v) m = writing m at (length v.items) (overlaid m.contents at v.items)
after_change (changes.Broke at n) m = writing m at n m.contents
after_change (changes.Cut n) m = cutting m n (take n m.contents)
after_change (changes.BrokeOff n) m = cutting m n m.contents
after_change changes.Synced m = settled m.contents

-- the oldest change first
abbrev pub replay_from : Trace → List Change → Trace
replay_from t [] = t
replay_from t (c ∷ cs) = replay_from (step (after_change c) t) cs

abbrev pub replay : List ℕ → List Change → Trace
replay start cs = replay_from (record { now = settled start; past = [] }) cs

-- these bytes are what a read gives, and an image
pub record IsKept (t : Trace) (bytes : List ℕ) : Type 0 where
  pub same : bytes ≡ t.now.contents
  pub image : IsImage t.now bytes
