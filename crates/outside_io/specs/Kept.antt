-- What a disk in memory shows: its moments, and which calls fail.
use Rattle.std.specs.Prelude.{◌≡◌, ◌⊎◌, IsTrue, ℕ, ◌==◌, ◌||◌, List, Bool, false, Option, Result, MatchResult}
use Rattle.std.specs.Option.{option_map_or}
use Rattle.outside_io.specs.Mem.{up, is_listed}
use Rattle.outside_io.specs.Traces.{Trace}

-- the number of the next call and the calls that fail; the number of the next change, that of the change at which the disk
-- stops, and whether it has stopped; the counts of faults and of calls that found no memory
pub record Counts : Type 0 where
  pub calls : ℕ
  pub fails : List ℕ
  pub changes : ℕ
  pub stop : Option ℕ
  pub is_stopped : Bool
  pub faults : ℕ
  pub starved : ℕ

-- a disk in memory: its moments and its counts
pub record Kept : Type 0 where
  pub trace : Trace
  pub counts : Counts

-- the next change is the one at which it stops
abbrev pub is_stop : Counts → Bool
is_stop c = option_map_or (λ n. n == c.changes) c.stop false

-- a call is counted
abbrev pub called : Counts → Counts
called c = record c { calls = up c.calls }

-- and it is one of write_at, cut and sync
abbrev pub changing : Counts → Counts
changing c = record (called c) { changes = up c.changes; is_stopped = c.is_stopped || is_stop c }

-- the next call is to fail, if it is one of len and read_at
abbrev pub is_refused : Counts → Bool
is_refused c = c.is_stopped || is_listed c.fails c.calls

-- the next call is to fail, if it is one of write_at, cut and sync
abbrev pub is_change_refused : Counts → Bool
is_change_refused c = (c.is_stopped || is_stop c) || is_listed c.fails c.calls

-- a call failed
abbrev pub failed : Counts → Counts
failed c = record c { faults = up c.faults }

-- a call failed, and found no memory
abbrev pub starved : Counts → Counts
starved c = record (failed c) { starved = up c.starved }

-- a call found no memory, and left the disk as it was
abbrev pub Starves : Kept → Kept → Type 0
Starves old new = (new.trace ≡ old.trace) × (new.counts ≡ starved (changing old.counts))

-- a call was to fail, and left the disk as such a call leaves it
abbrev pub Breaks : (Trace → Trace) → Kept → Kept → Type 0
Breaks broken old new = IsTrue (is_change_refused old.counts) × (new.trace ≡ broken old.trace) × (new.counts ≡ failed (changing old.counts))

-- a change failed exactly where it was to fail, and then broke off so, or where it found no memory, and then changed nothing
abbrev pub Changes : {T E : Type 0} → (Trace → Trace) → Kept → Kept → Result T E → Type 0
Changes broken old new result =
    MatchResult result
    (λ _. (is_change_refused old.counts ≡ false) × (new.counts ≡ changing old.counts))
    (λ _. Breaks broken old new ⊎ Starves old new)
