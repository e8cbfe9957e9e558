-- Many disks: what they tell, and their counts of faults.
use Rattle.std.specs.Prelude.{◌≡◌, ℕ, ◌<◌, ◌≤◌, List, [], length, get_or, Option, None, IfSome, IsSomeAnd}
use Rattle.outside_io.specs.Causes.{Rose}
use Rattle.outside_io.specs.Traces.{Trace}

-- there are as many counts, and none fell
pub record NoneFell (before now : List ℕ) : Type 0 where
  pub count : length now ≡ length before
  pub each : (k : ℕ) → k < length before → get_or before k 0 ≤ get_or now k 0

-- the count of one of them rose
pub record AnyRose (before now : List ℕ) : Type 0 where
  pub disk : ℕ
  pub is_disk : disk < length before
  pub rose : Rose (get_or before disk 0) (get_or now disk 0)

-- as many files as disks, and each disk that tells its contents tells those of its file
pub record AreTold (told : List (Option Trace)) (files : List (List ℕ)) : Type 0 where
  pub count : length files ≡ length told
  pub each : (k : ℕ) → k < length told → IfSome (get_or told k None) (λ t. get_or files k [] ≡ t.now.contents)

-- each disk tells the contents of its file
pub record TellAll (told : List (Option Trace)) (files : List (List ℕ)) : Type 0 where
  pub count : length files ≡ length told
  pub each : (k : ℕ) → k < length told → IsSomeAnd (get_or told k None) (λ t. get_or files k [] ≡ t.now.contents)
