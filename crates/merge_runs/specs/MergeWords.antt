-- What the words of a merge ask for.
use Rattle.std.specs.Prelude.{◌&&◌, ℕ, nat_le, List, [], ◌∷◌, length, Option, None, Result, Ok, Err, bytes_eq, codes, if◌then◌else◌}
use Rattle.whole_runs.specs.CommandLine.{number_word}
use Rattle.merge_program.specs.MergeWords.{TableRequest, table_request, AsksForTable}
use Rattle.merge_program.specs.declared.words.TableWords.{TableWords}
use Rattle.merge_program.specs.declared.words.MergeWordsFault.{MergeWordsFault}
use Rattle.merge_program.specs.declared.words.MergeWordsFault.TheVariants.{Usage, Param, Shares, Share}

-- the table whose shares are merged, and into how many it is dealt, or why the words ask for no merge
abbrev pub Asked : Type 0
Asked = Result TableWords MergeWordsFault

-- `merge W D M ORDER S FILE ..` with 1 to 1,024 files; all other words ask for no merge
abbrev pub merge_request : List (List ℕ) → Option TableRequest
merge_request [] = None
merge_request (name ∷ []) = None
merge_request (name ∷ w ∷ []) = None
merge_request (name ∷ w ∷ d ∷ []) = None
merge_request (name ∷ w ∷ d ∷ m ∷ []) = None
merge_request (name ∷ w ∷ d ∷ m ∷ order ∷ []) = None
merge_request (name ∷ w ∷ d ∷ m ∷ order ∷ s ∷ files) =
    if bytes_eq name (codes "merge") && nat_le 1 (length files) && nat_le (length files) 1024
    then table_request (number_word w) (number_word d) (number_word m) order (number_word s) else None

-- what the words ask for
abbrev pub AsksForMerge : List (List ℕ) → Asked → Type 0
AsksForMerge words = AsksForTable (merge_request words)

-- a test fails
abbrev pub FailsTest : Asked → Type 0
FailsTest (Ok merge) = ⊥
FailsTest (Err Usage) = ⊥
FailsTest (Err (Param fault)) = Unit {0}
FailsTest (Err (Shares n)) = Unit {0}
FailsTest (Err (Share i)) = Unit {0}
