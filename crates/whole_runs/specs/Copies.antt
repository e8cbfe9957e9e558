-- What is to be done with an old file in the source, for a disk with some contents.
use Rattle.std.specs.Prelude.{◌≡◌, ℕ, List, [], ◌∷◌, length, Option, IsSomeAnd}
use Rattle.table_migration.specs.Migrations.{Answer, MigrationEnds}
use Rattle.table_migration.specs.Migrations.Answer.{Migrated, BadPage, Misfit, NotDone}
use Rattle.whole_runs.specs.declared.status.Status.TheVariants as status
use Rattle.whole_runs.specs.FileTexts.{exists_line, unreadable_line, misplaced_line, unfinished_line, migrated_line}
use Rattle.whole_runs.specs.Works.{Work}
use Rattle.whole_runs.specs.Works.Work.{Writes}

-- the line of what is said of an old file
abbrev pub copied_work : Answer → Work
copied_work (Migrated params pages) = Writes (migrated_line params pages) status.Done
copied_work (BadPage i) = Writes (unreadable_line i) status.NotATable
copied_work (Misfit i) = Writes (misplaced_line i) status.NotATable
copied_work (NotDone pages) = Writes (unfinished_line pages) status.NotComplete

-- what is said of the bytes of an old file
pub record IsCopied (bytes : List ℕ) (work : Work) : Type 0 where
  pub answer : Answer
  pub ends : MigrationEnds bytes answer
  pub told : work ≡ copied_work answer

-- bytes stand on the disk, and how many is told, whatever the source gives
abbrev pub IsRefusedCopy : List ℕ → Work → Type 0
IsRefusedCopy [] work = ⊥
IsRefusedCopy (byte ∷ bytes) work = work ≡ Writes (exists_line (length (byte ∷ bytes))) status.NotATable

-- so over a disk with bytes; over an empty disk what the source tells is said of, where it tells
abbrev pub IsCopy : List ℕ → Option (List ℕ) → Work → Type 0
IsCopy [] left work = IsSomeAnd left (λ bytes. IsCopied bytes work)
IsCopy (byte ∷ bytes) left work = IsRefusedCopy (byte ∷ bytes) work
