-- What work that copies an old file tells, and what it leaves.
use Rattle.std.proofs.Common.{◌≡◌, ◌⊎◌, ◌<◌, inl, inr, ℕ, true, false, List, [], ◌∷◌, length, Option, Some, None, refl, sym, ap, subst, ◌∙◌, arith}
use Rattle.std.specs.Prelude.{Ok, Err, Result, IfSome}
use Rattle.outside_io.specs.Traces.{Trace}
use Rattle.page_codec.specs.declared.params.Params.{Params}
use Rattle.page_codec.specs.declared.page.Page.{Page}
use Rattle.page_codec.specs.Bounds.{IsParams}
use Rattle.page_file.specs.Files.{file_of}
use Rattle.page_file.specs.Stays.{Leaves}
use Rattle.file_model.specs.FinalRows.{EndsDone}
use Rattle.file_model.specs.Prefixes.{IsFile}
use Rattle.table_migration.specs.OldFiles.{IsOldFile}
use Rattle.table_migration.specs.Migrations.{Answer, IsReading, MigrationEnds, AreOldPages, Climbs}
use Rattle.table_migration.specs.Migrations.Answer.{Migrated, BadPage, Misfit, NotDone}
use Rattle.table_migration.specs.Answers.{fault_answer, IsBegunFault}
use Rattle.table_migration.specs.declared.fault.MigrateFault.{MigrateFault}
use Rattle.table_migration.specs.declared.fault.MigrateFault.TheVariants as fault
use Rattle.table_migration.specs.declared.migrating.Migrated.{Migrated as WasMigrated}
use Rattle.table_migration.proofs.Readings.{one_reading}
use Rattle.whole_runs.specs.declared.command.Command.TheVariants.{Migrate}
use Rattle.whole_runs.specs.declared.status.Status.{Status}
use Rattle.whole_runs.specs.declared.status.Status.TheVariants as status
use Rattle.whole_runs.specs.Copies.{copied_work, IsRefusedCopy, IsCopy}
use Rattle.whole_runs.specs.FileTexts.{exists_line}
use Rattle.whole_runs.specs.Works.{Work}
use Rattle.whole_runs.specs.Works.Work.{Writes}
use Rattle.whole_runs.specs.Wanted.{IsWork}
use Rattle.whole_runs.specs.Outcomes.{Has, Outcome, contents_of}
use Rattle.whole_runs.proofs.Outcomes.{outcome_over}
use Rattle.datamine_program.specs.Inner.{EndsAs, EndsCopy, copy_end, SaysOfCopy, IsCopyFault, IsFileWork, IsRun}
use Rattle.datamine_program.specs.Leaving.{Concludes, MigrateLeaves}
use Rattle.datamine_program.proofs.FileRuns.{named_outcome}

-- ---- the line

no_copy : (contents : List ℕ) (work : Work) → contents ≡ [] → ¬ (IsCopy contents None work)
no_copy [] work empty is = is
no_copy (byte ∷ bytes) work empty is = absurd cc

is_copy : (contents given : List ℕ) (answer : Answer) → contents ≡ [] → MigrationEnds given answer → IsCopy contents (Some given) (copied_work answer)
is_copy [] given answer empty ends = record { answer = answer; ends = ends; told = refl }
is_copy (byte ∷ bytes) given answer empty ends = absurd cc

-- what is said of the source's bytes is told
pub copied_outcome : (told : Option Trace) (left : Option (List ℕ)) (answer : Answer) → SaysOfCopy told left answer
    → (taken taken_new : Option (List ℕ)) (result : Status) → Has (copied_work answer) left taken taken_new result
    → Outcome (Ok Migrate) (contents_of told) left taken taken_new result
copied_outcome None left answer says taken taken_new result has = record {
  input = has.input;
  told = has.told;
  front = λ work is. absurd is;
  whole = λ told. let some : false ≡ true = told.0 tt in absurd cc;
}
copied_outcome (Some t) None answer says taken taken_new result has = record {
  input = has.input;
  told = has.told;
  front = λ work is. absurd (no_copy t.now.contents work says.0 is);
  whole = λ told. let some : false ≡ true = told.1 refl in absurd cc;
}
copied_outcome (Some t) (Some given) answer says taken taken_new result has =
    outcome_over (Ok Migrate) (Some t.now.contents) (copied_work answer) (Some given) taken taken_new result
    (is_copy t.now.contents given answer says.0 says.1) has

refused_copy : (n : ℕ) (contents : List ℕ) → n ≡ length contents → 0 < n → IsRefusedCopy contents (Writes (exists_line n) status.NotATable)
refused_copy n [] is some = omega (arith, is, some)
refused_copy n (byte ∷ bytes) is some = ap (λ k. Writes (exists_line k) status.NotATable) is

exists_work : (n : ℕ) (told : Option Trace) → IfSome told (λ t. (n ≡ length t.now.contents) × (0 < n))
    → IsFileWork (Ok Migrate) told (Writes (exists_line n) status.NotATable)
exists_work n None says = tt
exists_work n (Some t) says = refused_copy n t.now.contents says.0 says.1

-- bytes stand on the disk
pub exists_outcome : (n : ℕ) (told : Option Trace) → IfSome told (λ t. (n ≡ length t.now.contents) × (0 < n))
    → (left taken taken_new : Option (List ℕ)) (result : Status) → Has (Writes (exists_line n) status.NotATable) left taken taken_new result
    → Outcome (Ok Migrate) (contents_of told) left taken taken_new result
exists_outcome n told says left taken taken_new result has =
    named_outcome (Ok Migrate) tt told (Writes (exists_line n) status.NotATable) left taken taken_new result (exists_work n told says) has

-- ---- what is told of a fault

-- bytes that were found are counted
abbrev pub IsCounted : Option Trace → MigrateFault → Type 0
IsCounted told e = (n : ℕ) → ◌≡◌ {A = Result WasMigrated MigrateFault} (Err e) (Err (fault.Exists n)) → IfSome told (λ t. (n ≡ length t.now.contents) × (0 < n))

pub fault_tells : (e : MigrateFault) (told : Option Trace) (left : Option (List ℕ))
    → IfSome (fault_answer e) (λ answer. IfSome left (λ bytes. MigrationEnds bytes answer)) → IsCounted told e
    → (IsBegunFault e → IfSome told (λ t. t.now.contents ≡ [])) → IsCopyFault told left e
fault_tells fault.DiskFault told left ends counted begun = tt
fault_tells fault.ReadFault told left ends counted begun = tt
fault_tells (fault.Exists n) told left ends counted begun = counted n refl
fault_tells (fault.BadPage i) told left ends counted begun = (begun tt, ends)
fault_tells (fault.Misfit i) told left ends counted begun = (begun tt, ends)
fault_tells (fault.NotDone n) told left ends counted begun = (begun tt, ends)
fault_tells (fault.Memory f) told left ends counted begun = tt

-- ---- how it ends

fault_end : (e : MigrateFault) → EndsCopy (copy_end e)
fault_end fault.DiskFault = inr (inr (inl refl))
fault_end fault.ReadFault = inr (inr (inr (inl refl)))
fault_end (fault.Exists n) = inr (inr (inr (inr (inr (inl refl)))))
fault_end (fault.BadPage i) = inr (inr (inr (inr (inr (inl refl)))))
fault_end (fault.Misfit i) = inr (inr (inr (inr (inr (inl refl)))))
fault_end (fault.NotDone n) = inr (inr (inr (inr (inr (inr refl)))))
fault_end (fault.Memory f) = inr (inl refl)

-- it ends as is told, or memory was wanting or a write failed
pub copy_ends : (end result : Status) → EndsCopy end → EndsAs end result → EndsCopy result
copy_ends end result fits (inl is) = subst EndsCopy (sym is) fits
copy_ends end result fits (inr (inl is)) = inr (inl is)
copy_ends end result fits (inr (inr is)) = inr (inr (inr (inr (inl is))))

pub fault_ends : (e : MigrateFault) (result : Status) → EndsAs (copy_end e) result → EndsCopy result
fault_ends e result ends = copy_ends (copy_end e) result (fault_end e) ends

not_usage : (result : Status) → EndsCopy result → ¬ (result ≡ status.Usage)
not_usage result (inl e) is = cc
not_usage result (inr (inl e)) is = cc
not_usage result (inr (inr (inl e))) is = cc
not_usage result (inr (inr (inr (inl e)))) is = cc
not_usage result (inr (inr (inr (inr (inl e))))) is = cc
not_usage result (inr (inr (inr (inr (inr (inl e)))))) is = cc
not_usage result (inr (inr (inr (inr (inr (inr e)))))) is = cc

not_params : (result : Status) → EndsCopy result → ¬ (result ≡ status.Params)
not_params result (inl e) is = cc
not_params result (inr (inl e)) is = cc
not_params result (inr (inr (inl e))) is = cc
not_params result (inr (inr (inr (inl e)))) is = cc
not_params result (inr (inr (inr (inr (inl e))))) is = cc
not_params result (inr (inr (inr (inr (inr (inl e)))))) is = cc
not_params result (inr (inr (inr (inr (inr (inr e)))))) is = cc

-- a status that is not want of memory or a failed write is that of the fault
module _ (e : MigrateFault) (result end : Status) (is : result ≡ end) where
  end_is : ¬ (end ≡ status.Memory) → ¬ (end ≡ status.WriteFault) → EndsAs (copy_end e) result → copy_end e ≡ end
  end_is memory write (inl same) = sym same ∙ is
  end_is memory write (inr (inl other)) = absurd (memory (sym is ∙ other))
  end_is memory write (inr (inr other)) = absurd (write (sym is ∙ other))

not_done : (e : MigrateFault) → ¬ (copy_end e ≡ status.Done)
not_done fault.DiskFault is = cc
not_done fault.ReadFault is = cc
not_done (fault.Exists n) is = cc
not_done (fault.BadPage i) is = cc
not_done (fault.Misfit i) is = cc
not_done (fault.NotDone n) is = cc
not_done (fault.Memory f) is = cc

never_done : (e : MigrateFault) (result : Status) → EndsAs (copy_end e) result → ¬ (result ≡ status.Done)
never_done e result ends is = not_done e (end_is e result status.Done is (λ a. cc) (λ a. cc) ends)

the_disk : (e : MigrateFault) → copy_end e ≡ status.DiskFault → e ≡ fault.DiskFault
the_disk fault.DiskFault is = refl
the_disk fault.ReadFault is = absurd cc
the_disk (fault.Exists n) is = absurd cc
the_disk (fault.BadPage i) is = absurd cc
the_disk (fault.Misfit i) is = absurd cc
the_disk (fault.NotDone n) is = absurd cc
the_disk (fault.Memory f) is = absurd cc

the_source : (e : MigrateFault) → copy_end e ≡ status.ReadFault → e ≡ fault.ReadFault
the_source fault.DiskFault is = absurd cc
the_source fault.ReadFault is = refl
the_source (fault.Exists n) is = absurd cc
the_source (fault.BadPage i) is = absurd cc
the_source (fault.Misfit i) is = absurd cc
the_source (fault.NotDone n) is = absurd cc
the_source (fault.Memory f) is = absurd cc

-- a call of the disk failed, or one of the source, where the run ends so
pub disk_failed : (e : MigrateFault) (result : Status) → EndsAs (copy_end e) result → result ≡ status.DiskFault → e ≡ fault.DiskFault
disk_failed e result ends is = the_disk e (end_is e result status.DiskFault is (λ a. cc) (λ a. cc) ends)

pub source_failed : (e : MigrateFault) (result : Status) → EndsAs (copy_end e) result → result ≡ status.ReadFault → e ≡ fault.ReadFault
source_failed e result ends is = the_source e (end_is e result status.ReadFault is (λ a. cc) (λ a. cc) ends)

-- the source is read only over a disk that was empty
pub empty_then : (e : MigrateFault) (told : Option Trace) (result : Status) → EndsAs (copy_end e) result
    → (IsBegunFault e → IfSome told (λ t. t.now.contents ≡ [])) → result ≡ status.ReadFault → IfSome told (λ t. t.now.contents ≡ [])
empty_then e told result ends begun is = begun (subst IsBegunFault (sym (source_failed e result ends is)) tt)

-- what is told of the end cannot be want of memory or a call that failed
no_end : (result end : Status) → Concludes result → result ≡ end → ¬ (Concludes end) → ⊥
no_end result end concludes is none = none (subst Concludes is concludes)

no_memory : ¬ (Concludes status.Memory)
no_memory (inl e) = cc
no_memory (inr (inl e)) = cc
no_memory (inr (inr e)) = cc

no_write : ¬ (Concludes status.WriteFault)
no_write (inl e) = cc
no_write (inr (inl e)) = cc
no_write (inr (inr e)) = cc

no_disk : ¬ (Concludes status.DiskFault)
no_disk (inl e) = cc
no_disk (inr (inl e)) = cc
no_disk (inr (inr e)) = cc

no_read : ¬ (Concludes status.ReadFault)
no_read (inl e) = cc
no_read (inr (inl e)) = cc
no_read (inr (inr e)) = cc

concluded : (end result : Status) → Concludes result → EndsAs end result → Concludes end
concluded end result concludes (inl is) = subst Concludes is concludes
concluded end result concludes (inr (inl is)) = absurd (no_end result status.Memory concludes is no_memory)
concluded end result concludes (inr (inr is)) = absurd (no_end result status.WriteFault concludes is no_write)

-- ---- what is left

module _ (old new : Option Trace) where
  -- the pages that reading passes stand there
  abbrev pub PagesStand : Option (List ℕ) → Type 0
  PagesStand left = IfSome left (λ given. (pages : List Page) → AreOldPages given pages → Leaves (λ t bytes. bytes ≡ file_of pages) old new)

  -- what a migration says that it leaves
  abbrev pub LeftSo : Option (List ℕ) → Answer → Type 0
  LeftSo left answer = IfSome left (λ given. (pages : List Page) → IsReading given pages answer → Leaves (λ t bytes. bytes ≡ file_of pages) old new)

  pages_stand : (left : Option (List ℕ)) (answer : Answer) → IfSome left (λ given. MigrationEnds given answer) → LeftSo left answer → PagesStand left
  pages_stand None answer ends so = tt
  pages_stand (Some given) answer ends so = λ pages are.
      let (other, reads) = are in
      let (others, also) = ends in
      let (same, once) = one_reading given pages others other answer reads also in
      so pages (subst (λ a. IsReading given pages a) once reads)

  over_empty : (X : Type 0) → X → (told : Option Trace) → IfSome told (λ t. t.now.contents ≡ [] → X)
  over_empty X x None = tt
  over_empty X x (Some t) = λ empty. x

  over_bytes : (X : Type 0) (n : ℕ) (told : Option Trace) → IfSome told (λ t. (n ≡ length t.now.contents) × (0 < n))
      → IfSome told (λ t. t.now.contents ≡ [] → X)
  over_bytes X n None counted = tt
  over_bytes X n (Some t) counted = λ empty.
      let none : length t.now.contents ≡ 0 = ap length empty in
      let is = counted.0 in
      let some = counted.1 in
      absurd (omega (arith, none, is, some))

  refused_pages : (e : MigrateFault) (left : Option (List ℕ)) → Concludes (copy_end e)
      → IfSome (fault_answer e) (λ answer. IfSome left (λ given. MigrationEnds given answer)) → IfSome (fault_answer e) (LeftSo left)
      → IsCounted old e → IfSome old (λ t. t.now.contents ≡ [] → PagesStand left)
  refused_pages fault.DiskFault left concludes ends so counted = absurd (no_disk concludes)
  refused_pages fault.ReadFault left concludes ends so counted = absurd (no_read concludes)
  refused_pages (fault.Exists n) left concludes ends so counted = over_bytes (PagesStand left) n old (counted n refl)
  refused_pages (fault.BadPage i) left concludes ends so counted = over_empty (PagesStand left) (pages_stand left (BadPage i) ends so) old
  refused_pages (fault.Misfit i) left concludes ends so counted = over_empty (PagesStand left) (pages_stand left (Misfit i) ends so) old
  refused_pages (fault.NotDone n) left concludes ends so counted = over_empty (PagesStand left) (pages_stand left (NotDone n) ends so) old
  refused_pages (fault.Memory f) left concludes ends so counted = absurd (no_memory concludes)

  done_last : (params : Params) (n : ℕ) (left : Option (List ℕ)) → IfSome left (λ given. MigrationEnds given (Migrated params n))
      → IfSome left (λ given. (pages : List Page) → AreOldPages given pages → EndsDone pages)
  done_last params n None ends = tt
  done_last params n (Some given) ends = λ pages are.
      let (other, reads) = are in
      let (others, also) = ends in
      let (same, once) = one_reading given pages others other (Migrated params n) reads also in
      let end = also.ends in
      subst EndsDone (sym same) end.0

  -- the file of its parameters stands there
  abbrev pub FileStands : Option (List ℕ) → Type 0
  FileStands left = IfSome left (λ given. (params : Params) → IsParams params → IsOldFile params given → Leaves (λ t bytes. IsFile params bytes) old new)

  file_stands : (migrated : WasMigrated) (left : Option (List ℕ))
      → IfSome left (λ given. (params : Params) → IsParams params → IsOldFile params given
      → (migrated.params ≡ params) × Leaves (λ t bytes. IsFile params bytes) old new)
      → FileStands left
  file_stands migrated None file = tt
  file_stands migrated (Some given) file = λ params fits is. let both = file params fits is in both.1

  module _ (left : Option (List ℕ)) (stands : IfSome old (λ t. 0 < length t.now.contents → new ≡ old))
      (parts : IfSome left (λ given. (pages : List Page) → AreOldPages given pages → Climbs pages old new)) where
    -- the file was copied
    pub migrated_leaves : (migrated : WasMigrated) (result : Status)
        → IfSome left (λ given. MigrationEnds given (Migrated migrated.params migrated.pages)) → LeftSo left (Migrated migrated.params migrated.pages)
        → IfSome left (λ given. (params : Params) → IsParams params → IsOldFile params given
        → (migrated.params ≡ params) × Leaves (λ t bytes. IsFile params bytes) old new)
        → MigrateLeaves left result old new
    migrated_leaves migrated result ends so file = record {
      pages = λ concludes. over_empty (PagesStand left) (pages_stand left (Migrated migrated.params migrated.pages) ends so) old;
      last = λ done. done_last migrated.params migrated.pages left ends;
      file = λ done. file_stands migrated left file;
      stands = stands;
      climbs = parts;
    }

    -- or it was not
    pub refused_leaves : (e : MigrateFault) (result : Status) → EndsAs (copy_end e) result
        → IfSome (fault_answer e) (λ answer. IfSome left (λ given. MigrationEnds given answer)) → IfSome (fault_answer e) (LeftSo left)
        → IsCounted old e → MigrateLeaves left result old new
    refused_leaves e result end ends so counted = record {
      pages = λ concludes. refused_pages e left (concluded (copy_end e) result concludes end) ends so counted;
      last = λ done. absurd (never_done e result end done);
      file = λ done. absurd (never_done e result end done);
      stands = stands;
      climbs = parts;
    }

-- ---- the run

not_empty : (contents : List ℕ) (work : Work) → contents ≡ [] → ¬ (IsRefusedCopy contents work)
not_empty [] work empty is = is
not_empty (byte ∷ bytes) work empty is = absurd cc

no_refusal : (told : Option Trace) → IfSome told (λ t. t.now.contents ≡ []) → (work : Work) → ¬ (IsWork (Ok Migrate) (contents_of told) work)
no_refusal None empty work is = is
no_refusal (Some t) empty work is = not_empty t.now.contents work empty is

pub copy_run : (told : Option Trace) (left left_new taken taken_new : Option (List ℕ)) (result : Status)
    → Outcome (Ok Migrate) (contents_of told) left taken taken_new result → EndsCopy result
    → (result ≡ status.ReadFault → IfSome told (λ t. t.now.contents ≡ [])) → IsRun (Ok Migrate) (contents_of told) left left_new taken taken_new result
copy_run told left left_new taken taken_new result outcome ends empty = record {
  outcome = outcome;
  answered = λ e work is. absurd (no_refusal told (empty e) work is);
  read_fault = λ e. tt;
  done = λ e asks. absurd asks;
  takes = λ lines. absurd (lines refl);
  usage = not_usage result ends;
  params = not_params result ends;
  disk_fault = λ e. tt;
}

some_bytes : (contents : List ℕ) (work : Work) → IsRefusedCopy contents work → 0 < length contents
some_bytes [] work is = absurd is
some_bytes (byte ∷ bytes) work is = omega arith

-- where bytes are refused, what holds over them holds
pub over_refusal : (X : Type 0) (told : Option Trace) → IfSome told (λ t. 0 < length t.now.contents → X) → (work : Work)
    → IsWork (Ok Migrate) (contents_of told) work → X
over_refusal X None holds work is = absurd is
over_refusal X (Some t) holds work is = holds (some_bytes t.now.contents work is)
