-- What a build tells, and what it leaves.
use Rattle.std.proofs.Common.{◌≡◌, ◌⊎◌, inl, inr, ℕ, List, [], ◌∷◌, Option, Some, None, refl, sym, subst, ◌∙◌}
use Rattle.std.specs.Prelude.{Ok, IfSome, IsTrue, codes}
use Rattle.outside_io.specs.Traces.{Trace}
use Rattle.zeta_model.specs.declared.Letter.{Letter}
use Rattle.zeta_model.specs.Words.{is_admissible}
use Rattle.zeta_model.proofs.WordLemmas.{admissible-has_index}
use Rattle.page_codec.specs.declared.params.Params.{Params}
use Rattle.page_codec.specs.Bounds.{IsParams}
use Rattle.page_file.specs.Stays.{Leaves}
use Rattle.file_model.specs.Prefixes.{IsPrefix, IsFile, HasPages}
use Rattle.file_model.specs.Builds.{Figures, Answer, BuildEnds, IsLeft}
use Rattle.file_model.specs.Builds.Answer.{NoInverseRelation, Built}
use Rattle.file_model.specs.Stays.{Stays}
use Rattle.file_model.proofs.LeftFiles.{built_file, broken_file}
use Rattle.file_model.proofs.OneFile.{nothing_is_prefix}
use Rattle.file_model.proofs.PagesExist.{pages_exist}
use Rattle.table_build.specs.Answers.{fault_answer, IsWorkedFault, IsRefusedFault}
use Rattle.table_build.specs.declared.fault.BuildFault.{BuildFault}
use Rattle.table_build.specs.declared.fault.BuildFault.TheVariants as fault
use Rattle.whole_runs.specs.declared.command.Command.TheVariants.{Build}
use Rattle.whole_runs.specs.declared.status.Status.{Status}
use Rattle.whole_runs.specs.declared.status.Status.TheVariants as status
use Rattle.whole_runs.specs.FileWorks.{told_work}
use Rattle.datamine_program.specs.Inner.{EndsFile, IsFileWork, CanTellFault, StatusOfFault, IsBuildFault}
use Rattle.datamine_program.specs.Leaving.{AreBegun, BuildLeaves}

-- the line of what is said of the bytes is the work
pub build_work : (params : Params) (told : Option Trace) (answer : Answer) → IfSome told (λ t. BuildEnds params t.now.contents answer)
    → IsFileWork (Ok (Build params)) told (told_work (codes "built") answer)
build_work params None answer ends = tt
build_work params (Some t) answer ends = record { answer = answer; ends = ends; told = refl }

-- what is told of a build that went wrong
pub fault_told : (params : Params) (told : Option Trace) (e : BuildFault)
    → IfSome (fault_answer e) (λ answer. IfSome told (λ t. BuildEnds params t.now.contents answer))
    → ((i : ℕ) → e ≡ fault.BadPage i → told ≡ None) → ((i : ℕ) → e ≡ fault.Differs i → told ≡ None) → IsBuildFault params told e
fault_told params told fault.DiskFault ends bad differs = tt
fault_told params told (fault.Exists n) ends bad differs = ends
fault_told params told (fault.BadPage i) ends bad differs = bad i refl
fault_told params told (fault.NoInverseWord value word) ends bad differs = ends
fault_told params told (fault.NoInverseRelation value n) ends bad differs = ends
fault_told params told (fault.Differs i) ends bad differs = differs i refl
fault_told params told (fault.Memory f) ends bad differs = tt

pub can_tell_fault : (e : BuildFault) → ((value : ℕ) (word : List Letter) → e ≡ fault.NoInverseWord value word → IsTrue (is_admissible word)) → CanTellFault e
can_tell_fault fault.DiskFault word_is = tt
can_tell_fault (fault.Exists n) word_is = tt
can_tell_fault (fault.BadPage i) word_is = tt
can_tell_fault (fault.NoInverseWord value word) word_is = admissible-has_index word (word_is value word refl)
can_tell_fault (fault.NoInverseRelation value n) word_is = tt
can_tell_fault (fault.Differs i) word_is = tt
can_tell_fault (fault.Memory f) word_is = tt

-- how a run ends
abbrev TableOrWrite : Status → Type 0
TableOrWrite result = (result ≡ status.NotATable) ⊎ (result ≡ status.WriteFault)

abbrev InverseOrWrite : Status → Type 0
InverseOrWrite result = (result ≡ status.NoInverse) ⊎ (result ≡ status.WriteFault)

table_ends : (result : Status) → TableOrWrite result → EndsFile result
table_ends result (inl e) = inr (inr (inr (inr (inl e))))
table_ends result (inr e) = inr (inr (inr (inl e)))

inverse_ends : (result : Status) → InverseOrWrite result → EndsFile result
inverse_ends result (inl e) = inr (inr (inr (inr (inr (inr e)))))
inverse_ends result (inr e) = inr (inr (inr (inl e)))

pub built_ends : (result : Status) → (result ≡ status.Done) ⊎ (result ≡ status.WriteFault) → EndsFile result
built_ends result (inl e) = inl e
built_ends result (inr e) = inr (inr (inr (inl e)))

pub fault_ends : (e : BuildFault) (result : Status) → StatusOfFault e result → EndsFile result
fault_ends fault.DiskFault result is = inr (inr (inl is))
fault_ends (fault.Exists n) result is = table_ends result is
fault_ends (fault.BadPage i) result is = table_ends result is
fault_ends (fault.NoInverseWord value word) result is = inverse_ends result is
fault_ends (fault.NoInverseRelation value n) result is = inverse_ends result is
fault_ends (fault.Differs i) result is = table_ends result is
fault_ends (fault.Memory f) result is = inr (inl is)

not_table : (result : Status) → InverseOrWrite result → ¬ (result ≡ status.NotATable)
not_table result (inl e) is = cc
not_table result (inr e) is = cc

no_inverse : (result : Status) → TableOrWrite result → ¬ (result ≡ status.NoInverse)
no_inverse result (inl e) is = cc
no_inverse result (inr e) is = cc

table_not_disk : (result : Status) → TableOrWrite result → ¬ (result ≡ status.DiskFault)
table_not_disk result (inl e) is = cc
table_not_disk result (inr e) is = cc

inverse_not_disk : (result : Status) → InverseOrWrite result → ¬ (result ≡ status.DiskFault)
inverse_not_disk result (inl e) is = cc
inverse_not_disk result (inr e) is = cc

table_not_done : (result : Status) → TableOrWrite result → ¬ (result ≡ status.Done)
table_not_done result (inl e) is = cc
table_not_done result (inr e) is = cc

inverse_not_done : (result : Status) → InverseOrWrite result → ¬ (result ≡ status.Done)
inverse_not_done result (inl e) is = cc
inverse_not_done result (inr e) is = cc

-- a call of the disk failed, where the run ends so
pub is_disk_fault : (e : BuildFault) (result : Status) → StatusOfFault e result → result ≡ status.DiskFault → e ≡ fault.DiskFault
is_disk_fault fault.DiskFault result is end = refl
is_disk_fault (fault.Exists n) result is end = absurd (table_not_disk result is end)
is_disk_fault (fault.BadPage i) result is end = absurd (table_not_disk result is end)
is_disk_fault (fault.NoInverseWord value word) result is end = absurd (inverse_not_disk result is end)
is_disk_fault (fault.NoInverseRelation value n) result is end = absurd (inverse_not_disk result is end)
is_disk_fault (fault.Differs i) result is end = absurd (table_not_disk result is end)
is_disk_fault (fault.Memory f) result is end = absurd (memory_not_disk result is end)
  where
    memory_not_disk : (result : Status) → result ≡ status.Memory → ¬ (result ≡ status.DiskFault)
    memory_not_disk result is end = cc

pub never_done : (e : BuildFault) (result : Status) → StatusOfFault e result → ¬ (result ≡ status.Done)
never_done fault.DiskFault result is end = cc
never_done (fault.Exists n) result is end = table_not_done result is end
never_done (fault.BadPage i) result is end = table_not_done result is end
never_done (fault.NoInverseWord value word) result is end = inverse_not_done result is end
never_done (fault.NoInverseRelation value n) result is end = inverse_not_done result is end
never_done (fault.Differs i) result is end = table_not_done result is end
never_done (fault.Memory f) result is end = cc

-- what is left over nothing
module _ (params : Params) (fits : IsParams params) where
  empty_prefix : IsPrefix params 0 []
  empty_prefix = let (pages, are) = pages_exist params fits in nothing_is_prefix params pages are

  file_left : (figures : Figures) (bytes contents : List ℕ) → BuildEnds params bytes (Built figures) → IsLeft params bytes contents → IsFile params contents
  file_left figures [] contents ends left = built_file params 0 figures [] contents empty_prefix ends left
  file_left figures (byte ∷ bytes) contents ends left = cc

  begun_left : (residue n : ℕ) (bytes contents : List ℕ) → BuildEnds params bytes (NoInverseRelation residue n) → IsLeft params bytes contents
      → AreBegun params [] contents
  begun_left residue n [] contents ends left =
      let (pages, are, is, many) = broken_file params 0 n residue [] contents empty_prefix ends left in
      record { n = n; residue = residue; breaks = ends; pages = pages; are_pages = are; bytes_are = is; as_many = many }
  begun_left residue n (byte ∷ bytes) contents ends left = cc

  module _ (old new : Option Trace) (stays : (k : ℕ) → Stays (HasPages params k) old new) where
    built_left : (figures : Figures) (o u : Option Trace) → IfSome o (λ t. BuildEnds params t.now.contents (Built figures))
        → Leaves (λ t bytes. IsLeft params t.now.contents bytes) o u → Leaves (λ t bytes. IsFile params bytes) o u
    built_left figures None u ends left = left
    built_left figures (Some t) None ends left = absurd left
    built_left figures (Some t) (Some u) ends (left, settled) = (file_left figures t.now.contents u.now.contents ends left, settled)

    work_left : (residue n : ℕ) (o u : Option Trace) → IfSome o (λ t. BuildEnds params t.now.contents (NoInverseRelation residue n))
        → Leaves (λ t bytes. IsLeft params t.now.contents bytes) o u → Leaves (λ t bytes. AreBegun params [] bytes) o u
    work_left residue n None u ends left = left
    work_left residue n (Some t) None ends left = absurd left
    work_left residue n (Some t) (Some u) ends (left, settled) = (begun_left residue n t.now.contents u.now.contents ends left, settled)

    -- a disk that does not tell goes on so
    untold : old ≡ None → new ≡ old
    untold none =
        let goes_on : (k : ℕ) → Stays (HasPages params k) None new = λ k. subst (λ o. Stays (HasPages params k) o new) none (stays k) in
        goes_on 0 ∙ sym none

    -- a table was built
    pub built_leaves : (figures : Figures) (result : Status) → (result ≡ status.Done) ⊎ (result ≡ status.WriteFault)
        → IfSome old (λ t. BuildEnds params t.now.contents (Built figures))
        → Leaves (λ t bytes. IsLeft params t.now.contents bytes) old new → BuildLeaves params result old new
    built_leaves figures result end ends left = record {
      done = λ is. built_left figures old new ends left;
      broken = λ is. absurd (other status.NoInverse end is (λ e. cc) (λ e. cc));
      exists = λ is. absurd (other status.NotATable end is (λ e. cc) (λ e. cc));
      stays = stays;
    }
      where
        other : (s : Status) → (result ≡ status.Done) ⊎ (result ≡ status.WriteFault) → result ≡ s → ¬ (status.Done ≡ s) → ¬ (status.WriteFault ≡ s) → ⊥
        other s (inl e) is done write = done (sym e ∙ is)
        other s (inr e) is done write = write (sym e ∙ is)

    -- or it was not
    pub fault_leaves : (e : BuildFault) (result : Status) → StatusOfFault e result
        → IfSome (fault_answer e) (λ answer. IfSome old (λ t. BuildEnds params t.now.contents answer))
        → (IsWorkedFault e → Leaves (λ t bytes. IsLeft params t.now.contents bytes) old new) → (IsRefusedFault e → new ≡ old)
        → ((i : ℕ) → e ≡ fault.BadPage i → old ≡ None) → ((i : ℕ) → e ≡ fault.Differs i → old ≡ None) → BuildLeaves params result old new
    fault_leaves fault.DiskFault result is ends left refused bad differs =
        record { done = λ end. absurd cc; broken = λ end. absurd cc; exists = λ end. absurd cc; stays = stays }
    fault_leaves (fault.Exists n) result is ends left refused bad differs = record {
      done = λ end. absurd (table_not_done result is end);
      broken = λ end. absurd (no_inverse result is end);
      exists = λ end. refused tt;
      stays = stays;
    }
    fault_leaves (fault.BadPage i) result is ends left refused bad differs = record {
      done = λ end. absurd (table_not_done result is end);
      broken = λ end. absurd (no_inverse result is end);
      exists = λ end. untold (bad i refl);
      stays = stays;
    }
    fault_leaves (fault.NoInverseWord value word) result is ends left refused bad differs = record {
      done = λ end. absurd (inverse_not_done result is end);
      broken = λ end. inl (refused tt);
      exists = λ end. absurd (not_table result is end);
      stays = stays;
    }
    fault_leaves (fault.NoInverseRelation value n) result is ends left refused bad differs = record {
      done = λ end. absurd (inverse_not_done result is end);
      broken = λ end. inr (work_left value n old new ends (left tt));
      exists = λ end. absurd (not_table result is end);
      stays = stays;
    }
    fault_leaves (fault.Differs i) result is ends left refused bad differs = record {
      done = λ end. absurd (table_not_done result is end);
      broken = λ end. absurd (no_inverse result is end);
      exists = λ end. untold (differs i refl);
      stays = stays;
    }
    fault_leaves (fault.Memory f) result is ends left refused bad differs =
        record { done = λ end. absurd cc; broken = λ end. absurd cc; exists = λ end. absurd cc; stays = stays }
