-- What work that goes on with a stopped build tells, and what it leaves.
use Rattle.std.proofs.Common.{◌≡◌, ◌⊎◌, inl, inr, ℕ, List, [], ◌∷◌, Option, Some, None, refl, sym, subst, ◌∙◌}
use Rattle.std.specs.Prelude.{Ok, IfSome, codes}
use Rattle.outside_io.specs.Moments.{IsImage}
use Rattle.outside_io.specs.Traces.{Trace}
use Rattle.page_codec.specs.declared.params.Params.{Params}
use Rattle.page_codec.specs.Bounds.{IsParams}
use Rattle.page_file.specs.Stays.{Leaves}
use Rattle.file_model.specs.Prefixes.{IsPrefix, IsFile, HasPages}
use Rattle.file_model.specs.Builds.{Figures, Answer, BuildEnds, ResumeEnds, IsLeft, HasGoneOn}
use Rattle.file_model.specs.Builds.Answer.{Built, NoInverseRelation}
use Rattle.file_model.specs.Stays.{Stays}
use Rattle.file_model.specs.Histories.{EndsInFile}
use Rattle.file_model.proofs.LeftFiles.{built_file, broken_file}
use Rattle.file_model.proofs.PastSteps.{run_ends}
use Rattle.table_build.specs.Resumes.{Tells, fault_says, IsWorkedFault, IsRefusal}
use Rattle.table_build.specs.declared.fault.ResumeFault.{ResumeFault}
use Rattle.table_build.specs.declared.fault.ResumeFault.TheVariants as fault
use Rattle.whole_runs.specs.declared.command.Command.TheVariants.{Resume}
use Rattle.whole_runs.specs.declared.status.Status.{Status}
use Rattle.whole_runs.specs.declared.status.Status.TheVariants as status
use Rattle.whole_runs.specs.FileWorks.{told_work}
use Rattle.whole_runs.specs.Outcomes.{Has, Outcome, contents_of}
use Rattle.datamine_program.specs.Inner.{EndsFile, IsFileWork, EndsAs, end_of}
use Rattle.datamine_program.specs.Leaving.{AreBegun, ResumeLeaves}
use Rattle.datamine_program.proofs.FileRuns.{named_outcome}

-- ---- the line

resume_work : (params : Params) (told : Option Trace) (answer : Answer) → IfSome told (λ t. ResumeEnds params t.now.contents answer)
    → IsFileWork (Ok (Resume params)) told (told_work (codes "resumed") answer)
resume_work params None answer ends = tt
resume_work params (Some t) answer ends = record { answer = answer; ends = ends; told = refl }

-- what is said of the bytes is told
pub said_outcome : (params : Params) (told : Option Trace) (said : Option Answer) (answer : Answer) → said ≡ Some answer → Tells params told said
    → (left taken taken_new : Option (List ℕ)) (result : Status) → Has (told_work (codes "resumed") answer) left taken taken_new result
    → Outcome (Ok (Resume params)) (contents_of told) left taken taken_new result
said_outcome params told said answer is tells left taken taken_new result has =
    named_outcome (Ok (Resume params)) tt told (told_work (codes "resumed") answer) left taken taken_new result
    (resume_work params told answer (subst (Tells params told) is tells)) has

-- ---- how it ends

pub ends_as : (end result : Status) → (result ≡ end) ⊎ (result ≡ status.WriteFault) → EndsAs end result
ends_as end result (inl e) = inl e
ends_as end result (inr e) = inr (inr e)

pub ends_so : (fault : ResumeFault) (end result : Status) → end_of fault ≡ end → EndsAs end result → EndsAs (end_of fault) result
ends_so fault end result same is = subst (λ e. EndsAs e result) (sym same) is

file_end : (e : ResumeFault) → EndsFile (end_of e)
file_end fault.DiskFault = inr (inr (inl refl))
file_end (fault.Foreign n) = inr (inr (inr (inr (inl refl))))
file_end (fault.BadPage i) = inr (inr (inr (inr (inl refl))))
file_end (fault.Other params) = inr (inr (inr (inr (inl refl))))
file_end (fault.Misfit i) = inr (inr (inr (inr (inl refl))))
file_end (fault.NoInverseWord value word) = inr (inr (inr (inr (inr (inr refl)))))
file_end (fault.NotForward i) = inr (inr (inr (inr (inl refl))))
file_end (fault.NoInverseRelation value n) = inr (inr (inr (inr (inr (inr refl)))))
file_end (fault.Differs i) = inr (inr (inr (inr (inl refl))))
file_end (fault.Memory e) = inr (inl refl)

pub resume_ends : (e : ResumeFault) (result : Status) → EndsAs (end_of e) result → EndsFile result
resume_ends e result (inl is) = subst EndsFile (sym is) (file_end e)
resume_ends e result (inr (inl is)) = inr (inl is)
resume_ends e result (inr (inr is)) = inr (inr (inr (inl is)))

-- a status that is not want of memory or a failed write is that of the fault
module _ (e : ResumeFault) (result end : Status) (is : result ≡ end) where
  end_is : ¬ (end ≡ status.Memory) → ¬ (end ≡ status.WriteFault) → EndsAs (end_of e) result → end_of e ≡ end
  end_is memory write (inl same) = sym same ∙ is
  end_is memory write (inr (inl other)) = absurd (memory (sym is ∙ other))
  end_is memory write (inr (inr other)) = absurd (write (sym is ∙ other))

not_done : (e : ResumeFault) → ¬ (end_of e ≡ status.Done)
not_done fault.DiskFault is = cc
not_done (fault.Foreign n) is = cc
not_done (fault.BadPage i) is = cc
not_done (fault.Other params) is = cc
not_done (fault.Misfit i) is = cc
not_done (fault.NoInverseWord value word) is = cc
not_done (fault.NotForward i) is = cc
not_done (fault.NoInverseRelation value n) is = cc
not_done (fault.Differs i) is = cc
not_done (fault.Memory f) is = cc

pub never_done : (e : ResumeFault) (result : Status) → EndsAs (end_of e) result → ¬ (result ≡ status.Done)
never_done e result ends is = not_done e (end_is e result status.Done is (λ a. cc) (λ a. cc) ends)

the_disk : (e : ResumeFault) → end_of e ≡ status.DiskFault → e ≡ fault.DiskFault
the_disk fault.DiskFault is = refl
the_disk (fault.Foreign n) is = absurd cc
the_disk (fault.BadPage i) is = absurd cc
the_disk (fault.Other params) is = absurd cc
the_disk (fault.Misfit i) is = absurd cc
the_disk (fault.NoInverseWord value word) is = absurd cc
the_disk (fault.NotForward i) is = absurd cc
the_disk (fault.NoInverseRelation value n) is = absurd cc
the_disk (fault.Differs i) is = absurd cc
the_disk (fault.Memory f) is = absurd cc

-- a call of the disk failed, where the run ends so
pub disk_failed : (e : ResumeFault) (result : Status) → EndsAs (end_of e) result → result ≡ status.DiskFault → e ≡ fault.DiskFault
disk_failed e result ends is = the_disk e (end_is e result status.DiskFault is (λ a. cc) (λ a. cc) ends)

is_refusal : (e : ResumeFault) → end_of e ≡ status.NotATable → IsRefusal e
is_refusal fault.DiskFault is = absurd cc
is_refusal (fault.Foreign n) is = tt
is_refusal (fault.BadPage i) is = tt
is_refusal (fault.Other params) is = tt
is_refusal (fault.Misfit i) is = tt
is_refusal (fault.NoInverseWord value word) is = absurd cc
is_refusal (fault.NotForward i) is = tt
is_refusal (fault.NoInverseRelation value n) is = absurd cc
is_refusal (fault.Differs i) is = tt
is_refusal (fault.Memory f) is = absurd cc

-- ---- what is left

module _ (params : Params) (old new : Option Trace) where
  -- what stood there, or the pages up to the break
  abbrev Broken : Type 0
  Broken = (new ≡ old)
      ⊎ Leaves (λ t bytes. IsLeft params t.now.contents bytes × ((k : ℕ) → IsPrefix params k t.now.contents → AreBegun params t.now.contents bytes)) old new

module _ (params : Params) where
  file_left : (figures : Figures) (old new : Option Trace) → IfSome old (λ t. ResumeEnds params t.now.contents (Built figures))
      → Leaves (λ t bytes. IsLeft params t.now.contents bytes) old new
      → Leaves (λ t bytes. (k : ℕ) → IsPrefix params k t.now.contents → IsFile params bytes) old new
  file_left figures None new ends left = left
  file_left figures (Some t) None ends left = absurd left
  file_left figures (Some t) (Some u) ends (left, settled) = (
    λ k is. built_file params k figures t.now.contents u.now.contents is ends left,
    settled,
  )

  begun_left : (residue n : ℕ) (old new : Option Trace) → IfSome old (λ t. ResumeEnds params t.now.contents (NoInverseRelation residue n))
      → Leaves (λ t bytes. IsLeft params t.now.contents bytes) old new
      → Leaves (λ t bytes. IsLeft params t.now.contents bytes × ((k : ℕ) → IsPrefix params k t.now.contents → AreBegun params t.now.contents bytes)) old new
  begun_left residue n None new ends left = left
  begun_left residue n (Some t) None ends left = absurd left
  begun_left residue n (Some t) (Some u) ends (left, settled) = (
    (
      left,
      λ k is. let (pages, are, same, many) = broken_file params k n residue t.now.contents u.now.contents is ends left in
          record { n = n; residue = residue; breaks = ends; pages = pages; are_pages = are; bytes_are = same; as_many = many },
    ),
    settled,
  )

  module _ (old new : Option Trace) where
    broken_left : (e : ResumeFault) → end_of e ≡ status.NoInverse → Tells params old (fault_says e)
        → (IsWorkedFault e → Leaves (λ t bytes. IsLeft params t.now.contents bytes) old new) → (IsRefusal e → new ≡ old) → Broken params old new
    broken_left fault.DiskFault is tells left refused = absurd cc
    broken_left (fault.Foreign n) is tells left refused = absurd cc
    broken_left (fault.BadPage i) is tells left refused = absurd cc
    broken_left (fault.Other q) is tells left refused = absurd cc
    broken_left (fault.Misfit i) is tells left refused = absurd cc
    broken_left (fault.NoInverseWord value word) is tells left refused = inl (refused tt)
    broken_left (fault.NotForward i) is tells left refused = absurd cc
    broken_left (fault.NoInverseRelation value n) is tells left refused = inr (begun_left value n old new tells (left tt))
    broken_left (fault.Differs i) is tells left refused = absurd cc
    broken_left (fault.Memory f) is tells left refused = absurd cc

    module _ (stays : (k : ℕ) → Stays (HasPages params k) old new) where
      -- the work came to its end
      pub resumed_leaves : (figures : Figures) (result : Status) → (result ≡ status.Done) ⊎ (result ≡ status.WriteFault)
          → IfSome old (λ t. ResumeEnds params t.now.contents (Built figures)) → Leaves (λ t bytes. IsLeft params t.now.contents bytes) old new
          → Leaves (λ t bytes. HasGoneOn params t.now.contents bytes) old new → ResumeLeaves params result old new
      resumed_leaves figures result end ends left on = record {
        done = λ is. on;
        file = λ is. file_left figures old new ends left;
        broken = λ is. absurd (other status.NoInverse end is (λ e. cc) (λ e. cc));
        refused = λ is. absurd (other status.NotATable end is (λ e. cc) (λ e. cc));
        stays = stays;
      }
        where
          other : (s : Status) → (result ≡ status.Done) ⊎ (result ≡ status.WriteFault) → result ≡ s → ¬ (status.Done ≡ s) → ¬ (status.WriteFault ≡ s) → ⊥
          other s (inl e) is done write = done (sym e ∙ is)
          other s (inr e) is done write = write (sym e ∙ is)

      -- or it did not
      pub refused_leaves : (e : ResumeFault) (result : Status) → EndsAs (end_of e) result → Tells params old (fault_says e)
          → (IsWorkedFault e → Leaves (λ t bytes. IsLeft params t.now.contents bytes) old new) → (IsRefusal e → new ≡ old)
          → ResumeLeaves params result old new
      refused_leaves e result ends tells left refused = record {
        done = λ is. absurd (never_done e result ends is);
        file = λ is. absurd (never_done e result ends is);
        broken = λ is. broken_left e (end_is e result status.NoInverse is (λ a. cc) (λ a. cc) ends) tells left refused;
        refused = λ is. refused (is_refusal e (end_is e result status.NotATable is (λ a. cc) (λ a. cc) ends));
        stays = stays;
      }

    -- a history of runs and crashes ends in the file, where the work comes to its end
    pub resumed_in_file : IsParams params → IfSome old (λ t. IsImage t.now t.now.contents) → (figures : Figures)
        → IfSome old (λ t. ResumeEnds params t.now.contents (Built figures)) → Leaves (λ t bytes. IsLeft params t.now.contents bytes) old new
        → EndsInFile params old new
    resumed_in_file fits image figures ends left = run_ends params fits old new image figures ends left

    -- what is built over nothing goes on from nothing
    built_from_nothing : (figures : Figures) (bytes : List ℕ) → BuildEnds params bytes (Built figures) → ResumeEnds params bytes (Built figures)
    built_from_nothing figures [] ends = ends
    built_from_nothing figures (byte ∷ bytes) ends = absurd cc

    from_nothing : (figures : Figures) (told : Option Trace) → IfSome told (λ t. BuildEnds params t.now.contents (Built figures))
        → IfSome told (λ t. ResumeEnds params t.now.contents (Built figures))
    from_nothing figures None ends = tt
    from_nothing figures (Some t) ends = built_from_nothing figures t.now.contents ends

    pub built_in_file : IsParams params → IfSome old (λ t. IsImage t.now t.now.contents) → (figures : Figures)
        → IfSome old (λ t. BuildEnds params t.now.contents (Built figures)) → Leaves (λ t bytes. IsLeft params t.now.contents bytes) old new
        → EndsInFile params old new
    built_in_file fits image figures ends left = run_ends params fits old new image figures (from_nothing figures old ends) left
