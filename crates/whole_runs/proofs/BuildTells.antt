-- Where `build` or `resume` ends with status 0, the work came to its end.
use Rattle.std.specs.Prelude.{◌≡◌, ℕ, List, Option, Some, Ok, codes}
use Rattle.std.proofs.Common.{◌∙◌, ap, inl, inr, refl}
use Rattle.outside_io.specs.Told.{after_told}
use Rattle.page_codec.specs.declared.params.Params.{Params}
use Rattle.file_model.specs.Builds.{Answer, BuildEnds, ResumeEnds}
use Rattle.file_model.specs.Builds.Answer.{Exists, Foreign, BadPage, Other, Misfit, NoInverseWord, NotForward, NoInverseRelation, DiffersAt, Built}
use Rattle.whole_runs.specs.declared.command.Command.TheVariants.{Build, Resume}
use Rattle.whole_runs.specs.declared.status.Status.{Status}
use Rattle.whole_runs.specs.declared.status.Status.TheVariants as status
use Rattle.whole_runs.specs.FileWorks.{told_work}
use Rattle.whole_runs.specs.Works.{Work, output_of, status_of}
use Rattle.whole_runs.specs.Outcomes.{Outcome, FiguresTell}
use Rattle.whole_runs.proofs.ReduceTells.{not_broken_off}

no_table : ◌≡◌ {A = Status} status.Done status.NotATable → ⊥
no_table e = cc

no_inverse : ◌≡◌ {A = Status} status.Done status.NoInverse → ⊥
no_inverse e = cc

-- of the answers only the one of a whole table ends with status 0
module _ (ends : Answer → Type 0) (done : List ℕ) (input : List ℕ) (taken taken_new : Option (List ℕ)) where
  figures_tell : (answer : Answer) → ends answer → taken_new ≡ after_told taken (output_of (told_work done answer) input)
      → status.Done ≡ status_of (told_work done answer) input → FiguresTell ends done taken taken_new
  figures_tell (Exists n) says wrote end = absurd (no_table end)
  figures_tell (Foreign n) says wrote end = absurd (no_table end)
  figures_tell (BadPage i) says wrote end = absurd (no_table end)
  figures_tell (Other params) says wrote end = absurd (no_table end)
  figures_tell (Misfit i) says wrote end = absurd (no_table end)
  figures_tell (NoInverseWord residue u) says wrote end = absurd (no_inverse end)
  figures_tell (NotForward i) says wrote end = absurd (no_table end)
  figures_tell (NoInverseRelation residue n) says wrote end = absurd (no_inverse end)
  figures_tell (DiffersAt i) says wrote end = absurd (no_table end)
  figures_tell (Built figures) says wrote end = record { figures = figures; says = says; wrote = wrote }

  work_tells : (work : Work) (answer : Answer) → ends answer → work ≡ told_work done answer → taken_new ≡ after_told taken (output_of work input)
      → status.Done ≡ status_of work input → FiguresTell ends done taken taken_new
  work_tells work answer says is wrote end =
      figures_tell answer says (wrote ∙ ap (λ v. after_told taken (output_of v input)) is) (end ∙ ap (λ v. status_of v input) is)

pub build_tells : (params : Params) (bytes : List ℕ) (left taken taken_new : Option (List ℕ))
    → Outcome (Ok (Build params)) (Some bytes) left taken taken_new status.Done → FiguresTell (BuildEnds params bytes) (codes "built") taken taken_new
build_tells params bytes left taken taken_new o = elim (o.whole (λ names. refl, λ pages. absurd cc)) [
  | inl b ↦ absurd (not_broken_off b)
  | inr (work, is, wrote, end) ↦ work_tells (BuildEnds params bytes) (codes "built") o.input taken taken_new work is.answer is.ends is.told wrote end
]

pub resume_tells : (params : Params) (bytes : List ℕ) (left taken taken_new : Option (List ℕ))
    → Outcome (Ok (Resume params)) (Some bytes) left taken taken_new status.Done → FiguresTell (ResumeEnds params bytes) (codes "resumed") taken taken_new
resume_tells params bytes left taken taken_new o = elim (o.whole (λ names. refl, λ pages. absurd cc)) [
  | inl b ↦ absurd (not_broken_off b)
  | inr (work, is, wrote, end) ↦ work_tells (ResumeEnds params bytes) (codes "resumed") o.input taken taken_new work is.answer is.ends is.told wrote end
]
