-- Where `migrate` ends with status 0, the whole old file was read.
use Rattle.std.specs.Prelude.{◌≡◌, ℕ, List, [], ◌∷◌, Option, Some, Ok}
use Rattle.std.proofs.Common.{◌∙◌, ap, inl, inr, refl}
use Rattle.outside_io.specs.Told.{after_told}
use Rattle.table_migration.specs.Migrations.{Answer, MigrationEnds}
use Rattle.table_migration.specs.Migrations.Answer.{Migrated, BadPage, Misfit, NotDone}
use Rattle.whole_runs.specs.declared.command.Command.TheVariants.{Migrate}
use Rattle.whole_runs.specs.declared.status.Status.{Status}
use Rattle.whole_runs.specs.declared.status.Status.TheVariants as status
use Rattle.whole_runs.specs.Copies.{copied_work, IsCopy}
use Rattle.whole_runs.specs.Works.{Work, output_of, status_of}
use Rattle.whole_runs.specs.Outcomes.{Outcome, CopyTells}
use Rattle.whole_runs.proofs.ReduceTells.{not_broken_off}

not_complete : ◌≡◌ {A = Status} status.Done status.NotComplete → ⊥
not_complete e = cc

no_table : ◌≡◌ {A = Status} status.Done status.NotATable → ⊥
no_table e = cc

module _ (given input : List ℕ) (taken taken_new : Option (List ℕ)) where
  pages_tell : (answer : Answer) → MigrationEnds given answer → taken_new ≡ after_told taken (output_of (copied_work answer) input)
      → status.Done ≡ status_of (copied_work answer) input → CopyTells [] given taken taken_new
  pages_tell (BadPage i) says wrote end = absurd (no_table end)
  pages_tell (Misfit i) says wrote end = absurd (no_table end)
  pages_tell (NotDone n) says wrote end = absurd (not_complete end)
  pages_tell (Migrated params pages) says wrote end = record { empty = refl; params = params; pages = pages; says = says; wrote = wrote }

  work_tells : (bytes : List ℕ) (work : Work) → IsCopy bytes (Some given) work → taken_new ≡ after_told taken (output_of work input)
      → status.Done ≡ status_of work input → CopyTells bytes given taken taken_new
  work_tells (byte ∷ bytes) work is wrote end = absurd (no_table (end ∙ ap (λ v. status_of v input) is))
  work_tells [] work is wrote end =
      pages_tell is.answer is.ends (wrote ∙ ap (λ v. after_told taken (output_of v input)) is.told) (end ∙ ap (λ v. status_of v input) is.told)

pub migrate_tells : (bytes given : List ℕ) (taken taken_new : Option (List ℕ)) → Outcome (Ok Migrate) (Some bytes) (Some given) taken taken_new status.Done
    → CopyTells bytes given taken taken_new
migrate_tells bytes given taken taken_new o = elim (o.whole (λ names. refl, λ pages. refl)) [
  | inl b ↦ absurd (not_broken_off b)
  | inr (work, is, wrote, end) ↦ work_tells given o.input taken taken_new bytes work is wrote end
]
