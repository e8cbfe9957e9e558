use Rattle.std.proofs.Common.{Ok, None, inl, inr, refl, subst, sym, ◌≡◌, ◌∙◌}
use Rattle.dual_reply.specs.Reply.{reply_of}
use Rattle.whole_runs.specs.declared.command.Command.TheVariants.{Dual, List as ListOf, Sample, Show, Check, Build, Resume, Migrate}
use Rattle.whole_runs.specs.Outcomes.{ReadsSource, contents_of}
use Rattle.whole_runs.specs.Wanted.{IsWork}
use Rattle.datamine_program.proofs.Runs.{written_run, file_run, reads_lines}
use Rattle.file_model.specs.Histories.{EndsInFile}
use Rattle.datamine_program.specs.Leaving.{WritesFile, BuildLeaves, ResumeLeaves}
use Rattle.datamine_program.proofs.Asking.{same_build, same_resume}
use Rattle.datamine_program.proofs.Migrating.{copy_run, over_refusal}
use Rattle.datamine_program.proofs.commands.perform.Goals as goal

pub returns-in-Dual-clause-run : goal.returns-in-Dual-clause-run
returns-in-Dual-clause-run g c = rw c.in-Dual.is (c.run_dual.ensures.run (contents_of (g.D.Disk.trace c.args.disk.now)))

pub returns-in-Reduce-clause-run : goal.returns-in-Reduce-clause-run
returns-in-Reduce-clause-run g c = rw c.in-Reduce.is (c.run_reduce.ensures.run (contents_of (g.D.Disk.trace c.args.disk.now)))

pub returns-in-Probe-clause-run : goal.returns-in-Probe-clause-run
returns-in-Probe-clause-run g c = rw c.in-Probe.is (c.run_probe.ensures.run (contents_of (g.D.Disk.trace c.args.disk.now)))

pub returns-in-List-clause-run : goal.returns-in-List-clause-run
returns-in-List-clause-run g c = rw c.in-List.is
    (written_run (Ok (ListOf c.in-List.weight c.in-List.depth)) _ _ _ _ _ (c.run_list.ensures.outcome (contents_of (g.D.Disk.trace c.args.disk.now)) _)
    (elim c.run_list.ensures.which [ inl e ↦ inl e | inr e ↦ inr (inr e) ]) (λ a. a))

pub returns-in-Sample-clause-run : goal.returns-in-Sample-clause-run
returns-in-Sample-clause-run g c = rw c.in-Sample.is
    (written_run (Ok (Sample c.in-Sample.params c.in-Sample.seed c.in-Sample.count)) _ _ _ _ _
    (c.run_sample.ensures.outcome (contents_of (g.D.Disk.trace c.args.disk.now)) _) c.run_sample.ensures.which (λ a. a))

pub returns-in-Show-clause-run : goal.returns-in-Show-clause-run
returns-in-Show-clause-run g c = rw c.in-Show.is (file_run (Ok Show) _ _ _ _ _ (c.run_show.ensures.outcome _) c.run_show.ensures.which tt (λ a. a))

pub returns-in-Check-clause-run : goal.returns-in-Check-clause-run
returns-in-Check-clause-run g c = rw c.in-Check.is (file_run (Ok Check) _ _ _ _ _ (c.run_check.ensures.outcome _) c.run_check.ensures.which tt (λ a. a))

pub returns-in-Build-clause-run : goal.returns-in-Build-clause-run
returns-in-Build-clause-run g c = rw c.in-Build.is
    (file_run (Ok (Build c.in-Build.params)) _ _ _ _ _ (c.run_build.ensures.outcome _) c.run_build.ensures.which tt (λ a. a))

pub returns-in-Build-clause-build : goal.returns-in-Build-clause-build
returns-in-Build-clause-build g c = λ params is.
    let same : c.in-Build.params ≡ params = same_build c.in-Build.params params (sym c.in-Build.is ∙ is) in
    subst (λ p. BuildLeaves p c.run_build.result (g.D.Disk.trace c.args.disk.now) (g.D.Disk.trace c.run_build.new.disk)) same c.run_build.ensures.leaves

pub returns-in-Build-clause-unchanged : goal.returns-in-Build-clause-unchanged
returns-in-Build-clause-unchanged g c = λ quiet. absurd (quiet (subst (λ command. WritesFile (Ok command)) (sym c.in-Build.is) tt))

pub returns-in-Rewrite-clause-run : goal.returns-in-Rewrite-clause-run
returns-in-Rewrite-clause-run g c = rw c.in-Rewrite.is c.run_rewrite.ensures.run

pub returns-in-Rational-clause-run : goal.returns-in-Rational-clause-run
returns-in-Rational-clause-run g c = rw c.in-Rational.is c.run_rational.ensures.run

pub returns-in-Dual-clause-disk_fault_only : goal.returns-in-Dual-clause-disk_fault_only
returns-in-Dual-clause-disk_fault_only g c = λ e. let run = c.run_dual.ensures.run None in absurd (run.disk_fault e)

pub returns-in-Reduce-clause-disk_fault_only : goal.returns-in-Reduce-clause-disk_fault_only
returns-in-Reduce-clause-disk_fault_only g c = λ e. let run = c.run_reduce.ensures.run None in absurd (run.disk_fault e)

pub returns-in-Probe-clause-disk_fault_only : goal.returns-in-Probe-clause-disk_fault_only
returns-in-Probe-clause-disk_fault_only g c = λ e. let run = c.run_probe.ensures.run None in absurd (run.disk_fault e)

pub returns-in-Dual-clause-source : goal.returns-in-Dual-clause-source
returns-in-Dual-clause-source g c = λ work is quiet.
    let m = c.in-Dual.modulus in
    let contents = contents_of (g.D.Disk.trace c.args.disk.now) in
    absurd (quiet (reads_lines (Ok (Dual m)) contents (reply_of m) refl work (subst (λ command. IsWork (Ok command) contents work) c.in-Dual.is is)))

pub returns-in-Reduce-clause-source : goal.returns-in-Reduce-clause-source
returns-in-Reduce-clause-source g c = λ work is quiet.
    let contents = contents_of (g.D.Disk.trace c.args.disk.now) in
    c.run_reduce.ensures.source contents work (subst (λ command. IsWork (Ok command) contents work) c.in-Reduce.is is) quiet

pub returns-in-Probe-clause-source : goal.returns-in-Probe-clause-source
returns-in-Probe-clause-source g c = λ work is quiet.
    let contents = contents_of (g.D.Disk.trace c.args.disk.now) in
    c.run_probe.ensures.source contents work (subst (λ command. IsWork (Ok command) contents work) c.in-Probe.is is) quiet

pub returns-in-Rewrite-clause-source : goal.returns-in-Rewrite-clause-source
returns-in-Rewrite-clause-source g c = λ work is quiet.
    let contents = contents_of (g.D.Disk.trace c.args.disk.now) in
    c.run_rewrite.ensures.source work (subst (λ command. IsWork (Ok command) contents work) c.in-Rewrite.is is) quiet

pub returns-in-Rational-clause-source : goal.returns-in-Rational-clause-source
returns-in-Rational-clause-source g c = λ work is quiet.
    let contents = contents_of (g.D.Disk.trace c.args.disk.now) in
    c.run_rational.ensures.source work (subst (λ command. IsWork (Ok command) contents work) c.in-Rational.is is) quiet

pub returns-in-Build-clause-built_in_file : goal.returns-in-Build-clause-built_in_file
returns-in-Build-clause-built_in_file g c = λ params is done.
    let same : c.in-Build.params ≡ params = same_build c.in-Build.params params (sym c.in-Build.is ∙ is) in
    subst (λ p. EndsInFile p (g.D.Disk.trace c.args.disk.now) (g.D.Disk.trace c.run_build.new.disk)) same (c.run_build.ensures.in_file done)

pub returns-in-Resume-clause-run : goal.returns-in-Resume-clause-run
returns-in-Resume-clause-run g c = rw c.in-Resume.is
    (file_run (Ok (Resume c.in-Resume.params)) _ _ _ _ _ (c.run_resume.ensures.outcome _) c.run_resume.ensures.which tt (λ a. a))

pub returns-in-Resume-clause-resume : goal.returns-in-Resume-clause-resume
returns-in-Resume-clause-resume g c = λ params is.
    let same : c.in-Resume.params ≡ params = same_resume c.in-Resume.params params (sym c.in-Resume.is ∙ is) in
    subst (λ p. ResumeLeaves p c.run_resume.result (g.D.Disk.trace c.args.disk.now) (g.D.Disk.trace c.run_resume.new.disk)) same c.run_resume.ensures.leaves

pub returns-in-Resume-clause-resumed_in_file : goal.returns-in-Resume-clause-resumed_in_file
returns-in-Resume-clause-resumed_in_file g c = λ params is done.
    let same : c.in-Resume.params ≡ params = same_resume c.in-Resume.params params (sym c.in-Resume.is ∙ is) in
    subst (λ p. EndsInFile p (g.D.Disk.trace c.args.disk.now) (g.D.Disk.trace c.run_resume.new.disk)) same (c.run_resume.ensures.in_file done)

pub returns-in-Resume-clause-unchanged : goal.returns-in-Resume-clause-unchanged
returns-in-Resume-clause-unchanged g c = λ quiet. absurd (quiet (subst (λ command. WritesFile (Ok command)) (sym c.in-Resume.is) tt))

pub returns-in-Migrate-clause-run : goal.returns-in-Migrate-clause-run
returns-in-Migrate-clause-run g c = rw c.in-Migrate.is
    (copy_run (g.D.Disk.trace c.args.disk.now) _ _ _ _ _ c.run_migrate.ensures.outcome c.run_migrate.ensures.which c.run_migrate.ensures.empty)

pub returns-in-Migrate-clause-source : goal.returns-in-Migrate-clause-source
returns-in-Migrate-clause-source g c = λ work is quiet.
    let told = g.D.Disk.trace c.args.disk.now in
    over_refusal _ told c.run_migrate.ensures.untaken work (subst (λ command. IsWork (Ok command) (contents_of told) work) c.in-Migrate.is is)

pub returns-in-Migrate-clause-no_lines : goal.returns-in-Migrate-clause-no_lines
returns-in-Migrate-clause-no_lines g c = λ quiet. absurd (quiet (subst (λ command. ReadsSource (Ok command)) (sym c.in-Migrate.is) tt))

pub returns-in-Migrate-clause-unchanged : goal.returns-in-Migrate-clause-unchanged
returns-in-Migrate-clause-unchanged g c = λ quiet. absurd (quiet (subst (λ command. WritesFile (Ok command)) (sym c.in-Migrate.is) tt))
