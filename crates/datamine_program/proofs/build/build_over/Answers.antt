use Rattle.std.proofs.Common.{Ok, Err, inl, inr, ap, refl}
use Rattle.std.specs.Prelude.{codes}
use Rattle.file_model.specs.Builds.Answer.{Built}
use Rattle.table_build.specs.Answers.{figures_of}
use Rattle.whole_runs.specs.declared.command.Command.TheVariants.{Build}
use Rattle.whole_runs.specs.declared.status.Status.TheVariants as status
use Rattle.whole_runs.specs.FileTexts.{figures_line}
use Rattle.whole_runs.specs.Works.Work.{Writes}
use Rattle.datamine_program.proofs.FileRuns.{named_outcome}
use Rattle.datamine_program.proofs.GoingOn.{built_in_file}
use Rattle.datamine_program.proofs.Building.{build_work, built_ends, built_leaves, fault_told, can_tell_fault, fault_ends, is_disk_fault, fault_leaves, never_done}
use Rattle.datamine_program.proofs.build.build_over.Goals as goal

pub returns-in-Ok-clause-which : goal.returns-in-Ok-clause-which
returns-in-Ok-clause-which g c = built_ends c.tell_built.result c.tell_built.ensures.which

pub returns-in-Ok-clause-outcome : goal.returns-in-Ok-clause-outcome
returns-in-Ok-clause-outcome g c = λ left.
    let params = c.args.params.now in
    let told = g.D.Disk.trace c.args.disk.now in
    let figures = figures_of c.in-Ok.built in
    named_outcome (Ok (Build params)) tt told (Writes (figures_line (codes "built") figures) status.Done) left _ _ _
    (build_work params told (Built figures) c.in-Ok.ensures.ends) (c.tell_built.ensures.has left)

pub returns-in-Ok-clause-leaves : goal.returns-in-Ok-clause-leaves
returns-in-Ok-clause-leaves g c =
    built_leaves c.args.params.now c.requires.params (g.D.Disk.trace c.args.disk.now) (g.D.Disk.trace c.build.new.disk) c.in-Ok.ensures.moments
    (figures_of c.in-Ok.built) c.tell_built.result c.tell_built.ensures.which c.in-Ok.ensures.ends (c.in-Ok.ensures.left tt)

pub refuse_build-requires : goal.refuse_build-requires
refuse_build-requires g c = can_tell_fault c.in-Err.fault (λ value word e. c.in-Err.ensures.word value word (ap Err e))

pub returns-in-Err-clause-which : goal.returns-in-Err-clause-which
returns-in-Err-clause-which g c = fault_ends c.in-Err.fault c.refuse_build.result c.refuse_build.ensures.which

pub returns-in-Err-clause-outcome : goal.returns-in-Err-clause-outcome
returns-in-Err-clause-outcome g c = λ left.
    let params = c.args.params.now in
    let told = g.D.Disk.trace c.args.disk.now in
    c.refuse_build.ensures.outcome params told left
    (fault_told params told c.in-Err.fault c.in-Err.ensures.ends (λ i e. c.in-Err.ensures.told i (inl (ap Err e)))
    (λ i e. c.in-Err.ensures.told i (inr (ap Err e))))

pub returns-in-Err-clause-leaves : goal.returns-in-Err-clause-leaves
returns-in-Err-clause-leaves g c =
    fault_leaves c.args.params.now c.requires.params (g.D.Disk.trace c.args.disk.now) (g.D.Disk.trace c.build.new.disk) c.in-Err.ensures.moments
    c.in-Err.fault c.refuse_build.result c.refuse_build.ensures.which c.in-Err.ensures.ends c.in-Err.ensures.left c.in-Err.ensures.refused
    (λ i e. c.in-Err.ensures.told i (inl (ap Err e))) (λ i e. c.in-Err.ensures.told i (inr (ap Err e)))

pub returns-in-Err-clause-disk_fault_only : goal.returns-in-Err-clause-disk_fault_only
returns-in-Err-clause-disk_fault_only g c =
    λ end. c.in-Err.ensures.disk_fault (ap Err (is_disk_fault c.in-Err.fault c.refuse_build.result c.refuse_build.ensures.which end))

pub returns-in-Ok-clause-in_file : goal.returns-in-Ok-clause-in_file
returns-in-Ok-clause-in_file g c = λ done.
    built_in_file c.args.params.now (g.D.Disk.trace c.args.disk.now) (g.D.Disk.trace c.build.new.disk) c.requires.params (c.in-Ok.ensures.image refl)
    (figures_of c.in-Ok.built) c.in-Ok.ensures.ends (c.in-Ok.ensures.left tt)

pub returns-in-Err-clause-in_file : goal.returns-in-Err-clause-in_file
returns-in-Err-clause-in_file g c = λ done. absurd (never_done c.in-Err.fault c.refuse_build.result c.refuse_build.ensures.which done)
