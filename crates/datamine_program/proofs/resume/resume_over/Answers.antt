use Rattle.std.proofs.Common.{Err, ap, refl}
use Rattle.std.specs.Prelude.{Some}
use Rattle.file_model.specs.Builds.Answer.{Built}
use Rattle.table_build.specs.Answers.{figures_of}
use Rattle.datamine_program.proofs.Building.{built_ends}
use Rattle.datamine_program.proofs.GoingOn.{said_outcome, resume_ends, resumed_leaves, refused_leaves, resumed_in_file, never_done, disk_failed}
use Rattle.datamine_program.proofs.resume.resume_over.Goals as goal

pub returns-in-Ok-clause-which : goal.returns-in-Ok-clause-which
returns-in-Ok-clause-which g c = built_ends c.tell_built.result c.tell_built.ensures.which

pub returns-in-Ok-clause-outcome : goal.returns-in-Ok-clause-outcome
returns-in-Ok-clause-outcome g c = λ left.
    let answer = Built (figures_of c.in-Ok.built) in
    said_outcome c.args.params.now (g.D.Disk.trace c.args.disk.now) (Some answer) answer refl c.in-Ok.ensures.ends left _ _ _
    (c.tell_built.ensures.has left)

pub returns-in-Ok-clause-leaves : goal.returns-in-Ok-clause-leaves
returns-in-Ok-clause-leaves g c =
    resumed_leaves c.args.params.now (g.D.Disk.trace c.args.disk.now) (g.D.Disk.trace c.resume.new.disk) c.in-Ok.ensures.moments
    (figures_of c.in-Ok.built) c.tell_built.result c.tell_built.ensures.which c.in-Ok.ensures.ends (c.in-Ok.ensures.left tt)
    (c.in-Ok.ensures.goes_on refl)

pub returns-in-Ok-clause-in_file : goal.returns-in-Ok-clause-in_file
returns-in-Ok-clause-in_file g c = λ done.
    resumed_in_file c.args.params.now (g.D.Disk.trace c.args.disk.now) (g.D.Disk.trace c.resume.new.disk) c.requires.params
    (c.in-Ok.ensures.image refl) (figures_of c.in-Ok.built) c.in-Ok.ensures.ends (c.in-Ok.ensures.left tt)

pub returns-in-Err-clause-which : goal.returns-in-Err-clause-which
returns-in-Err-clause-which g c = resume_ends c.in-Err.fault c.refuse_resume.result c.refuse_resume.ensures.which

pub returns-in-Err-clause-outcome : goal.returns-in-Err-clause-outcome
returns-in-Err-clause-outcome g c = λ left.
    c.refuse_resume.ensures.outcome c.args.params.now (g.D.Disk.trace c.args.disk.now) left c.in-Err.ensures.ends

pub returns-in-Err-clause-leaves : goal.returns-in-Err-clause-leaves
returns-in-Err-clause-leaves g c =
    refused_leaves c.args.params.now (g.D.Disk.trace c.args.disk.now) (g.D.Disk.trace c.resume.new.disk) c.in-Err.ensures.moments
    c.in-Err.fault c.refuse_resume.result c.refuse_resume.ensures.which c.in-Err.ensures.ends c.in-Err.ensures.left c.in-Err.ensures.refused

pub returns-in-Err-clause-in_file : goal.returns-in-Err-clause-in_file
returns-in-Err-clause-in_file g c = λ done. absurd (never_done c.in-Err.fault c.refuse_resume.result c.refuse_resume.ensures.which done)

pub returns-in-Err-clause-disk_fault_only : goal.returns-in-Err-clause-disk_fault_only
returns-in-Err-clause-disk_fault_only g c =
    λ end. c.in-Err.ensures.disk_fault (ap Err (disk_failed c.in-Err.fault c.refuse_resume.result c.refuse_resume.ensures.which end))
