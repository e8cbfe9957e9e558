use Rattle.std.proofs.Common.{Ok, List, ℕ, sym, subst}
use Rattle.std.specs.Prelude.{IfSome}
use Rattle.whole_runs.specs.declared.status.Status.TheVariants as status
use Rattle.whole_runs.specs.declared.command.Command.TheVariants.{Show}
use Rattle.whole_runs.specs.FileWorks.{IsShow}
use Rattle.whole_runs.specs.Works.Work.{Writes}
use Rattle.datamine_program.proofs.FileRuns.{file_outcome}
use Rattle.datamine_program.proofs.show.run_show.Goals as goal

pub returns-in-Ok-clause-outcome : goal.returns-in-Ok-clause-outcome
returns-in-Ok-clause-outcome g c = λ left.
    let told = g.D.Disk.trace c.args.disk.now in
    file_outcome (Ok Show) tt told (Writes c.as_bytes.result.now status.Done) left _ _ _
    (subst (λ (bytes : List ℕ). IfSome told (λ t. IsShow t.now.contents (Writes bytes status.Done))) (sym c.as_bytes.ensures.value) c.in-Ok.ensures.ok)
    (c.write_and_end.ensures.has left)

pub returns-in-Err-clause-outcome : goal.returns-in-Err-clause-outcome
returns-in-Err-clause-outcome g c =
    λ left. c.refuse_file.ensures.outcome (Ok Show) (g.D.Disk.faults c.args.disk.now) (g.D.Disk.faults c.shown_lines.new.disk) (g.D.Disk.trace c.args.disk.now) left tt
    c.in-Err.ensures.err
