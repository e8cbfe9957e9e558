use Rattle.std.proofs.Common.{Ok, Err, ap}
use Rattle.whole_runs.specs.declared.command.Command.TheVariants.{Probe}
use Rattle.datamine_program.proofs.Probes.{probe_work, sum_fault}
use Rattle.datamine_program.proofs.Runs.{lines_run, reads_lines, refused_run}
use Rattle.datamine_program.proofs.probe.probe_over.Goals as goal

pub returns-in-Ok-clause-run : goal.returns-in-Ok-clause-run
returns-in-Ok-clause-run g c = λ contents.
    let m = g.R.Ring.modulus c.args.ring in
    let told = c.run_lines.ensures in
    lines_run (Ok (Probe c.args.terms m)) contents _ (probe_work c.args.terms m contents _ c.in-Ok.ensures.fits c.in-Ok.ensures.replies) _ _ _ _ _
    tt told.which told.has told.takes told.done told.answered

pub returns-in-Ok-clause-source : goal.returns-in-Ok-clause-source
returns-in-Ok-clause-source g c = λ contents work is quiet.
    let m = g.R.Ring.modulus c.args.ring in
    absurd (quiet (reads_lines (Ok (Probe c.args.terms m)) contents _ (probe_work c.args.terms m contents _ c.in-Ok.ensures.fits c.in-Ok.ensures.replies) work is))

pub returns-in-Err-clause-run : goal.returns-in-Err-clause-run
returns-in-Err-clause-run g c = λ contents.
    let m = g.R.Ring.modulus c.args.ring in
    let n = c.args.terms in
    refused_run (Ok (Probe n m)) contents _ _ _ _
    (c.refuse_sums.ensures.outcome (Ok (Probe n m)) contents _
    (sum_fault n m contents c.in-Err.fault (λ value term e. c.in-Err.ensures.no_inverse value term (ap Err e)))) c.refuse_sums.ensures.which
