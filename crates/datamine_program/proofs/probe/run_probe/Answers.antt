use Rattle.std.proofs.Common.{Ok, sym, subst}
use Rattle.whole_runs.specs.declared.command.Command.TheVariants.{Probe}
use Rattle.whole_runs.specs.Wanted.{IsWork}
use Rattle.datamine_program.proofs.Probes.{same_modulus}
use Rattle.datamine_program.proofs.probe.run_probe.Goals as goal

pub returns-in-Ok-Odd-clause-run : goal.returns-in-Ok-Odd-clause-run
returns-in-Ok-Odd-clause-run g c =
    let same = rw c.in-Ok-Odd.field-0-is at c.in-Ok-Odd.ensures.ok in
    λ contents. same_modulus c.args.terms _ _ contents _ _ _ _ _ same.0 (c.probe_over.ensures.run contents)

pub returns-in-Ok-Even-clause-run : goal.returns-in-Ok-Even-clause-run
returns-in-Ok-Even-clause-run g c =
    let same = rw c.in-Ok-Even.field-0-is at c.in-Ok-Even.ensures.ok in
    λ contents. same_modulus c.args.terms _ _ contents _ _ _ _ _ same.0 (c.probe_over-in-Ok-Even.ensures.run contents)

pub returns-in-Ok-Odd-clause-source : goal.returns-in-Ok-Odd-clause-source
returns-in-Ok-Odd-clause-source g c =
    let same = rw c.in-Ok-Odd.field-0-is at c.in-Ok-Odd.ensures.ok in
    λ contents work is quiet. c.probe_over.ensures.source contents work (subst (λ m. IsWork (Ok (Probe c.args.terms m)) contents work) (sym same.0) is) quiet

pub returns-in-Ok-Even-clause-source : goal.returns-in-Ok-Even-clause-source
returns-in-Ok-Even-clause-source g c =
    let same = rw c.in-Ok-Even.field-0-is at c.in-Ok-Even.ensures.ok in
    λ contents work is quiet. c.probe_over-in-Ok-Even.ensures.source contents work (subst (λ m. IsWork (Ok (Probe c.args.terms m)) contents work) (sym same.0) is) quiet
