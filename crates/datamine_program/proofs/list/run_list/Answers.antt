use Rattle.std.proofs.Common.{Ok, List, ℕ, inl, refl, ap, ◌∙◌}
use Rattle.whole_runs.specs.declared.command.Command.TheVariants.{List as ListOf}
use Rattle.whole_runs.specs.declared.status.Status.TheVariants as status
use Rattle.whole_runs.specs.Works.Work.{Writes}
use Rattle.whole_runs.proofs.Outcomes.{outcome_of, broken_off}
use Rattle.datamine_program.proofs.list.run_list.Goals as goal

pub returns-in_default-clause-outcome : goal.returns-in_default-clause-outcome
returns-in_default-clause-outcome g c = λ contents left. broken_off (Ok (ListOf c.args.weight c.args.depth)) contents left _ status.Memory (inl refl)

pub returns-clause-outcome : goal.returns-clause-outcome
returns-clause-outcome g c = λ contents left.
    outcome_of (Ok (ListOf c.args.weight c.args.depth)) contents (Writes c.as_bytes.result.now status.Done) left _ _ _
    (ap (λ (bytes : List ℕ). Writes bytes status.Done) (c.as_bytes.ensures.value ∙ c.in-Ok.ensures)) (c.write_and_end.ensures.has left)
