use Rattle.std.proofs.Common.{Ok, inl, refl, ◌∙◌}
use Rattle.whole_runs.specs.declared.command.Command.TheVariants.{Sample}
use Rattle.whole_runs.specs.declared.status.Status.TheVariants as status
use Rattle.whole_runs.specs.Works.Work.{Writes}
use Rattle.whole_runs.proofs.Outcomes.{outcome_of, broken_off}
use Rattle.datamine_program.proofs.Tables.{sample_work, sample_fault, fault_has_text}
use Rattle.datamine_program.proofs.sample.sample_over.Goals as goal

pub refuse_table-requires : goal.refuse_table-requires
refuse_table-requires g c = fault_has_text c.args.params.now c.in-Err.fault c.in-Err.ensures.fault

pub returns-in-Err-clause-outcome : goal.returns-in-Err-clause-outcome
returns-in-Err-clause-outcome g c =
    let params = c.args.params.now in
    λ contents left. c.refuse_table.ensures.outcome (Ok (Sample params c.args.seed c.args.count)) contents left
    (sample_fault params c.args.seed c.args.count contents c.in-Err.fault c.in-Err.ensures.fault)

pub returns-in_default-clause-outcome : goal.returns-in_default-clause-outcome
returns-in_default-clause-outcome g c =
    λ contents left. broken_off (Ok (Sample c.args.params.now c.args.seed c.args.count)) contents left _ status.Memory (inl refl)

pub returns-clause-outcome : goal.returns-clause-outcome
returns-clause-outcome g c =
    let params = c.args.params.now in
    let ready = c.in-Ok.ready in
    let bytes = c.as_bytes.result.now in
    λ contents left. outcome_of (Ok (Sample params c.args.seed c.args.count)) contents (Writes bytes status.Done) left _ _ _
    (sample_work params c.args.seed c.args.count contents ready.rows ready.columns _ bytes c.in-Ok.ensures.replies
    (c.as_bytes.ensures.value ∙ c.in-Ok-sample_text.ensures)) (c.write_and_end.ensures.has left)
