use Rattle.std.proofs.Common.{Err, ap, ◌∙◌, arith}
use Rattle.column_order.specs.declared.ranks.Preference.{Preference}
use Rattle.file_model.proofs.ParamColumns.{table_of}
use Rattle.share_build.proofs.table.columns_of.Goals as goal

pub unreachable-requires : goal.unreachable-requires
unreachable-requires c =
    let fault = c.in-Err-TooManyColumns in
    let told = (fault.ensures.too_many fault.field-0-0).0 (ap Err fault.field-0-is) in
    omega (arith, told.0, told.1, c.requires.columns)

pub returns-in-Ok : goal.returns-in-Ok
returns-in-Ok c =
    let told = c.in-Ok.ensures in
    let same = told.preference ∙ c.new-rule.ensures.preference in
    table_of c.args.params.now c.requires c.in-Ok.columns told.columns told.weight told.depth
    (ap (λ (p : Preference). p.mode) same ∙ c.preference-preference.ensures.mode)
    (ap (λ (p : Preference). p.words) same ∙ c.preference-preference.ensures.words)
