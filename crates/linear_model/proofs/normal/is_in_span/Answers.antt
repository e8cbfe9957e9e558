use Rattle.std.proofs.Common.{length, slice_index}
use Rattle.std.specs.Prelude.{◌↔◌}
use Rattle.linear_model.specs.Rows.{InSpan, SameRow}
use Rattle.linear_model.specs.Tables.{entry_of}
use Rattle.linear_model.proofs.ForwardLists.{in_span_iff}
use Rattle.linear_model.proofs.normal.is_in_span.Goals as goal

pub returns-clause-in_span : goal.returns-clause-in_span
returns-clause-in_span c =
    let zero_iff : InSpan c.args.m (length c.args.leads.now) (entry_of c.args.width c.args.table.now) (slice_index c.args.row.now) ↔ SameRow c.args.m
    (slice_index c.normal_form.new.row) (λ _. 0) =
    in_span_iff c.args.m (length c.args.leads.now) (slice_index c.args.leads.now)
    (entry_of c.args.width c.args.table.now) c.requires.modulus c.requires.forward (slice_index c.args.row.now)
    (slice_index c.normal_form.new.row) c.normal_form.ensures.normal_form in
    (λ told. zero_iff.1 (c.same_row.ensures.0 told), λ lies. c.same_row.ensures.1 (zero_iff.0 lies))
