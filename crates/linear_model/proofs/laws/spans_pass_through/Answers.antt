use Rattle.linear_model.proofs.Spans.{row_in_span, span_through}
use Rattle.linear_model.proofs.laws.spans_pass_through.Goals as goal

pub returns-clause-rows : goal.returns-clause-rows
returns-clause-rows c = row_in_span

pub returns-clause-spans : goal.returns-clause-spans
returns-clause-spans c = span_through
