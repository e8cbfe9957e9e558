use Rattle.std.proofs.Common.{sym, ◌∙◌}
use Rattle.column_order.proofs.Preferring.{lead_cmp-none, one_list-none}
use Rattle.column_order.proofs.laws.preference_laws.Goals as goal

pub returns-clause-order : goal.returns-clause-order
returns-clause-order c = λ mode p q. (λ e. sym (lead_cmp-none mode p q) ∙ e, λ e. lead_cmp-none mode p q ∙ e)

pub returns-clause-list : goal.returns-clause-list
returns-clause-list c = one_list-none
