use Rattle.std.proofs.Common.{sym, ◌∙◌}
use Rattle.column_order.proofs.LeadLaws.{Leads-irreflexive, Leads-trans, Leads_cases, lead_cmp-product}
use Rattle.column_order.proofs.laws.lead_order_laws.Goals as goal

pub returns-clause-irreflexive : goal.returns-clause-irreflexive
returns-clause-irreflexive c = Leads-irreflexive

pub returns-clause-transitive : goal.returns-clause-transitive
returns-clause-transitive c = Leads-trans

pub returns-clause-total : goal.returns-clause-total
returns-clause-total c = Leads_cases

pub returns-clause-products : goal.returns-clause-products
returns-clause-products c = λ ranks p q r mp mq mr.
    let same = lead_cmp-product ranks p q r mp.falls mq.falls mr.falls in
    (λ e. same ∙ e, λ e. sym same ∙ e)
