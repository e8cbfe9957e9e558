use Rattle.std.proofs.Common.{◌-◌, ◌++◌, map, sym, ap, ◌∙◌, arith}
use Rattle.std.proofs.lemmas.List.{take_all}
use Rattle.relation_list.specs.declared.names.Direct.TheVariants.{Reg}
use Rattle.zeta_model.specs.WordLists.{admissible_within}
use Rattle.relation_list.proofs.ListingLemmas.{filter-regs_from}
use Rattle.relation_list.proofs.directs.push_regs_at.Goals as goal

pub returns : goal.returns
returns c =
    c.loop-v.invariant
    ∙ ap (λ vs. c.args.names.now.items ++ map (λ v. Reg c.args.m v) vs)
    (take_all c.loop-v.v-index c.deref-v-items.result.now (omega arith) ∙ c.deref-v-items.ensures.value ∙ c.in_ok-words.ensures
    ∙ ap (admissible_within (c.args.w - c.args.m)) c.saturating_sub.ensures)
    ∙ ap (λ ns. c.args.names.now.items ++ ns) (sym (filter-regs_from c.args.w c.args.d c.args.m))
