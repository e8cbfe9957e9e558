use Rattle.std.proofs.Common.{◌-◌, ◌++◌, map, filter, sym, ap, ◌∙◌, arith}
use Rattle.std.proofs.lemmas.List.{take_all}
use Rattle.relation_list.specs.declared.names.Direct.TheVariants.{Fin}
use Rattle.relation_list.specs.Names.{in_order}
use Rattle.zeta_model.specs.WordLists.{admissible_within}
use Rattle.relation_list.proofs.ListingLemmas.{filter-fins_by}
use Rattle.relation_list.proofs.directs.push_fins_of.Goals as goal

pub returns : goal.returns
returns c =
    c.loop-v.invariant
    ∙ ap (λ vs. c.args.names.now.items ++ map (λ v. Fin c.args.u v) (filter (in_order c.args.u) vs))
    (take_all c.loop-v.v-index c.deref-v-items.result.now (omega arith) ∙ c.deref-v-items.ensures.value ∙ c.in_ok-words.ensures
    ∙ ap (admissible_within c.args.k) (c.saturating_sub.ensures ∙ ap (λ n. c.args.d - n) c.depth.ensures.count))
    ∙ ap (λ ns. c.args.names.now.items ++ ns) (sym (filter-fins_by c.args.k c.args.d c.args.u))
