use Rattle.std.proofs.Common.{◌++◌, map, filter, sym, ap, ◌∙◌, arith}
use Rattle.std.proofs.lemmas.List.{take_all}
use Rattle.relation_list.specs.declared.names.Direct.TheVariants.{Dual}
use Rattle.relation_list.proofs.ListingLemmas.{is_dual_within, filter-duals}
use Rattle.relation_list.proofs.directs.push_duals.Goals as goal

pub returns : goal.returns
returns c = c.loop-u.invariant ∙ ap (λ us. c.args.names.now.items ++ map (λ u. Dual u) (filter (is_dual_within c.args.d) us))
    (take_all c.loop-u.u-index c.deref-u-items.result.now (omega arith) ∙ c.deref-u-items.ensures.value ∙ c.in_ok-words.ensures)
    ∙ ap (λ ns. c.args.names.now.items ++ ns) (sym (filter-duals c.args.w c.args.d))
