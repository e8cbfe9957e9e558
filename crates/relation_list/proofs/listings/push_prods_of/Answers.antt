use Rattle.std.proofs.Common.{◌-◌, ◌++◌, map, sym, ap, ◌∙◌, arith}
use Rattle.std.proofs.lemmas.List.{take_all}
use Rattle.relation_list.specs.declared.names.RelName.TheVariants.{Prod}
use Rattle.zeta_model.specs.WordLists.{admissible_within}
use Rattle.relation_list.proofs.ListingLemmas.{filter-prods_by}
use Rattle.relation_list.proofs.listings.push_prods_of.Goals as goal

pub returns : goal.returns
returns c =
    c.loop-u.invariant
    ∙ ap (λ us. c.args.names.now.items ++ map (λ u. Prod c.args.r.now u) us)
    (take_all c.loop-u.u-index c.deref-u-items.result.now (omega arith) ∙ c.deref-u-items.ensures.value ∙ c.in_ok-words.ensures
    ∙ ap (λ n. admissible_within c.args.k (c.args.d - n)) c.direct_depth.ensures)
    ∙ ap (λ ns. c.args.names.now.items ++ ns) (sym (filter-prods_by c.args.k c.args.d c.args.r.now))
