use Rattle.std.proofs.Common.{◌-◌, ◌≤◌, ◌++◌, All, filter, sym, ap, subst, ◌∙◌, arith}
use Rattle.std.specs.List.{flat_map}
use Rattle.std.proofs.lemmas.List.{take_all}
use Rattle.std.proofs.lemmas.List.Elements.{All-same}
use Rattle.relation_list.specs.Names.{direct_depth_of}
use Rattle.relation_list.specs.Listings.{directs, prods_by}
use Rattle.relation_list.specs.Inner.{direct_within, name_within}
use Rattle.relation_list.proofs.FilterLemmas.{flat_map_items_upto}
use Rattle.relation_list.proofs.ListingLemmas.{directs-fit, filter-prods_from}
use Rattle.relation_list.proofs.listings.push_prods_at.Goals as goal

pub push_prods_of-requires-clause-depth : goal.push_prods_of-requires-clause-depth
push_prods_of-requires-clause-depth c =
    let all : All (λ r. direct_depth_of r ≤ c.args.d) c.deref-r-items.result.now =
    All-same (λ r. direct_depth_of r ≤ c.args.d) c.deref-r-items.result.now (filter (direct_within c.args.d) (directs c.args.k))
    (c.deref-r-items.ensures.value ∙ c.in_ok-directs.ensures) (directs-fit c.args.k c.args.d) in
    subst (λ r. direct_depth_of r ≤ c.args.d) (sym c.r-item.is) (all c.loop-r.r-index c.r-item.result (omega arith))

pub loop-r-preserved : goal.loop-r-preserved
loop-r-preserved c =
    c.in_ok-push_prods_of.ensures
    ∙ ap (λ ns. ns ++ filter (name_within c.args.d) (prods_by (c.args.w - c.args.k) c.r-item.result)) c.loop-r.invariant
    ∙ flat_map_items_upto (λ r. filter (name_within c.args.d) (prods_by (c.args.w - c.args.k) r)) c.args.names.now.items c.deref-r-items.result.now
    c.loop-r.r-index c.r-item.result (omega arith) c.r-item.is

pub returns : goal.returns
returns c =
    c.loop-r.invariant
    ∙ ap (λ rs. c.args.names.now.items ++ flat_map (λ r. filter (name_within c.args.d) (prods_by (c.args.w - c.args.k) r)) rs)
    (take_all c.loop-r.r-index c.deref-r-items.result.now (omega arith) ∙ c.deref-r-items.ensures.value ∙ c.in_ok-directs.ensures)
    ∙ ap (λ ns. c.args.names.now.items ++ ns) (sym (filter-prods_from c.args.w c.args.d c.args.k))
