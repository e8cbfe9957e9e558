use Rattle.std.proofs.Common.{◌-◌, ◌++◌, filter, sym, ap, ◌∙◌, arith}
use Rattle.std.specs.List.{flat_map}
use Rattle.std.proofs.lemmas.List.{take_all}
use Rattle.relation_list.specs.Listings.{fins_by}
use Rattle.relation_list.specs.Inner.{direct_within}
use Rattle.relation_list.proofs.FilterLemmas.{flat_map_items_upto}
use Rattle.relation_list.proofs.ListingLemmas.{filter-fins_from}
use Rattle.relation_list.proofs.directs.push_fins_at.Goals as goal

pub loop-u-preserved : goal.loop-u-preserved
loop-u-preserved c =
    c.in_ok-push_fins_of.ensures
    ∙ ap (λ ns. ns ++ filter (direct_within c.args.d) (fins_by (c.args.w - c.args.k) c.u-item.result)) c.loop-u.invariant
    ∙ flat_map_items_upto (λ u. filter (direct_within c.args.d) (fins_by (c.args.w - c.args.k) u)) c.args.names.now.items c.deref-u-items.result.now
    c.loop-u.u-index c.u-item.result (omega arith) c.u-item.is

pub returns : goal.returns
returns c =
    c.loop-u.invariant
    ∙ ap (λ us. c.args.names.now.items ++ flat_map (λ u. filter (direct_within c.args.d) (fins_by (c.args.w - c.args.k) u)) us)
    (take_all c.loop-u.u-index c.deref-u-items.result.now (omega arith) ∙ c.deref-u-items.ensures.value ∙ c.in_ok-words.ensures)
    ∙ ap (λ ns. c.args.names.now.items ++ ns) (sym (filter-fins_from c.args.w c.args.d c.args.k))
