use Rattle.std.proofs.Common.{◌≡◌, ◌-◌, ◌++◌, filter, sym, ap, ◌∙◌, arith}
use Rattle.std.specs.List.{flat_map, range_with_len}
use Rattle.relation_list.specs.Listings.{fins_from}
use Rattle.relation_list.specs.Inner.{direct_within}
use Rattle.relation_list.proofs.FilterLemmas.{flat_map_upto}
use Rattle.relation_list.proofs.ListingLemmas.{filter-fins}
use Rattle.relation_list.proofs.directs.push_fins.Goals as goal

pub loop-k-preserved : goal.loop-k-preserved
loop-k-preserved c = record {
  made =
      c.in_ok-push_fins_at.ensures
      ∙ ap (λ rs. rs ++ filter (direct_within c.args.d) (fins_from c.args.w c.loop-k.k)) c.loop-k.invariant.made
      ∙ flat_map_upto (λ k. filter (direct_within c.args.d) (fins_from c.args.w k)) c.args.names.now.items 1 c.loop-k.k (omega arith);
  within = omega arith;
}

pub returns : goal.returns
returns c =
    let whole : c.loop-k.k - 1 ≡ c.args.w - 1 = omega arith in
    c.loop-k.invariant.made
    ∙ ap (λ n. c.args.names.now.items ++ flat_map (λ k. filter (direct_within c.args.d) (fins_from c.args.w k)) (range_with_len 1 n)) whole
    ∙ ap (λ ns. c.args.names.now.items ++ ns) (sym (filter-fins c.args.w c.args.d))
