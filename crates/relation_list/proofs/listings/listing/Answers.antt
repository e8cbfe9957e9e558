use Rattle.std.proofs.Common.{◌≡◌, ◌-◌, ◌++◌, List, map, filter, sym, ap, ◌∙◌, arith}
use Rattle.std.specs.List.{flat_map, range_with_len}
use Rattle.relation_list.specs.declared.names.RelName.{RelName}
use Rattle.relation_list.specs.declared.names.RelName.TheVariants.{Plain}
use Rattle.relation_list.specs.Listings.{directs, prods_from}
use Rattle.relation_list.specs.Inner.{direct_within, name_within}
use Rattle.relation_list.proofs.FilterLemmas.{flat_map_upto}
use Rattle.relation_list.proofs.ListingLemmas.{listing_of-parts}
use Rattle.relation_list.proofs.listings.listing.Goals as goal

pub loop-k-preserved : goal.loop-k-preserved
loop-k-preserved c =
    let plain : List RelName = map (λ r. Plain r) (filter (direct_within c.args.d) (directs c.args.w)) in
    record {
      made =
          c.in_ok-push_prods_at.ensures
          ∙ ap (λ ns. ns ++ filter (name_within c.args.d) (prods_from c.args.w c.loop-k.k)) c.loop-k.invariant.made
          ∙ flat_map_upto (λ k. filter (name_within c.args.d) (prods_from c.args.w k)) plain 3 c.loop-k.k (omega arith);
      within = omega arith;
    }

pub returns : goal.returns
returns c =
    let whole : c.loop-k.k - 3 ≡ c.args.w - 4 = omega arith in
    let plain : List RelName = map (λ r. Plain r) (filter (direct_within c.args.d) (directs c.args.w)) in
    c.loop-k.invariant.made
    ∙ ap (λ n. plain ++ flat_map (λ k. filter (name_within c.args.d) (prods_from c.args.w k)) (range_with_len 3 n)) whole
    ∙ sym (listing_of-parts c.args.w c.args.d)
