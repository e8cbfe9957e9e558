use Rattle.std.proofs.Common.{◌≡◌, ◌-◌, ◌++◌, filter, sym, ap, ◌∙◌, arith}
use Rattle.std.specs.List.{flat_map, range_with_len}
use Rattle.relation_list.specs.Listings.{regs_from}
use Rattle.relation_list.specs.Inner.{direct_within}
use Rattle.relation_list.proofs.FilterLemmas.{flat_map_upto}
use Rattle.relation_list.proofs.ListingLemmas.{filter-regs}
use Rattle.relation_list.proofs.directs.push_regs.Goals as goal

pub loop-m-preserved : goal.loop-m-preserved
loop-m-preserved c = record {
  made =
      c.in_ok-push_regs_at.ensures
      ∙ ap (λ rs. rs ++ filter (direct_within c.args.d) (regs_from c.args.w c.loop-m.m)) c.loop-m.invariant.made
      ∙ flat_map_upto (λ k. filter (direct_within c.args.d) (regs_from c.args.w k)) c.args.names.now.items 1 c.loop-m.m (omega arith);
  within = omega arith;
}

pub returns : goal.returns
returns c =
    let whole : c.loop-m.m - 1 ≡ c.args.w - 1 = omega arith in
    c.loop-m.invariant.made
    ∙ ap (λ n. c.args.names.now.items ++ flat_map (λ k. filter (direct_within c.args.d) (regs_from c.args.w k)) (range_with_len 1 n)) whole
    ∙ ap (λ ns. c.args.names.now.items ++ ns) (sym (filter-regs c.args.w c.args.d))
