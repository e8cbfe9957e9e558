use Rattle.std.proofs.Common.{List, filter, ◌++◌, sym, ap, ◌∙◌, append_assoc}
use Rattle.relation_list.specs.declared.names.Direct.{Direct}
use Rattle.relation_list.specs.Listings.{fins, regs, duals}
use Rattle.relation_list.specs.Inner.{direct_within}
use Rattle.relation_list.proofs.ListingLemmas.{filter-directs}
use Rattle.relation_list.proofs.directs.directs_within.Goals as goal

pub returns : goal.returns
returns c =
    let fs : List Direct = filter (direct_within c.args.d) (fins c.args.w) in
    let rs : List Direct = filter (direct_within c.args.d) (regs c.args.w) in
    let ds : List Direct = filter (direct_within c.args.d) (duals c.args.w) in
    c.in_ok-push_duals.ensures ∙ ap (λ ns. ns ++ ds)
    (c.in_ok-push_regs.ensures ∙ ap (λ ns. ns ++ rs) (c.in_ok-push_fins.ensures ∙ ap (λ ns. ns ++ fs) c.new-names.ensures.items))
    ∙ append_assoc fs rs ds ∙ sym (filter-directs c.args.w c.args.d)
