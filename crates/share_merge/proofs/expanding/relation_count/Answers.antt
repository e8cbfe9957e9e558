use Rattle.std.proofs.Common.{◌≡◌, ◌≤◌, length, refl, sym, subst, arith}
use Rattle.relation_list.specs.Listings.{listing_of}
use Rattle.share_build.proofs.NamedValues.{few_names, items_are, count_is}
use Rattle.share_merge.proofs.expanding.relation_count.Goals as goal

pub returns-clause-count : goal.returns-clause-count
returns-clause-count c =
    let x = c.args.columns.now in
    let is : c.in_ok-names.names.items ≡ listing_of x.weight x.depth =
    items_are c.in_ok-names.names.items c.in_ok-names.names.items c.weight.result c.depth.result x x refl c.in_ok-names.ensures c.weight.ensures.weight
    c.depth.ensures.depth refl in
    omega (arith, c.in_ok-names.names.ok.0, c.len.ensures, count_is c.in_ok-names.names.items x is)

pub returns-clause-few : goal.returns-clause-few
returns-clause-few c =
    let x = c.args.columns.now in
    let few : length (listing_of x.weight x.depth) ≤ 1179648 =
    few_names x.weight x.depth (omega (arith, c.weight.ensures.weight, c.weight.ensures.least)) (omega (arith, c.weight.ensures.weight, c.weight.ensures.most))
    c.requires in
    let is : c.in_ok-names.names.items ≡ listing_of x.weight x.depth =
    items_are c.in_ok-names.names.items c.in_ok-names.names.items c.weight.result c.depth.result x x refl c.in_ok-names.ensures c.weight.ensures.weight
    c.depth.ensures.depth refl in
    let small : length c.in_ok-names.names.items ≤ 1179648 = subst (λ xs. length xs ≤ 1179648) (sym is) few in
    omega (arith, small, c.in_ok-names.names.ok.0, c.len.ensures)
