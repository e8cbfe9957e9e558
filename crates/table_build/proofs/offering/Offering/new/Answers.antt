use Rattle.std.proofs.Common.{◌≡◌, ◌≤◌, length, ap, sym, subst, ◌∙◌, arith}
use Rattle.relation_list.specs.Listings.{listing_of}
use Rattle.column_order.specs.Columns.{ColumnList}
use Rattle.table_build.proofs.NamedValues.{few_names, count_is}
use Rattle.table_build.proofs.offering.Offering.new.Goals as goal

pub returns-clause-count : goal.returns-clause-count
returns-clause-count g c =
    let x = c.args.table.columns in
    let names = c.in_ok-names.names.items in
    let same = c.columns-columns.ensures.columns in
    let weight = c.weight.ensures.weight ∙ ap (λ (k : ColumnList). k.weight) same in
    let depth = c.depth.ensures.depth ∙ ap (λ (k : ColumnList). k.depth) same in
    let is : names ≡ listing_of x.weight x.depth = c.in_ok-names.ensures ∙ (λ i. listing_of (weight i) (depth i)) in
    let y = c.columns-columns.result.now in
    let few : length (listing_of y.weight y.depth) ≤ 1179648 =
    few_names y.weight y.depth (omega (arith, c.weight.ensures.weight, c.weight.ensures.least)) (omega (arith, c.weight.ensures.weight, c.weight.ensures.most))
    (omega (arith, c.len.ensures.count, c.len.ensures.within)) in
    let there : length (listing_of x.weight x.depth) ≤ 1179648 = subst (λ (k : ColumnList). length (listing_of k.weight k.depth) ≤ 1179648) same few in
    (count_is names x is, subst (λ xs. length xs ≤ 1179648) (sym is) there)
