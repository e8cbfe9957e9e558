use Rattle.std.proofs.Common.{◌≡◌, ℕ, length, refl, ap, ◌∙◌, arith, rules}
use Rattle.relation_list.specs.Listings.{listing_of}
use Rattle.table_model.specs.ListedSpan.{relation_count}
use Rattle.table_columns.proofs.FewNames.{few_names}
use Rattle.table_columns.proofs.columns.relation_count.Goals as goal

counted : (w d : ℕ) → length (listing_of w d) ≡ relation_count w d
unfolding relation_count
counted w d = refl

pub overflow_cast-result : goal.overflow_cast-result
overflow_cast-result c =
    let params = c.args.params.now in
    let few = few_names params.weight params.depth c.requires.weight_from c.requires.weight_to c.requires.columns in
    let listed = ap length c.in_ok-names.ensures in
    omega (arith, few, listed, c.len.ensures)

pub returns : goal.returns
returns c =
    let params = c.args.params.now in
    let listed : length c.in_ok-names.names.items ≡ relation_count params.weight params.depth =
    ap length c.in_ok-names.ensures ∙ counted params.weight params.depth in
    search (rules, listed)
