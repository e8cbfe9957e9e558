use Rattle.std.proofs.Common.{◌≡◌, ℕ, length, refl, ap, ◌∙◌, ◌≤◌, arith, rules}
use Rattle.zeta_model.proofs.WordListLaws.{length-admissible_within}
use Rattle.page_codec.specs.declared.params.Params.{Params}
use Rattle.page_codec.specs.Bounds.{IsParams}
use Rattle.relation_list.specs.Listings.{listing_of}
use Rattle.relation_list.proofs.ListingLengths.{listing-small}
use Rattle.table_model.specs.ListedSpan.{relation_count}
use Rattle.share_file.proofs.limits.relation_count.Goals as goal

few_listed : (params : Params) → IsParams params → length (listing_of params.weight params.depth) ≤ 1179648
few_listed params fits =
    listing-small params.weight params.depth fits.weight_to
    (omega (arith, length-admissible_within params.weight params.depth fits.weight_from, fits.columns))

counted : (w d : ℕ) → length (listing_of w d) ≡ relation_count w d
unfolding relation_count
counted w d = refl

pub overflow_cast-result : goal.overflow_cast-result
overflow_cast-result c =
    let few = few_listed c.args.params.now c.requires in
    let listed = ap length c.in_ok-names.ensures in
    omega (arith, few, listed, c.len.ensures)

pub returns : goal.returns
returns c =
    let params = c.args.params.now in
    let listed : length c.in_ok-names.names.items ≡ relation_count params.weight params.depth =
    ap length c.in_ok-names.ensures ∙ counted params.weight params.depth in
    search (rules, listed)
