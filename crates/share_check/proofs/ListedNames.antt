-- The names of the listing, and their values by their numbers.
use Rattle.std.proofs.Common.{◌≡◌, ℕ, ◌<◌, ◌≤◌, true, Some, length, get_or, slice_get, List, sym, ◌∙◌, ap, subst, arith}
use Rattle.std.specs.Prelude.{Contains}
use Rattle.std.proofs.lemmas.Option.{slice_get-get_or}
use Rattle.zeta_model.proofs.WordListLaws.{length-admissible_within}
use Rattle.column_order.specs.Columns.{ColumnList, column_count}
use Rattle.relation_list.specs.declared.names.RelName.{RelName}
use Rattle.relation_list.specs.Names.{is_name_of}
use Rattle.relation_list.specs.Listings.{listing_of}
use Rattle.relation_list.specs.Values.{value_of}
use Rattle.relation_list.proofs.WholeListing.{listing_of-whole}
use Rattle.relation_list.proofs.ListingLengths.{listing-small}
use Rattle.table_model.specs.ListedSpan.{value_where, listed_value, relation_count, values_of, count_of}

pub listed_is_name : (w d n : ℕ) (names : List RelName) (name : RelName) → w ≤ 24 → names ≡ listing_of w d → n < length names → name ≡ get_or names n name
    → is_name_of name ≡ true
listed_is_name w d n names name most listed l is = ((listing_of-whole w d name most).0 (subst (λ xs. Contains xs name) listed (n, l, sym is))).0

-- a number of a relation has 32 bits
pub names_few : (w d : ℕ) (names : List RelName) → names ≡ listing_of w d → 2 ≤ w → w ≤ 24 → column_count w d ≤ 2048 → length names ≤ 1179648
names_few w d names listed least most few =
    let small : length (listing_of w d) ≤ 1179648 = listing-small w d most (omega (arith, length-admissible_within w d least)) in
    omega (arith, ap length listed)

pub names_counted : (columns : ColumnList) (names : List RelName) → names ≡ listing_of columns.weight columns.depth → length names ≡ count_of columns
unfolding relation_count
names_counted columns names listed = ap length listed

pub listed_value-name : (m : ℕ) (columns : ColumnList) (names : List RelName) (n : ℕ) (name : RelName) → names ≡ listing_of columns.weight columns.depth
    → n < length names → name ≡ get_or names n name → values_of m columns n ≡ value_of m name
unfolding listed_value
listed_value-name m columns names n name listed l is =
    ap (λ xs. value_where m (slice_get xs n)) (sym listed) ∙ ap (value_where m) (slice_get-get_or names n name l ∙ ap (λ x. Some x) (sym is))
