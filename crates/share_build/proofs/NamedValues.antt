-- The names of the listing: they are names of the table's weight, their values have words of the table alone, and they are not many.
use Rattle.std.specs.Prelude.{◌≡◌, ℕ, ◌%◌, ◌<◌, ◌≤◌, Some, List, length, slice_get, All, Contains, ◌&&◌, true, false, not, Bool, get_or}
use Rattle.std.proofs.Common.{refl, sym, ◌∙◌, ap, subst, arith}
use Rattle.std.specs.Map.{keys_of}
use Rattle.std.proofs.lemmas.Option.{slice_get_within, get_or_from_slice_get, slice_get-get_or}
use Rattle.std.proofs.lemmas.Bool.{eq-eqb, le-leb}
use Rattle.std.proofs.lemmas.List.Elements.{All-contains}
use Rattle.zeta_model.specs.declared.Letter.{Letter}
use Rattle.zeta_model.specs.Sums.{Sum}
use Rattle.zeta_model.specs.Words.{depth_of}
use Rattle.zeta_model.proofs.ListLemmas.{from-filter}
use Rattle.zeta_model.proofs.ModularLemmas.{same-mod}
use Rattle.zeta_model.proofs.WordListLaws.{length-admissible_within}
use Rattle.word_sums.specs.Failing.{failing, IsLeast}
use Rattle.column_order.specs.Columns.{ColumnList, column_count}
use Rattle.relation_list.specs.declared.names.RelName.{RelName}
use Rattle.relation_list.specs.Names.{is_name_of, weight_of_name, depth_of_name}
use Rattle.relation_list.specs.Listings.{listing_of}
use Rattle.relation_list.specs.Values.{value_of, IsWordOf}
use Rattle.relation_list.proofs.WholeListing.{listing_of-whole}
use Rattle.relation_list.proofs.ListingLengths.{listing-small}
use Rattle.lyndon_polys.specs.Tables.{is_table_word}
use Rattle.table_model.specs.Conversion.{IsTableWord, IsCols}
use Rattle.table_model.specs.ListedSpan.{value_where, listed_value, relation_count, count_of}

pub listed : (w d n : ℕ) (name : RelName) → w ≤ 24 → slice_get (listing_of w d) n ≡ Some name
    → (is_name_of name ≡ true) × (weight_of_name name ≡ w) × (depth_of_name name ≤ d)
listed w d n name most e = (listing_of-whole w d name most).0 (
  n,
  slice_get_within (listing_of w d) n name e,
  get_or_from_slice_get (listing_of w d) n name name e,
)

pub listed_value-named : (m w d n : ℕ) (name : RelName) → slice_get (listing_of w d) n ≡ Some name → listed_value m w d n ≡ value_of m name
unfolding listed_value
listed_value-named m w d n name e = ap (value_where m) e

pub relation_count-listing : (columns : ColumnList) → count_of columns ≡ length (listing_of columns.weight columns.depth)
unfolding relation_count
relation_count-listing columns = refl

pub few_names : (w d : ℕ) → 2 ≤ w → w ≤ 24 → column_count w d ≤ 2048 → length (listing_of w d) ≤ 1179648
few_names w d least most few = listing-small w d most (omega (arith, length-admissible_within w d least))

-- a sum with the coefficients of another has its row
pub same_cols : (m : ℕ) (columns : ColumnList) (s u : Sum) (p : ℕ → ℕ) → ((t : List Letter) → s t ≡ u t % m) → IsCols m columns s p → IsCols m columns u p
same_cols m columns s u p same is = record { over = is.over; words = λ t. is.words t ∙ ap (λ x. x % m) (same t) ∙ same-mod m (u t) }

table_word_passes : (w d : ℕ) (t : List Letter) → IsTableWord w d t → is_table_word w d t ≡ true
table_word_passes w d t k = λ i. k.admissible i && (eq-eqb (length t) w k.weight i && le-leb (depth_of t) d k.depth i)

-- the words of a value of the table's weight and depth are words of the table
pub table_words : (w d : ℕ) (name : RelName) (words : List (List Letter)) → weight_of_name name ≡ w → depth_of_name name ≤ d → All (IsWordOf name) words
    → All (IsTableWord w d) words
table_words w d name words weight depth all i default l =
    let word : IsWordOf name (get_or words i default) = all i default l in
    record { admissible = word.admissible; weight = word.weight ∙ weight; depth = omega (arith, word.depth, depth) }

-- no word of the table fails the test
pub none_fails : {E : Type 0} (w d : ℕ) (terms : List (List Letter × E)) → All (IsTableWord w d) (keys_of terms) → (u : List Letter)
    → IsLeast (failing (is_table_word w d) terms) u → ⊥
none_fails w d terms words u least =
    let found : Contains (keys_of terms) u × (not (is_table_word w d u) ≡ true) = from-filter (λ t. not (is_table_word w d t)) (keys_of terms) u least.stands in
    refuse (is_table_word w d u) (table_word_passes w d u (All-contains (IsTableWord w d) (keys_of terms) u words found.0)) found.1
  where
    refuse : (b : Bool) → b ≡ true → not b ≡ true → ⊥
    refuse true e f = cc
    refuse false e f = cc

-- the names are the listing of the columns
pub items_are : (xs ys : List RelName) (a b : ℕ) (x columns : ColumnList) → xs ≡ ys → ys ≡ listing_of a b → a ≡ x.weight → b ≡ x.depth → x ≡ columns
    → xs ≡ listing_of columns.weight columns.depth
items_are xs ys a b x columns same is weight depth e =
    same ∙ is ∙ (λ i. listing_of (weight i) (depth i)) ∙ (λ i. let z = e i in listing_of z.weight z.depth)

-- the name at a place of the listing
pub item_named : (names : List RelName) (w d n : ℕ) (name : RelName) → names ≡ listing_of w d → n < length names → name ≡ get_or names n name
    → slice_get (listing_of w d) n ≡ Some name
item_named names w d n name e l is =
    subst (λ xs. slice_get xs n ≡ Some name) e (slice_get-get_or names n name l ∙ ap (λ x. Some x) (sym is))

pub count_is : (names : List RelName) (columns : ColumnList) → names ≡ listing_of columns.weight columns.depth → length names ≡ count_of columns
count_is names columns e = ap length e ∙ sym (relation_count-listing columns)
