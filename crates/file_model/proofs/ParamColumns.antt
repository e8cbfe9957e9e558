-- The columns of parameters.
use Rattle.std.specs.Prelude.{◌≡◌, ◌≤◌, length}
use Rattle.std.proofs.Common.{refl, sym, ◌∙◌, subst, arith}
use Rattle.column_order.specs.declared.ranks.Preference.{Preference}
use Rattle.column_order.specs.Ranks.{rank_of}
use Rattle.column_order.specs.Columns.{ColumnList, IsColumnList, IsColumns, HasLimits, column_count}
use Rattle.column_order.proofs.ColumnLists.{one_list, some_list, length-columns}
use Rattle.relation_list.proofs.ListingLengths.{listing-small}
use Rattle.zeta_model.proofs.WordListLaws.{length-admissible_within}
use Rattle.page_codec.specs.declared.params.Params.{Params}
use Rattle.page_codec.specs.Bounds.{IsParams}
use Rattle.page_codec.specs.Tests.{mode_of}
use Rattle.table_model.specs.ListedSpan.{count_of, relation_count}
use Rattle.file_model.specs.TableOf.{IsTableOf}

-- they are one list
pub same_columns : (params : Params) (c d : ColumnList) → IsTableOf params c → IsTableOf params d → c ≡ d
same_columns params c d a b =
    let ta = a.table in
    let tb = b.table in
    let weight : c.weight ≡ d.weight = a.weight ∙ sym b.weight in
    let depth : c.depth ≡ d.depth = a.depth ∙ sym b.depth in
    let mode : c.preference.mode ≡ d.preference.mode = a.mode ∙ sym b.mode in
    let words : c.preference.words ≡ d.preference.words = a.words ∙ sym b.words in
    let preference : c.preference ≡ d.preference = λ i. record { mode = mode i; words = words i } in
    let moved : IsColumnList (rank_of d.preference) d.weight d.depth c.list =
    subst (λ x. IsColumnList (rank_of x) d.weight d.depth c.list) preference
    (subst (λ x. IsColumnList (rank_of c.preference) d.weight x c.list) depth
    (subst (λ x. IsColumnList (rank_of c.preference) x c.depth c.list) weight ta.whole)) in
    let list : c.list ≡ d.list = one_list (rank_of d.preference) d.weight d.depth c.list d.list moved tb.whole in
    λ i. record { weight = weight i; depth = depth i; preference = preference i; list = list i }

-- there are as many as the count says, and as many relations
pub columns_are : (params : Params) (columns : ColumnList) → IsTableOf params columns → length columns.list ≡ column_count params.weight params.depth
columns_are params columns of =
    let t = of.table in let limits = t.limits in
    length-columns (rank_of columns.preference) columns.weight columns.depth columns.list limits.least limits.most limits.some t.whole
    ∙ (λ i. column_count (of.weight i) (of.depth i))

pub relations_are : (params : Params) (columns : ColumnList) → IsTableOf params columns → count_of columns ≡ relation_count params.weight params.depth
relations_are params columns of = λ i. relation_count (of.weight i) (of.depth i)

module _ (params : Params) (fits : IsParams params) where
  -- a number of relations has 32 bits
  pub relations_few : relation_count params.weight params.depth ≤ 1179648
  unfolding relation_count
  relations_few = listing-small params.weight params.depth fits.weight_to
      (let few = fits.columns in omega (arith, few, length-admissible_within params.weight params.depth fits.weight_from))

  -- parameters in range have these
  pub table_of : (columns : ColumnList) → IsColumns columns → columns.weight ≡ params.weight → columns.depth ≡ params.depth
      → columns.preference.mode ≡ mode_of params.order → columns.preference.words ≡ params.preferred → IsTableOf params columns
  table_of columns whole weight depth mode words = record {
    table = record {
      modulus = let from = fits.modulus_from in omega arith;
      limits = record {
        least = let from = fits.weight_from in omega arith;
        most = let to = fits.weight_to in omega arith;
        some = let from = fits.depth_from in omega arith;
        below = let to = fits.depth_to in omega arith;
      };
      whole = whole;
    };
    weight = weight;
    depth = depth;
    mode = mode;
    words = words;
  }

  abbrev preference : Preference
  preference = record { mode = mode_of params.order; words = params.preferred }

  limits : HasLimits params.weight params.depth
  limits = record { least = fits.weight_from; most = fits.weight_to; some = fits.depth_from; below = fits.depth_to }

  pub some_columns : (columns : ColumnList) × IsTableOf params columns
  some_columns =
      let list = some_list (rank_of preference) params.weight params.depth limits in
      let columns : ColumnList = record { weight = params.weight; depth = params.depth; preference = preference; list = list.0 } in
      (columns, table_of columns list.1 refl refl refl refl)
