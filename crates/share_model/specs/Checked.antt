-- Shares whose rows are known to be a result of them, with rows and combinations of elements of a ring.
use Rattle.std.specs.Prelude.{◌≡◌, ℕ, ◌<◌, Bool, List, [], length, get_or, refl}
use Rattle.std.specs.Coded.{Coded, code_by, coded×, coded_ℕ, coded_list}
use Rattle.zeta_model.specs.declared.Letter.{Letter}
use Rattle.zeta_model.specs.Words.{word_code}
use Rattle.column_order.specs.Columns.{ColumnList}
use Rattle.sparse_rows.specs.Entries.{IsBelow}
use Rattle.echelon.specs.Lists.{row_at, lead_at}
use Rattle.echelon.specs.States.{RowList, row_list_code, AllIns}
use Rattle.page_codec.specs.declared.params.Params.{Params}
use Rattle.page_codec.specs.Bounds.{IsParams}
use Rattle.file_model.specs.TableOf.{IsTableOf}
use Rattle.table_model.specs.ListedSpan.{relation_count}
use Rattle.share_model.specs.Dealing.{IsShareResult}
use Rattle.share_model.specs.Shares.{IsShareId}
use Rattle.share_model.specs.declared.share.ShareId.{ShareId}

-- the parameters, which share it is, and its rows with their combinations
pub record Checked (R E : Type 0) : Type 0 where
  pub params : Params
  pub id : ShareId
  pub list : RowList R E
  pub combinations : List (List (ℕ × E))

-- parameters are stored as the tuple of their fields
abbrev pub params_code : Coded Params
params_code =
    code_by (ℕ × (ℕ × (ℕ × (ℕ × List (List Letter))))) (coded× coded_ℕ (coded× coded_ℕ (coded× coded_ℕ (coded× coded_ℕ (coded_list word_code)))))
    (λ p. (p.weight, (p.depth, (p.modulus, (p.order, p.preferred)))))
    (λ t. record { weight = t.0; depth = t.1.0; modulus = t.1.1.0; order = t.1.1.1.0; preferred = t.1.1.1.1 }) (λ _. refl)

-- so is a share's index with their number
abbrev pub share_id_code : Coded ShareId
share_id_code = code_by (ℕ × ℕ) (coded× coded_ℕ coded_ℕ) (λ id. (id.index, id.of)) (λ t. record { index = t.0; of = t.1 }) (λ _. refl)

-- and what is checked
abbrev pub checked_code : {R E : Type 0} → Coded R → Coded E → Coded (Checked R E)
checked_code {R} {E} r e =
    code_by (Params × (ShareId × (RowList R E × List (List (ℕ × E)))))
    (coded× params_code (coded× share_id_code (coded× (row_list_code r e) (coded_list (coded_list (coded× coded_ℕ e))))))
    (λ c. (c.params, (c.id, (c.list, c.combinations))))
    (λ t. record { params = t.0; id = t.1.0; list = t.1.1.0; combinations = t.1.1.1 }) (λ _. refl)

-- the rows with their combinations of listed relations are a result of the share
pub record IsChecked {R E : Type 0} (m : ℕ) (has : E → Bool) (value : E → ℕ) (c : Checked R E) : Type 0 where
  pub modulus : c.params.modulus ≡ m
  pub params : IsParams c.params
  pub id : IsShareId c.id
  pub count : length c.combinations ≡ length c.list.rows
  pub in_ring : AllIns has c.combinations
  pub below : (i : ℕ) → i < length c.combinations
      → IsBelow (λ k. k) (relation_count c.params.weight c.params.depth) (get_or c.combinations i [])
  pub result : (columns : ColumnList) → IsTableOf c.params columns
      → IsShareResult m columns c.id.index c.id.of (length c.list.rows) (lead_at c.list.rows) (row_at value c.list.rows) (row_at value c.combinations)
