-- What is found of the rows of elements of a share is found of the share.
use Rattle.std.proofs.Common.{◌≡◌, ℕ, Bool, List, [], length, get_or, sym, subst, ◌∙◌}
use Rattle.std.proofs.lemmas.List.{length-map}
use Rattle.std.proofs.Math.ListN.{get_or-map}
use Rattle.column_order.specs.Columns.{ColumnList}
use Rattle.page_codec.specs.declared.parts.FinalEntry.{FinalEntry}
use Rattle.echelon.specs.Lists.{lead_at, row_at, lead_of}
use Rattle.table_model.specs.Faults.{Verdict}
use Rattle.file_model.specs.FinalRows.{no_entry}
use Rattle.file_model.specs.Pages.{pairs_of}
use Rattle.file_model.specs.TableOf.{IsTableOf}
use Rattle.file_model.proofs.ParamColumns.{same_columns}
use Rattle.share_model.specs.declared.share.Share.{Share}
use Rattle.share_model.specs.Dealing.{IsShareVerdict}
use Rattle.share_model.specs.Shares.{IsFoundOf, share_row, share_combination, share_lead}
use Rattle.share_check.specs.Inner.{AreRead, rows_of, combinations_of}
use Rattle.share_check.proofs.ReadRows.{as_many_read, same_rows, same_leads}

module _ {E : Type 0} (nought : E) (has : E → Bool) (value : E → ℕ) (share : Share) (rows combinations : List (List (ℕ × E)))
    (are_rows : AreRead nought has value (rows_of share.rows) rows)
    (are_combinations : AreRead nought has value (combinations_of share.rows) combinations) where
  pub rows_counted : length rows ≡ length share.rows
  rows_counted = as_many_read nought has value (rows_of share.rows) rows are_rows ∙ length-map share.rows (λ (e : FinalEntry). e.row)

  pub combinations_counted : length combinations ≡ length rows
  combinations_counted =
      as_many_read nought has value (combinations_of share.rows) combinations are_combinations ∙ length-map share.rows (λ (e : FinalEntry). e.combination)
      ∙ sym rows_counted

  row-there : (i : ℕ) → get_or (rows_of share.rows) i [] ≡ (get_or share.rows i no_entry).row
  row-there i = get_or-map (λ (e : FinalEntry). e.row) share.rows i no_entry

  combination-there : (i : ℕ) → get_or (combinations_of share.rows) i [] ≡ (get_or share.rows i no_entry).combination
  combination-there i = get_or-map (λ (e : FinalEntry). e.combination) share.rows i no_entry

  rows-same : row_at value rows ≡ share_row share
  rows-same = same_rows nought has value (rows_of share.rows) rows are_rows ∙ (λ j i. pairs_of (row-there i j))

  leads-same : lead_at rows ≡ share_lead share
  leads-same = same_leads nought has value (rows_of share.rows) rows are_rows ∙ (λ j i. lead_of (row-there i j))

  combinations-same : row_at value combinations ≡ share_combination share
  combinations-same =
      same_rows nought has value (combinations_of share.rows) combinations are_combinations ∙ (λ j i. pairs_of (combination-there i j))

  module _ (m : ℕ) (modulus : m ≡ share.params.modulus) (columns : ColumnList) (of : IsTableOf share.params columns) where
    abbrev Verdicts : ℕ → ColumnList → ℕ → (ℕ → ℕ) → (ℕ → ℕ → ℕ) → (ℕ → ℕ → ℕ) → Verdict → Type 0
    Verdicts k cs count lead rs gs v = IsShareVerdict k cs share.id.index share.id.of count lead rs gs v

    pub found : (v : Verdict) → Verdicts m columns (length rows) (lead_at rows) (row_at value rows) (row_at value combinations) v → IsFoundOf share v
    found v is others are =
        subst (λ cs. Verdicts share.params.modulus cs (length share.rows) (share_lead share) (share_row share) (share_combination share) v)
        (same_columns share.params columns others of are)
        (subst (λ k. Verdicts k columns (length share.rows) (share_lead share) (share_row share) (share_combination share) v) modulus
        (subst (λ gs. Verdicts m columns (length share.rows) (share_lead share) (share_row share) gs v) combinations-same
        (subst (λ rs. Verdicts m columns (length share.rows) (share_lead share) rs (row_at value combinations) v) rows-same
        (subst (λ lead. Verdicts m columns (length share.rows) lead (row_at value rows) (row_at value combinations) v) leads-same
        (subst (λ n. Verdicts m columns n (lead_at rows) (row_at value rows) (row_at value combinations) v) rows_counted is)))))
