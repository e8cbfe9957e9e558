-- Rows that are a result of a share make a checked share.
use Rattle.std.proofs.Common.{◌≡◌, ℕ, ◌<◌, Bool, List, [], length, get_or, sym, ◌∙◌, ap, subst}
use Rattle.sparse_rows.specs.Entries.{AllIn}
use Rattle.column_order.specs.Columns.{ColumnList}
use Rattle.echelon.specs.Lists.{lead_at, row_at}
use Rattle.echelon.specs.States.{RowList}
use Rattle.table_model.specs.ListedSpan.{relation_count}
use Rattle.file_model.specs.TableOf.{IsTableOf}
use Rattle.file_model.proofs.ParamColumns.{same_columns}
use Rattle.cert_checker.specs.Verdicts.{AreWithin}
use Rattle.share_model.specs.declared.share.Share.{Share}
use Rattle.share_model.specs.Dealing.{IsShareResult}
use Rattle.share_model.specs.Shares.{IsShare}
use Rattle.share_model.specs.Checked.{IsChecked}

module _ {R E : Type 0} (modulus : R → ℕ) (has : R → E → Bool) (value : R → E → ℕ) (share : Share) (is : IsShare share) (ring : R)
    (same_modulus : modulus ring ≡ share.params.modulus) (columns : ColumnList) (of : IsTableOf share.params columns) (list : RowList R E)
    (rings : list.ring ≡ ring) (rows combinations : List (List (ℕ × E))) (same : list.rows ≡ rows) where
  abbrev Result : R → ColumnList → List (List (ℕ × E)) → Type 0
  Result r cs rs =
      IsShareResult (modulus r) cs share.id.index share.id.of (length rs) (lead_at rs) (row_at (value r) rs) (row_at (value r) combinations)

  pub checked : (nought : E) → AreWithin nought (has ring) (relation_count share.params.weight share.params.depth) combinations
      → length combinations ≡ length rows → Result ring columns rows
      → IsChecked (modulus list.ring) (has list.ring) (value list.ring)
      (record { params = share.params; id = share.id; list = list; combinations = combinations })
  checked nought within count result = record {
    modulus = sym (ap modulus rings ∙ same_modulus);
    params = is.params;
    id = is.id;
    count = count ∙ ap length (sym same);
    in_ring = subst (λ r. (i : ℕ) → i < length combinations → AllIn (has r) (get_or combinations i [])) (sym rings) within.in_ring;
    below = within.below;
    result = λ others are.
        subst (λ r. Result r others list.rows) (sym rings)
        (subst (λ rs. Result ring others rs) (sym same) (subst (λ cs. Result ring cs rows) (same_columns share.params columns others of are) result));
  }
