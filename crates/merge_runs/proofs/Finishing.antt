-- What the counted shares give, told with residues for elements.
use Rattle.std.specs.Prelude.{◌≡◌, ℕ, ◌<◌, Bool, true, List, [], ◌∷◌, length, map, get_or}
use Rattle.std.proofs.Common.{refl, sym, ap, subst, ◌∙◌, arith}
use Rattle.std.proofs.lemmas.List.{length-map}
use Rattle.std.proofs.Math.ListN.{get_or-map}
use Rattle.column_order.specs.Columns.{ColumnList}
use Rattle.sparse_rows.specs.Entries.{IsBelow}
use Rattle.echelon.specs.Lists.{entries_of, lead_of, lead_at, row_at, FitsColumns}
use Rattle.echelon.specs.States.{IsRowList}
use Rattle.page_rows.specs.Written.{written, AreResidues}
use Rattle.lyndon_polys.specs.Tables.{RingTable}
use Rattle.table_model.specs.Complete.{IsComplete}
use Rattle.share_model.specs.declared.share.Share.{Share}
use Rattle.share_model.specs.Checked.{Checked}
use Rattle.share_merge.specs.declared.fault.MergeFault.{MergeFault}
use Rattle.share_merge.specs.declared.fault.MergeFault.TheVariants as merging
use Rattle.share_merge.specs.Turns.{HasAll, IsLeastMissing, MergesWhole, BreaksAtRow}
use Rattle.share_core.specs.Coordinations.{IsSetting, Coordination}
use Rattle.merge_program.specs.declared.status.MergeStatus.TheVariants as status
use Rattle.merge_program.specs.declared.words.TableWords.{TableWords}
use Rattle.merge_runs.specs.Lines.{missing_line, turn_line, merged_lines}
use Rattle.merge_runs.specs.Plain.{plain_of, plain_shares}
use Rattle.merge_runs.specs.Runs.{Run, ends, AreMerged, IsFinish}
use Rattle.merge_runs.specs.Runs.IsFinish.{missing, broken, merged}
use Rattle.merge_runs.specs.Inner.{Stands, TellsFault}
use Rattle.merge_runs.proofs.PlainTurns.{written_entry, all_plain, missing_plain, whole_plain, breaks_plain}
use Rattle.merge_runs.proofs.MergedLines.{written_residues, written_below}

-- over whatever names of the modulus, the number of shares and the list
module _ (merge : TableWords) (columns : ColumnList) (counted : List Share) (m shares : ℕ) (list : List (Checked ℕ ℕ)) (modulus : m ≡ merge.params.modulus)
    (of : shares ≡ merge.shares) (are : list ≡ plain_shares counted) where
  all_of : HasAll shares list → HasAll merge.shares (plain_shares counted)
  all_of all = subst (λ n. HasAll n (plain_shares counted)) of (subst (HasAll shares) are all)

  finish_missing : (index : ℕ) (text : List ℕ) → IsLeastMissing shares list index → text ≡ missing_line index
      → IsFinish merge columns counted (ends text status.NotComplete)
  finish_missing index text is same =
      missing index (subst (λ n. IsLeastMissing n (plain_shares counted) index) of (subst (λ l. IsLeastMissing shares l index) are is))
      (ap (λ t. ends t status.NotComplete) same)

  finish_broken : (residue share row : ℕ) (text : List ℕ) → HasAll shares list → BreaksAtRow m (λ v. v) columns list residue share row
      → text ≡ turn_line residue share row → IsFinish merge columns counted (ends text status.NoInverse)
  finish_broken residue share row text all is same =
      broken (all_of all) residue share row
      (subst (λ k. BreaksAtRow k (λ v. v) columns (plain_shares counted) residue share row) modulus
      (subst (λ l. BreaksAtRow m (λ v. v) columns l residue share row) are is)) (ap (λ t. ends t status.NoInverse) same)

  finish_merged : (rows combinations : List (List (ℕ × ℕ))) (text : List ℕ) → HasAll shares list → MergesWhole m (λ v. v) columns list
      → AreMerged m columns rows combinations → text ≡ merged_lines m columns.list rows → IsFinish merge columns counted (ends text status.Done)
  finish_merged rows combinations text all whole is same =
      merged (all_of all)
      (subst (λ k. MergesWhole k (λ v. v) columns (plain_shares counted)) modulus (subst (λ l. MergesWhole m (λ v. v) columns l) are whole))
      rows combinations (subst (λ k. AreMerged k columns rows combinations) modulus is)
      (ap (λ t. ends t status.Done) (same ∙ ap (λ k. merged_lines k columns.list rows) modulus))

module _ {E : Type 0} (value : E → ℕ) where
  lead-written : (row : List (ℕ × E)) → lead_of (written value row) ≡ lead_of row
  lead-written [] = refl
  lead-written (e ∷ es) = refl

  leads-written : (rows : List (List (ℕ × E))) → lead_at (map (written value) rows) ≡ lead_at rows
  leads-written rows = λ j i. at i j
    where
      at : (i : ℕ) → lead_at (map (written value) rows) i ≡ lead_at rows i
      at i = ap lead_of (get_or-map (written value) rows i []) ∙ lead-written (get_or rows i [])

  rows-written : (rows : List (List (ℕ × E))) → row_at (λ v. v) (map (written value) rows) ≡ row_at value rows
  rows-written rows = λ j i n. at i n j
    where
      at : (i n : ℕ) → row_at (λ v. v) (map (written value) rows) i n ≡ row_at value rows i n
      at i n = ap (λ row. entries_of (λ v. v) row n) (get_or-map (written value) rows i []) ∙ written_entry value (get_or rows i []) n

  complete_written : (m : ℕ) (columns : ColumnList) (rows combinations : List (List (ℕ × E)))
      → IsComplete m columns (length rows) (lead_at rows) (row_at value rows) (row_at value combinations)
      → IsComplete m columns (length (map (written value) rows)) (lead_at (map (written value) rows)) (row_at (λ v. v) (map (written value) rows))
      (row_at (λ v. v) (map (written value) combinations))
  complete_written m columns rows combinations is =
      subst (λ n. IsComplete m columns n (lead_at (map (written value) rows)) (row_at (λ v. v) (map (written value) rows))
      (row_at (λ v. v) (map (written value) combinations))) (sym (length-map rows (written value)))
      (subst (λ l. IsComplete m columns (length rows) l (row_at (λ v. v) (map (written value) rows)) (row_at (λ v. v) (map (written value) combinations)))
      (sym (leads-written rows))
      (subst (λ r. IsComplete m columns (length rows) (lead_at rows) r (row_at (λ v. v) (map (written value) combinations))) (sym (rows-written rows))
      (subst (λ r. IsComplete m columns (length rows) (lead_at rows) (row_at value rows) r) (sym (rows-written combinations)) is)))

module _ {E : Type 0} (zero : E) (has : E → Bool) (value : E → ℕ) (has_zero : has zero ≡ true) (value_zero : value zero ≡ 0)
    (injective : (a b : E) → has a ≡ true → has b ≡ true → value a ≡ value b → a ≡ b) (m : ℕ) (small : (a : E) → has a ≡ true → value a < m) where
  -- complete rows, as files have them
  pub are_merged : (columns : ColumnList) (rows combinations : List (List (ℕ × E))) → IsRowList m has value zero (length columns.list) rows
      → IsComplete m columns (length rows) (lead_at rows) (row_at value rows) (row_at value combinations)
      → AreMerged m columns (map (written value) rows) (map (written value) combinations)
  are_merged columns rows combinations list is = record {
    residues = λ i l. let fits : FitsColumns has zero (length columns.list) (get_or rows i []) = list.fit i (omega (arith, l, length-map rows (written value))) in
        subst (AreResidues (λ k. k) m) (sym (get_or-map (written value) rows i []))
        (written_residues zero has value has_zero value_zero injective m small (length columns.list) (get_or rows i []) fits.is_row fits.in_ring fits.below);
    below = λ i l. let fits : FitsColumns has zero (length columns.list) (get_or rows i []) = list.fit i (omega (arith, l, length-map rows (written value))) in
        subst (IsBelow (λ k. k) (length columns.list)) (sym (get_or-map (written value) rows i []))
        (written_below zero has value has_zero value_zero injective m small (length columns.list) (get_or rows i []) fits.is_row fits.in_ring fits.below);
    complete = complete_written value m columns rows combinations is;
  }

-- what a coordinator gives that stands so
module _ {R E : Type 0} (modulus_of : R → ℕ) (value : R → E → ℕ) (c : Coordination R E) (setting : IsSetting modulus_of c.setting) where
  abbrev pub values : E → ℕ
  values = value c.setting.table.ring

  abbrev pub modulus : ℕ
  modulus = modulus_of c.setting.table.ring

  module _ (merge : TableWords) (table : RingTable R) (counted : List Share) (stands : Stands value merge table counted c) where
    own : Stands value merge c.setting.table counted c
    own = subst (λ t. Stands value merge t counted c) (sym stands.is_table) stands

    same_modulus : modulus ≡ merge.params.modulus
    same_modulus = setting.modulus ∙ (λ i. (stands.params i).modulus)

    pub gives_missing : (index : ℕ) (text : List ℕ) → IsLeastMissing c.setting.of c.lists.counted index → text ≡ missing_line index
        → IsFinish merge table.columns counted (ends text status.NotComplete)
    gives_missing index text is same =
        finish_missing merge table.columns counted modulus c.setting.of (map (plain_of values) c.lists.counted) same_modulus stands.of own.counts index text
        (missing_plain values c.setting.of c.lists.counted index is) same

    pub gives_broken : (residue share row : ℕ) (text : List ℕ) → HasAll c.setting.of c.lists.counted
        → BreaksAtRow modulus values c.setting.table.columns c.lists.counted residue share row → text ≡ turn_line residue share row
        → IsFinish merge table.columns counted (ends text status.NoInverse)
    gives_broken residue share row text all is same =
        subst (λ (t : RingTable R). IsFinish merge t.columns counted (ends text status.NoInverse)) stands.is_table
        (finish_broken merge c.setting.table.columns counted modulus c.setting.of (map (plain_of values) c.lists.counted) same_modulus stands.of own.counts
        residue share row text (all_plain values c.setting.of c.lists.counted all)
        (breaks_plain values modulus c.setting.table.columns c.lists.counted residue share row is) same)

    pub gives_merged : (rows combinations : List (List (ℕ × ℕ))) (text : List ℕ) → HasAll c.setting.of c.lists.counted
        → MergesWhole modulus values c.setting.table.columns c.lists.counted → AreMerged modulus c.setting.table.columns rows combinations
        → text ≡ merged_lines modulus c.setting.table.columns.list rows → IsFinish merge table.columns counted (ends text status.Done)
    gives_merged rows combinations text all whole is same =
        subst (λ (t : RingTable R). IsFinish merge t.columns counted (ends text status.Done)) stands.is_table
        (finish_merged merge c.setting.table.columns counted modulus c.setting.of (map (plain_of values) c.lists.counted) same_modulus stands.of own.counts
        rows combinations text (all_plain values c.setting.of c.lists.counted all)
        (whole_plain values modulus c.setting.table.columns c.lists.counted whole) is same)

    pub gives_fault : (fault : MergeFault) (run : Run) → ((i : ℕ) → fault ≡ merging.MissingShare i → IsLeastMissing c.setting.of c.lists.counted i)
        → ((r s t : ℕ) → fault ≡ merging.NoInverse r s t → HasAll c.setting.of c.lists.counted)
        → ((r s t : ℕ) → fault ≡ merging.NoInverse r s t → BreaksAtRow modulus values c.setting.table.columns c.lists.counted r s t)
        → TellsFault fault run → IsFinish merge table.columns counted run
    gives_fault (merging.MissingShare i) run lacks there breaks is =
        subst (IsFinish merge table.columns counted) (sym is) (gives_missing i (missing_line i) (lacks i refl) refl)
    gives_fault (merging.NoInverse r s t) run lacks there breaks is =
        subst (IsFinish merge table.columns counted) (sym is) (gives_broken r s t (turn_line r s t) (there r s t refl) (breaks r s t refl) refl)
    gives_fault (merging.Memory e) run lacks there breaks is = absurd is
