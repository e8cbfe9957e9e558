-- The entries of a share can be read as rows and combinations of elements of its table.
use Rattle.std.proofs.Common.{◌≡◌, ℕ, zero, suc, ◌<◌, List, [], ◌∷◌, length, get_or, sym, subst, arith}
use Rattle.std.specs.List.{AllByRecursion}
use Rattle.std.proofs.lemmas.List.{length-map}
use Rattle.std.proofs.Math.ListN.{get_or-map}
use Rattle.sparse_rows.specs.Entries.{IsBelow}
use Rattle.column_order.specs.Columns.{column_count}
use Rattle.page_codec.specs.declared.parts.FinalEntry.{FinalEntry}
use Rattle.page_codec.specs.Bounds.{IsFinalEntry}
use Rattle.page_codec.specs.Places.{FinalInTable}
use Rattle.page_rows.specs.Written.{AreResidues}
use Rattle.page_rows.proofs.PagePairs.{row-residues, combination-residues, keys-below}
use Rattle.file_model.specs.FinalRows.{no_entry}
use Rattle.table_model.specs.ListedSpan.{relation_count}
use Rattle.share_model.specs.declared.share.Share.{Share}
use Rattle.share_model.specs.Shares.{IsShare}
use Rattle.share_check.specs.Inner.{rows_of, combinations_of}

all_at : {X : Type 0} (P : X → Type 0) (xs : List X) (d : X) (i : ℕ) → AllByRecursion P xs → i < length xs → P (get_or xs i d)
all_at P [] d i h l = absurd (omega arith)
all_at P (x ∷ xs) d zero h l = h.0
all_at P (x ∷ xs) d (suc i) h l = all_at P xs d i h.1 (omega arith)

module _ (share : Share) (is : IsShare share) where
  entry_is : (i : ℕ) → i < length share.rows → IsFinalEntry (get_or share.rows i no_entry)
  entry_is i l = all_at IsFinalEntry share.rows no_entry i is.entries l

  entry_fits : (i : ℕ) → i < length share.rows
      → FinalInTable share.params (relation_count share.params.weight share.params.depth) (get_or share.rows i no_entry)
  entry_fits i l = all_at (FinalInTable share.params (relation_count share.params.weight share.params.depth)) share.rows no_entry i is.in_table l

  pub row_residues : (m : ℕ) → m ≡ share.params.modulus → (i : ℕ) → i < length share.rows → AreResidues (λ k. k) m (get_or share.rows i no_entry).row
  row_residues m modulus i l =
      let entry = entry_is i l in let fits = entry_fits i l in
      subst (λ n. AreResidues (λ k. k) n (get_or share.rows i no_entry).row) (sym modulus)
      (row-residues (column_count share.params.weight share.params.depth) share.params.modulus (get_or share.rows i no_entry).row entry.row fits.row)

  pub combination_residues : (m : ℕ) → m ≡ share.params.modulus → (i : ℕ) → i < length share.rows
      → AreResidues (λ k. k) m (get_or share.rows i no_entry).combination
  combination_residues m modulus i l =
      let entry = entry_is i l in let fits = entry_fits i l in
      subst (λ n. AreResidues (λ k. k) n (get_or share.rows i no_entry).combination) (sym modulus)
      (combination-residues (relation_count share.params.weight share.params.depth) share.params.modulus (get_or share.rows i no_entry).combination
      entry.combination fits.combination)

  pub rows_below : (n : ℕ) → n ≡ column_count share.params.weight share.params.depth → (i : ℕ) → i < length (rows_of share.rows)
      → IsBelow (λ k. k) n (get_or (rows_of share.rows) i [])
  rows_below n count i l =
      let inside : i < length share.rows = omega (arith, l, length-map share.rows (λ (e : FinalEntry). e.row)) in
      let fits = entry_fits i inside in
      subst (IsBelow (λ k. k) n) (sym (get_or-map (λ (e : FinalEntry). e.row) share.rows i no_entry))
      (subst (λ high. IsBelow (λ k. k) high (get_or share.rows i no_entry).row) (sym count)
      (keys-below (column_count share.params.weight share.params.depth) share.params.modulus (get_or share.rows i no_entry).row fits.row))

  pub combinations_below : (n : ℕ) → n ≡ relation_count share.params.weight share.params.depth → (i : ℕ) → i < length (combinations_of share.rows)
      → IsBelow (λ k. k) n (get_or (combinations_of share.rows) i [])
  combinations_below n count i l =
      let inside : i < length share.rows = omega (arith, l, length-map share.rows (λ (e : FinalEntry). e.combination)) in
      let fits = entry_fits i inside in
      subst (IsBelow (λ k. k) n) (sym (get_or-map (λ (e : FinalEntry). e.combination) share.rows i no_entry))
      (subst (λ high. IsBelow (λ k. k) high (get_or share.rows i no_entry).combination) (sym count)
      (keys-below (relation_count share.params.weight share.params.depth) share.params.modulus (get_or share.rows i no_entry).combination fits.combination))
