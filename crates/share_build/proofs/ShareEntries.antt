-- A reduced row and its combination as a share has them.
use Rattle.std.specs.Prelude.{◌≡◌, ℕ, ◌*◌, ◌%◌, ◌^◌, ◌<◌, ◌≤◌, Bool, true, List, [], ◌∷◌, length, get_or}
use Rattle.std.proofs.Common.{sym, ◌∙◌, ap, subst, inl, inr, arith, mod-eq_of_lt}
use Rattle.std.proofs.lemmas.Nat.{mod_below}
use Rattle.zeta_model.specs.Modular.{Same}
use Rattle.zeta_model.proofs.ModularLemmas.{same-mul_right}
use Rattle.linear_model.specs.Rows.{combination}
use Rattle.linear_model.proofs.Totals.{total_vanishes}
use Rattle.linear_model.proofs.Triangular.{find_height}
use Rattle.column_order.specs.Columns.{ColumnList, column_count}
use Rattle.sparse_rows.specs.Entries.{IsRow, AllIn}
use Rattle.sparse_rows.proofs.EntryLemmas.{entry_of_below}
use Rattle.echelon.specs.Lists.{entries_of}
use Rattle.page_codec.specs.declared.params.Params.{Params}
use Rattle.page_codec.specs.Bounds.{IsParams, IsRowData, IsCombData}
use Rattle.page_codec.specs.Places.{AreBelow}
use Rattle.page_rows.specs.Written.{written}
use Rattle.page_rows.proofs.Writing.{entry_of-written, residues-written}
use Rattle.table_model.specs.Conversion.{IsTable, Converts, IsOver, IsCols}
use Rattle.table_model.specs.ListedSpan.{values_of, count_of, relation_count}
use Rattle.table_model.specs.Complete.{Evaluates}
use Rattle.table_model.proofs.CompleteRows.{listed_value-table}
use Rattle.table_model.proofs.RowWords.{same-words_of_row, combination-is_cols}
use Rattle.table_model.proofs.SumRows.{row_of, row_of-is}
use Rattle.file_model.specs.TableOf.{IsTableOf}
use Rattle.file_model.specs.Pages.{Pairs, pairs_of, IsPairs}
use Rattle.file_model.proofs.ParamColumns.{columns_are, relations_few}
use Rattle.file_model.proofs.PairBounds.{IsBounded, IsWithin, ChainFrom, bounded_chain, bounded_all, bounded_more, chain_length, lead_begins}
use Rattle.share_build.specs.Inner.{IsCombinedOf}
use Rattle.share_build.proofs.CountedPlaces.{StandsFrom, pairs_few}

module _ {E : Type 0} (m : ℕ) (zero : E) (has : E → Bool) (value : E → ℕ) (has_zero : has zero ≡ true) (value_zero : value zero ≡ 0)
    (value_injective : (a b : E) → has a ≡ true → has b ≡ true → value a ≡ value b → a ≡ b) (value_below : (a : E) → has a ≡ true → value a < m) where
  -- what is written of a row has its residues
  pub written_pairs : (row : List (ℕ × E)) → 0 < m → IsRow (λ k. k) zero 0 row → AllIn has row → IsPairs m (entries_of value row) (written value row)
  written_pairs row pos is_row all =
      let r = residues-written (λ k. k) zero has value has_zero value_zero value_injective m value_below row is_row all in record {
        row = r.increasing;
        residues = λ q. mod-eq_of_lt (entry_of_below (λ k. k) zero has value m 0 q row pos value_below is_row all)
            ∙ sym (entry_of-written (λ k. k) zero has value row q);
      }

-- a row that is the value of its combination is what that gives
pub evaluates_of : {E : Type 0} (m : ℕ) (value : E → ℕ) (columns : ColumnList) → IsTable m columns → Converts m columns → (numbers : List ℕ)
    (row sum : List (ℕ × E)) → IsCombinedOf m value columns numbers row sum → Evaluates m columns (entries_of value row) (entries_of value sum)
evaluates_of m value columns table converts numbers row sum h t =
    let relations : ℕ → ℕ → ℕ = row_of m columns table (values_of m columns) (listed_value-table m columns table) converts in
    let are : (n : ℕ) → n < count_of columns → IsCols m columns (values_of m columns n) (relations n) =
    λ n l. row_of-is m columns table (values_of m columns) (listed_value-table m columns table) converts n in
    let by : IsCols m columns _ (combination (count_of columns) relations (entries_of value sum)) =
    combination-is_cols m columns (count_of columns) (values_of m columns) relations (entries_of value sum) are in
    same-words_of_row m columns (entries_of value row) (combination (count_of columns) relations (entries_of value sum)) (h.evaluates relations are) t
    ∙ by.words t

-- a row that is 1 somewhere is not the value of a combination without numbers
combination_some : {E : Type 0} (m : ℕ) (value : E → ℕ) (columns : ColumnList) → IsTable m columns → Converts m columns → (numbers : List ℕ)
    (row sum : List (ℕ × E)) → IsCombinedOf m value columns numbers row sum → (lead : ℕ) → Same m (entries_of value row lead) 1
    → ((q : ℕ) → Same m (entries_of value sum q) 0) → ⊥
combination_some m value columns table converts numbers row sum h lead one zeros =
    let relations : ℕ → ℕ → ℕ = row_of m columns table (values_of m columns) (listed_value-table m columns table) converts in
    let are : (n : ℕ) → n < count_of columns → IsCols m columns (values_of m columns n) (relations n) =
    λ n l. row_of-is m columns table (values_of m columns) (listed_value-table m columns table) converts n in
    let nothing : Same m (combination (count_of columns) relations (entries_of value sum) lead) 0 =
    total_vanishes m (count_of columns) (λ i. entries_of value sum i * relations i lead)
    (λ i l. same-mul_right m (entries_of value sum i) 0 (relations i lead) (zeros i) ∙ ap (λ x. x % m) (omega arith)) in
    let big : 2 < m = table.modulus in
    let unit : 1 % m ≡ 1 = mod-eq_of_lt (omega (arith, big)) in
    let none : 0 % m ≡ 0 = mod-eq_of_lt (omega (arith, big)) in
    let is : Same m (entries_of value row lead) (combination (count_of columns) relations (entries_of value sum) lead) = h.evaluates relations are lead in
    absurd (omega (arith, one, is, nothing, unit, none))

module _ (params : Params) (fits : IsParams params) (columns : ColumnList) (of : IsTableOf params columns) where
  big : 2 < params.modulus
  big = let t = of.table in t.modulus

  none : 0 % params.modulus ≡ 0
  none = mod-eq_of_lt (let b = big in omega (arith, b))

  -- pairs of residues that are zero from a number on
  pairs_bounded : (high : ℕ) (p : ℕ → ℕ) (pairs : Pairs) → IsPairs params.modulus p pairs → ((q : ℕ) → high ≤ q → Same params.modulus (p q) 0)
      → IsBounded high params.modulus pairs
  pairs_bounded high p pairs h zeros = record {
    keys = λ q past. sym (h.residues q) ∙ zeros q past ∙ none;
    values = λ q. subst (λ x. x < params.modulus) (h.residues q) (mod_below (p q) params.modulus (let b = big in omega (arith, b)));
  }

  -- the pairs of a row over the columns that begins with 1
  pub row_is_data : (lead : ℕ) (p : ℕ → ℕ) (pairs : Pairs) → IsPairs params.modulus p pairs → Same params.modulus (p lead) 1
      → ((j : ℕ) → j < lead → Same params.modulus (p j) 0) → IsOver params.modulus columns p
      → IsRowData pairs × AreBelow (column_count params.weight params.depth) params.modulus pairs
  row_is_data lead p pairs h one before over =
      let b : 2 < params.modulus = big in
      let bounded : IsBounded (column_count params.weight params.depth) params.modulus pairs =
      pairs_bounded (column_count params.weight params.depth) p pairs h (λ q past. over q (omega (arith, past, columns_are params columns of))) in
      let chain : ChainFrom 2048 0 pairs = bounded_chain 2048 params.modulus 0 pairs (omega (arith, b)) fits.modulus_to h.row
      (bounded_more (column_count params.weight params.depth) 2048 params.modulus pairs fits.columns bounded) in (
        record {
          few = omega (arith, chain_length 2048 0 pairs chain);
          first = lead_begins params.modulus lead p pairs (omega (arith, b)) h one before;
          pairs = chain;
        },
        bounded_all (column_count params.weight params.depth) params.modulus 0 pairs (omega (arith, b)) h.row bounded,
      )

  module _ {E : Type 0} (value : E → ℕ) (converts : Converts params.modulus columns) (numbers : List ℕ)
      (rising : (i k : ℕ) → i < k → k < length numbers → get_or numbers i 0 < get_or numbers k 0)
      (listed : (i : ℕ) → i < length numbers → get_or numbers i 0 < relation_count params.weight params.depth) (few : length numbers ≤ 2048)
      (row sum : List (ℕ × E)) (combined : IsCombinedOf params.modulus value columns numbers row sum) (pairs : Pairs)
      (h : IsPairs params.modulus (entries_of value sum) pairs) where
    stands : IsWithin (StandsFrom numbers 0) pairs
    stands q some = elim (find_height (length numbers) (λ i. get_or numbers i 0) q) [
      | inl (i, l, e) ↦ (i, omega arith, l, e)
      | inr other ↦ absurd (some (sym (h.residues q) ∙ combined.named q other ∙ none))
    ]

    bounded : IsBounded (relation_count params.weight params.depth) params.modulus pairs
    bounded = pairs_bounded (relation_count params.weight params.depth) (entries_of value sum) pairs h
        (λ q past. combined.named q (λ i l e. omega (arith, listed i l, e, past)))

    some_pairs : (lead : ℕ) → Same params.modulus (entries_of value row lead) 1 → (es : Pairs)
        → ((q : ℕ) → entries_of value sum q % params.modulus ≡ pairs_of es q)
        → 1 ≤ length es
    some_pairs lead one [] is =
        absurd (combination_some params.modulus value columns of.table converts numbers row sum combined lead one (λ q. is q ∙ sym none))
    some_pairs lead one (e ∷ es) is = omega arith

    -- the pairs of a combination of so few numbers
    pub combination_is_data : (lead : ℕ) → Same params.modulus (entries_of value row lead) 1
        → IsCombData pairs × AreBelow (relation_count params.weight params.depth) params.modulus pairs
    combination_is_data lead one =
        let b : 2 < params.modulus = big in
        let wide : relation_count params.weight params.depth ≤ 2 ^ 32 = omega (arith, relations_few params fits) in (
          record {
            some = some_pairs lead one pairs h.residues;
            few = omega (arith, pairs_few numbers rising 0 0 pairs h.row stands (omega arith), few);
            pairs = bounded_chain (2 ^ 32) params.modulus 0 pairs (omega (arith, b)) fits.modulus_to h.row
                (bounded_more (relation_count params.weight params.depth) (2 ^ 32) params.modulus pairs wide bounded);
          },
          bounded_all (relation_count params.weight params.depth) params.modulus 0 pairs (omega (arith, b)) h.row bounded,
        )
