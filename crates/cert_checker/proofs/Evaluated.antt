-- A row evaluates where its words, less the values that its combination names, leave nothing at any place.
use Rattle.std.proofs.Common.{◌≡◌, ℕ, ◌+◌, ◌-◌, ◌*◌, ◌%◌, ◌<◌, ◌⊎◌, inl, inr, List, length, sym, ◌∙◌, ap, subst, arith}
use Rattle.std.specs.Prelude.{◌↔◌}
use Rattle.zeta_model.specs.declared.Letter.{Letter}
use Rattle.zeta_model.specs.Modular.{Same}
use Rattle.zeta_model.proofs.ModularLemmas.{same-mul_left}
use Rattle.linear_model.proofs.Totals.{total_vanishes}
use Rattle.column_order.specs.Columns.{ColumnList}
use Rattle.table_model.specs.MonomialWords.{column_at, words_of_monomial, words_of_row, sum_combination}
use Rattle.table_model.specs.Conversion.{IsTable, IsTableWord}
use Rattle.relation_list.specs.declared.names.RelName.{RelName}
use Rattle.relation_list.specs.Listings.{listing_of}
use Rattle.table_model.specs.ListedSpan.{values_of, count_of, relation_count}
use Rattle.table_model.specs.Complete.{Evaluates}
use Rattle.table_model.proofs.TableColumns.{table_word_or_not, column_of_word, column_words}
use Rattle.table_model.proofs.CompleteRows.{listed_value-table}
use Rattle.cert_checker.specs.Inner.{word_at}
use Rattle.cert_checker.proofs.Certifying.{same-from_difference, difference-none}

abbrev Word : Type 0
Word = List Letter

module _ (m : ℕ) (columns : ColumnList) (table : IsTable m columns) where
  pos : 0 < m
  pos = omega (arith, table.modulus)

  -- a row has no words but those of the table
  row-outside : (row : ℕ → ℕ) (t : Word) → ¬ (IsTableWord columns.weight columns.depth t) → Same m (words_of_row columns.list row t) 0
  row-outside row t none =
      total_vanishes m (length columns.list) (λ col. row col * words_of_monomial (column_at columns.list col) t)
      (λ col l. ap (λ x. (row col * x) % m) (column_words m columns table col t l none) ∙ ap (λ x. x % m) (omega arith))

  -- nor has a combination of values
  values-outside : (k : ℕ) (combination : ℕ → ℕ) (t : Word) → ¬ (IsTableWord columns.weight columns.depth t)
      → Same m (sum_combination k (values_of m columns) combination t) 0
  values-outside k combination t none =
      total_vanishes m k (λ n. combination n * values_of m columns n t)
      (λ n l. same-mul_left m (values_of m columns n t) 0 (combination n) (listed_value-table m columns table n t none) ∙ ap (λ x. x % m) (omega arith))

  module _ (row combination : ℕ → ℕ) (k : ℕ) (all : k ≡ count_of columns) (left : ℕ → ℕ)
      (is : (q : ℕ) → q < length columns.list → Same m (left q) (words_of_row columns.list row (word_at columns q)
      + (m - 1) * sum_combination k (values_of m columns) combination (word_at columns q))) where
    pub evaluated : ((q : ℕ) → q < length columns.list → Same m (left q) 0) ↔ Evaluates m columns row combination
    evaluated = (λ none t. by none t (table_word_or_not columns.weight columns.depth t), back)
      where
        at_word : ((q : ℕ) → q < length columns.list → Same m (left q) 0) → (q : ℕ) → q < length columns.list
            → Same m (words_of_row columns.list row (word_at columns q)) (sum_combination k (values_of m columns) combination (word_at columns q))
        at_word none q l = same-from_difference m pos (words_of_row columns.list row (word_at columns q))
            (sum_combination k (values_of m columns) combination (word_at columns q)) (sym (none q l) ∙ is q l)

        by : ((q : ℕ) → q < length columns.list → Same m (left q) 0) → (t : Word) → IsTableWord columns.weight columns.depth t
            ⊎ ¬ (IsTableWord columns.weight columns.depth t)
            → Same m (words_of_row columns.list row t) (sum_combination (count_of columns) (values_of m columns) combination t)
        by none t (inl word) =
            let (q, l, e) = column_of_word m columns table t word in
            subst (λ j. Same m (words_of_row columns.list row t) (sum_combination j (values_of m columns) combination t)) all
            (subst (λ u. Same m (words_of_row columns.list row u) (sum_combination k (values_of m columns) combination u)) e (at_word none q l))
        by none t (inr outside) = row-outside row t outside ∙ sym (values-outside (count_of columns) combination t outside)

        back : Evaluates m columns row combination → (q : ℕ) → q < length columns.list → Same m (left q) 0
        back evaluates q l =
            is q l ∙ difference-none m pos (words_of_row columns.list row (word_at columns q))
            (sum_combination k (values_of m columns) combination (word_at columns q))
            (subst (λ j. Same m (words_of_row columns.list row (word_at columns q)) (sum_combination j (values_of m columns) combination (word_at columns q)))
            (sym all) (evaluates (word_at columns q)))

-- the names of the listing are as many as its relations
pub count-listed : (columns : ColumnList) (names : List RelName) → names ≡ listing_of columns.weight columns.depth → length names ≡ count_of columns
unfolding relation_count
count-listed columns names is = ap length is
