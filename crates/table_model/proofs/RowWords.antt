-- Rows as sums of words: a table sum has exactly one row where the shuffles convert, and rows go with combinations.
use Rattle.std.specs.Prelude.{◌≡◌, ℕ, ◌*◌, ◌%◌, ◌<◌, ◌≤◌, ◌⊎◌, ◌↔◌, cond, ltb, List, length}
use Rattle.std.proofs.Common.{refl, sym, ◌∙◌, ap, subst, inl, inr, arith}
use Rattle.std.proofs.lemmas.Bool.{cases_lt, lt-ltb, le-ltb}
use Rattle.zeta_model.specs.declared.Letter.{Letter}
use Rattle.zeta_model.specs.Modular.{Same}
use Rattle.zeta_model.specs.Sums.{Sum, SameSum}
use Rattle.zeta_model.proofs.ModularLemmas.{same-mul_left, same-mul_right}
use Rattle.linear_model.specs.Rows.{combination, SameRow, InSpan}
use Rattle.linear_model.proofs.Totals.{same-total, total_vanishes}
use Rattle.column_order.specs.Columns.{ColumnList}
use Rattle.table_model.specs.MonomialWords.{column_at, words_of_monomial, sum_combination, words_of_row}
use Rattle.table_model.specs.Conversion.{IsTable, IsTableSum, Converts, IsOver, IsCols}
use Rattle.table_model.specs.ListedSpan.{InSumSpan}
use Rattle.linear_model.proofs.Triangular.{triangular_unique, triangular_exists}
use Rattle.table_model.proofs.WordNumbers.{power, number}
use Rattle.table_model.proofs.TableColumns.{table_word_or_not, word_at, column_of_word, system, columns_triangular, columns_bounded, column_words}
use Rattle.table_model.proofs.SumSpans.{sum_combination-combination, same-sum_combination}

-- the words of a combination of rows are the same combination of their words
pub words_of_row-combination : (list : List (List (List Letter))) (k : ℕ) (rows : ℕ → ℕ → ℕ) (c : ℕ → ℕ)
    → words_of_row list (combination k rows c) ≡ sum_combination k (λ i. words_of_row list (rows i)) c
words_of_row-combination list k rows c = sym (sum_combination-combination k (length list) c rows (λ col. words_of_monomial (column_at list col)))

module _ (m : ℕ) (columns : ColumnList) where
  -- rows that are the same have the same words
  pub same-words_of_row : (p q : ℕ → ℕ) → SameRow m p q → SameSum m (words_of_row columns.list p) (words_of_row columns.list q)
  same-words_of_row p q e t = same-total m (length columns.list) _ _
      (λ col l. same-mul_right m (p col) (q col) (words_of_monomial (column_at columns.list col) t) (e col))

  -- a combination of rows over the columns is one
  pub combination-over : (k : ℕ) (rows : ℕ → ℕ → ℕ) (c : ℕ → ℕ) → ((i : ℕ) → i < k → IsOver m columns (rows i)) → IsOver m columns (combination k rows c)
  combination-over k rows c over col l =
      total_vanishes m k (λ i. c i * rows i col) (λ i li. same-mul_left m (rows i col) 0 (c i) (over i li col l) ∙ ap (λ x. x % m) (omega arith))

  -- the row of a combination of sums is the combination of their rows
  pub combination-is_cols : (k : ℕ) (sums : ℕ → Sum) (rows : ℕ → ℕ → ℕ) (c : ℕ → ℕ) → ((i : ℕ) → i < k → IsCols m columns (sums i) (rows i))
      → IsCols m columns (sum_combination k sums c) (combination k rows c)
  combination-is_cols k sums rows c each = record {
    over = combination-over k rows c (λ i l. let r : IsCols m columns (sums i) (rows i) = each i l in r.over);
    words = λ t. ap (λ (f : Sum). f t % m) (words_of_row-combination columns.list k rows c)
        ∙ same-sum_combination m k (λ i. words_of_row columns.list (rows i)) sums c c (λ i l. refl)
        (λ i l. let r : IsCols m columns (sums i) (rows i) = each i l in r.words) t;
  }

  module _ (table : IsTable m columns) where
    pos : 0 < m
    pos = omega (arith, table.modulus)

    -- a row has no words but those of the table
    pub words_of_row-table : (p : ℕ → ℕ) → IsTableSum m columns (words_of_row columns.list p)
    words_of_row-table p t none = total_vanishes m (length columns.list) _ (λ col l. ap (λ x. (p col * x) % m) (column_words m columns table col t l none)
        ∙ ap (λ x. x % m) (omega arith))

    module _ (converts : Converts m columns) where
      -- rows with the same words are the same
      pub cols_unique : (s : Sum) (p q : ℕ → ℕ) → IsCols m columns s p → IsCols m columns s q → SameRow m p q
      unfolding system
      cols_unique s p q hp hq col = at (cases_lt col (length columns.list))
        where
          at : (col < length columns.list) ⊎ (length columns.list ≤ col) → Same m (p col) (q col)
          at (inr past) = hp.over col past ∙ sym (hq.over col past)
          at (inl l) =
              triangular_unique m (length columns.list) (λ i. number (word_at m columns table i)) (system m columns table) pos
              (columns_triangular m columns table converts) (power columns.weight) (columns_bounded m columns table) p q
              (λ j lj. hp.words (word_at m columns table j) ∙ sym (hq.words (word_at m columns table j))) col l

      -- each sum of words of the table has a row
      pub cols_exist : (s : Sum) → IsTableSum m columns s → (p : ℕ → ℕ) × IsCols m columns s p
      unfolding system
      cols_exist s within =
          let solved : (r : ℕ → ℕ) × ((j : ℕ) → j < length columns.list
          → Same m (combination (length columns.list) (system m columns table) r j) (s (word_at m columns table j))) =
          triangular_exists m (length columns.list) (λ i. number (word_at m columns table i)) (system m columns table) pos
          (columns_triangular m columns table converts) (power columns.weight) (columns_bounded m columns table) (λ j. s (word_at m columns table j)) in
          let p : ℕ → ℕ = λ col. cond (ltb col (length columns.list)) (solved.0 col) 0 in
          let kept : (t : List Letter) → Same m (words_of_row columns.list p t) (words_of_row columns.list solved.0 t) =
          λ t. same-total m (length columns.list) _ _
          (λ col l. ap (λ b. (cond b (solved.0 col) 0 * words_of_monomial (column_at columns.list col) t) % m) (lt-ltb col (length columns.list) l)) in (
            p,
            record {
              over = λ col past. ap (λ b. cond b (solved.0 col) 0 % m) (le-ltb col (length columns.list) past);
              words = λ t. elim (table_word_or_not columns.weight columns.depth t) [
                | inl is ↦
                    let place : (col : ℕ) × (col < length columns.list) × (word_at m columns table col ≡ t) = column_of_word m columns table t is in
                    kept t ∙ subst (λ r. Same m (words_of_row columns.list solved.0 r) (s r)) place.2 (solved.1 place.0 place.1)
                | inr none ↦ words_of_row-table p t none ∙ sym (within t none)
              ];
            },
          )

      -- the span of the rows of some sums is the rows with words in the span of the sums
      pub span_of_cols : (k : ℕ) (sums : ℕ → Sum) (rows : ℕ → ℕ → ℕ) → ((i : ℕ) → i < k → IsCols m columns (sums i) (rows i)) → (p : ℕ → ℕ)
          → IsOver m columns p → InSpan m k rows p ↔ InSumSpan m k sums (words_of_row columns.list p)
      span_of_cols k sums rows each p over = (
        λ (c, is). (
          c,
          λ t. same-words_of_row p (combination k rows c) is t
              ∙ (let r : IsCols m columns (sum_combination k sums c) (combination k rows c) = combination-is_cols k sums rows c each in r.words t),
        ),
        λ (c, is). (
          c,
          cols_unique (sum_combination k sums c) p (combination k rows c) (record { over = over; words = is })
              (combination-is_cols k sums rows c each),
        ),
      )
