-- The columns of a table: one for each word, in a triangular system where the shuffles convert.
use Rattle.std.specs.Prelude.{◌≡◌, ◌≢◌, ℕ, zero, suc, ◌<◌, ◌≤◌, ◌⊎◌, Bool, true, false, Some, List, [], ◌∷◌, length}
use Rattle.std.proofs.Common.{refl, sym, ◌∙◌, ap, inl, inr, arith}
use Rattle.std.specs.List.{Contains}
use Rattle.std.proofs.lemmas.Bool.{cases_eq, cases_lt}
use Rattle.std.proofs.lemmas.List.{get_or_default}
use Rattle.std.proofs.lemmas.List.Elements.{Contains-get_or}
use Rattle.std.proofs.lemmas.Option.{slice_get-get_or}
use Rattle.zeta_model.specs.declared.Letter.{Letter}
use Rattle.zeta_model.specs.Words.{depth_of, is_admissible}
use Rattle.lyndon_words.specs.Lyndon.{joined, IsFactors}
use Rattle.lyndon_words.proofs.JoinFront.{factors_of, IsFactors-factors_of}
use Rattle.lyndon_words.proofs.Factorising.{found_monomial, word-admissible, word-factors, word-unique}
use Rattle.column_order.specs.Columns.{ColumnList, IsColumn}
use Rattle.column_order.specs.Ranks.{rank_of}
use Rattle.column_order.proofs.Places.{one_place}
use Rattle.table_model.specs.MonomialWords.{column_at, words_of_monomial}
use Rattle.table_model.specs.Conversion.{IsTable, IsTableWord, Converts}
use Rattle.linear_model.proofs.Triangular.{IsTriangular}
use Rattle.table_model.proofs.WordNumbers.{power, number, number-bound, less_before, number-injective}
use Rattle.table_model.proofs.ShuffledWords.{shuffled-words, words_of-above}

abbrev Word : Type 0
Word = List Letter

-- a word is one of the table, or not
pub table_word_or_not : (w d : ℕ) (t : Word) → IsTableWord w d t ⊎ ¬ (IsTableWord w d t)
table_word_or_not w d t = admits (is_admissible t) refl
  where
    weighs : is_admissible t ≡ true → ((length t ≡ w) ⊎ (length t ≢ w)) → IsTableWord w d t ⊎ ¬ (IsTableWord w d t)
    weighs a (inr ne) = inr (λ x. ne x.weight)
    weighs a (inl e) = elim (cases_lt d (depth_of t)) [
      | inl deeper ↦ inr (λ x. let h : depth_of t ≤ d = x.depth in absurd (omega arith))
      | inr fits ↦ inl (record { admissible = a; weight = e; depth = fits })
    ]

    admits : (b : Bool) → is_admissible t ≡ b → IsTableWord w d t ⊎ ¬ (IsTableWord w d t)
    admits true e = weighs e (cases_eq (length t) w)
    admits false e = inr (λ x. let a : is_admissible t ≡ true = x.admissible in cc)

module _ (m : ℕ) (columns : ColumnList) (table : IsTable m columns) where
  abbrev w : ℕ
  w = columns.weight

  abbrev d : ℕ
  d = columns.depth

  abbrev n : ℕ
  n = length columns.list

  abbrev pub word_at : ℕ → Word
  word_at col = joined (column_at columns.list col)

  pub is_column : (col : ℕ) → col < n → IsColumn w d (column_at columns.list col)
  is_column col l = (table.whole.whole (column_at columns.list col)).0 (Contains-get_or columns.list col [] l)

  -- each word of the table has a column
  pub column_of_word : (t : Word) → IsTableWord w d t → (col : ℕ) × (col < n) × (word_at col ≡ t)
  column_of_word t x =
      let f : IsFactors t (factors_of t) = IsFactors-factors_of t in
      let lim = table.limits in
      let held : Contains columns.list (factors_of t) = (table.whole.whole (factors_of t)).1 (record {
        monomial = found_monomial t (factors_of t) x.admissible (omega (arith, x.weight, lim.most)) f;
        weight = ap length f.whole ∙ x.weight;
        depth = omega (arith, ap depth_of f.whole, x.depth);
      }) in
      (held.0, held.1, ap joined (get_or_default columns.list held.0 [] (factors_of t) held.1 ∙ held.2) ∙ f.whole)

  word_at-table : (col : ℕ) → col < n → length (word_at col) ≡ w
  word_at-table col l = let c : IsColumn w d (column_at columns.list col) = is_column col l in c.weight

  pub factors_at : (col : ℕ) → col < n → IsFactors (word_at col) (column_at columns.list col)
  factors_at col l = let c : IsColumn w d (column_at columns.list col) = is_column col l in
      word-factors (column_at columns.list col) (word_at col) c.monomial refl

  pub word_of_table : (col : ℕ) → col < n → IsTableWord w d (word_at col)
  word_of_table col l =
      let c : IsColumn w d (column_at columns.list col) = is_column col l in let lim = table.limits in record {
        admissible = word-admissible (column_at columns.list col) (word_at col) c.monomial refl
            (some (column_at columns.list col) (omega (arith, c.weight, lim.least)));
        weight = c.weight;
        depth = c.depth;
      }
    where
      some : (p : List (List Letter)) → 0 < length (joined p) → 0 < length p
      some [] h = absurd (omega arith)
      some (u ∷ p) h = omega arith

  -- one column a word
  pub word_at-injective : (i j : ℕ) → i < n → j < n → word_at i ≡ word_at j → i ≡ j
  word_at-injective i j li lj e =
      let ci : IsColumn w d (column_at columns.list i) = is_column i li in
      let cj : IsColumn w d (column_at columns.list j) = is_column j lj in
      let same : column_at columns.list j ≡ column_at columns.list i =
      word-unique (column_at columns.list i) (column_at columns.list j) (word_at i) ci.monomial cj.monomial refl (sym e) in
      one_place (rank_of columns.preference) columns.list i j (column_at columns.list i) table.whole.in_order (slice_get-get_or columns.list i [] li)
      (slice_get-get_or columns.list j [] lj ∙ ap (λ p. Some p) same)

  unfoldable pub system : ℕ → ℕ → ℕ
  system i j = words_of_monomial (column_at columns.list i) (word_at j)

  pub columns_triangular : Converts m columns → IsTriangular m n (λ col. number (word_at col)) system
  unfolding system
  columns_triangular converts = record {
    apart = λ i j li lj e. word_at-injective i j li lj (number-injective (word_at i) (word_at j) (word_at-table i li ∙ sym (word_at-table j lj)) e);
    above = λ i j li lj h. words_of-above m (word_at i) (column_at columns.list i) (word_at j) (factors_at i li)
        (less_before (word_at i) (word_at j) (word_at-table i li ∙ sym (word_at-table j lj)) h);
    unit = λ i l. converts (word_at i) (word_of_table i l) (column_at columns.list i) (factors_at i l);
  }

  pub columns_bounded : (col : ℕ) → col < n → number (word_at col) < power w
  columns_bounded col l = omega (arith, number-bound (word_at col), ap power (word_at-table col l))

  -- no other word comes of a column
  pub column_words : (col : ℕ) (t : Word) → col < n → ¬ (IsTableWord w d t) → words_of_monomial (column_at columns.list col) t ≡ 0
  column_words col t l none = by (words_of_monomial (column_at columns.list col) t) refl
    where
      by : (k : ℕ) → words_of_monomial (column_at columns.list col) t ≡ k → words_of_monomial (column_at columns.list col) t ≡ 0
      by zero e = e
      by (suc k) e = let lim = table.limits in absurd (none (shuffled-words w d (column_at columns.list col) t lim.least (is_column col l) (omega arith)))
