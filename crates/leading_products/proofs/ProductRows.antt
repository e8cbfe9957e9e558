-- The product of a row of the lower table with a monomial: its words, its lead, and that it is a row of the higher table's span.
use Rattle.std.proofs.Common.{◌≡◌, ◌≢◌, ℕ, ◌*◌, ◌%◌, ◌<◌, ◌≤◌, ◌⊎◌, inl, inr, cond, eqb, IsTrue, List, length, Contains, refl, sym, ap, subst, ◌∙◌, arith, mod-eq_of_lt}
use Rattle.std.proofs.lemmas.Bool.{cases_eq, cases_lt, eq-eqb, ne_eqb}
use Rattle.std.specs.List.{flat_map}
use Rattle.zeta_model.specs.declared.Letter.{Letter}
use Rattle.zeta_model.specs.Modular.{Same}
use Rattle.zeta_model.specs.Words.{depth_of, is_admissible}
use Rattle.zeta_model.specs.Product.{total}
use Rattle.zeta_model.specs.Alphabets.{shuffle_of}
use Rattle.zeta_model.specs.Sums.{Sum, SameSum, single, sum_of}
use Rattle.zeta_model.proofs.ModularLemmas.{same-mul_right}
use Rattle.zeta_model.proofs.Totals.{total-flat_map}
use Rattle.linear_model.specs.Rows.{combination, InSpan}
use Rattle.linear_model.specs.Reduced.{IsLead, IsReduced}
use Rattle.linear_model.proofs.ReducedLists.{lead_of_span, lead_apart}
use Rattle.linear_model.proofs.Spans.{row_in_span}
use Rattle.linear_model.proofs.Totals.{total_vanishes, total_one_term}
use Rattle.lyndon_words.specs.Lyndon.{joined}
use Rattle.lyndon_words.specs.Monomials.{product_of}
use Rattle.leading_word.specs.Shuffles.{words_of}
use Rattle.leading_word.proofs.AdmissibleWords.{length-words_of, depth_of-words_of, words_of-admissible}
use Rattle.leading_word.proofs.FactorOrder.{words_of-product_of}
use Rattle.column_order.specs.Columns.{ColumnList, IsColumn}
use Rattle.relation_list.proofs.ProductWords.{held-some}
use Rattle.table_model.specs.MonomialWords.{column_at, words_of_monomial, sum_combination, words_of_row}
use Rattle.table_model.specs.Conversion.{IsTable, IsOver, IsCols}
use Rattle.table_model.specs.ListedSpan.{listed_value, relation_count, values_of, count_of, InSpanOfAll}
use Rattle.table_model.specs.ReducedRows.{IsReducedRows}
use Rattle.table_model.proofs.Bridges.{unit_row-is}
use Rattle.table_model.proofs.RowWords.{combination-is_cols}
use Rattle.table_model.proofs.SumSpans.{same-sum_combination, same_in_span}
use Rattle.table_model.proofs.TableColumns.{is_column, word_at-injective}
use Rattle.leading_products.specs.Cofactors.{shuffle_of_sum, IsLower, IsCofactor, LeadsARow}
use Rattle.leading_products.proofs.WordTotals.{total_agree, total-total, combination-total, total-sum_of}
use Rattle.leading_products.proofs.NamedProducts.{shuffle_of_sum-combination, total_in_span, products_stay_in_span}
use Rattle.leading_products.proofs.ProductColumns.{HasPlace, place_of, place_of-is, place_of-rises}

abbrev Word : Type 0
Word = List Letter

-- the words of a product of monomials, by the words of the second
words_of_product : (k : ℕ) (a b : List Word) (t : Word) → length (joined a) ≡ k
    → words_of_monomial (product_of a b) t ≡ total (λ u. shuffle_of_sum k (words_of_monomial a) u t) (words_of b)
unfolding words_of_monomial
words_of_product k a b t weighs =
    words_of-product_of a b (λ z. single z t)
    ∙ total-flat_map (λ z. single z t) (λ w. flat_map (λ v. shuffle_of w v) (words_of b)) (words_of a)
    ∙ total_agree (λ w. total (λ z. single z t) (flat_map (λ v. shuffle_of w v) (words_of b))) (λ w. total (λ v. sum_of (shuffle_of w v) t) (words_of b))
    (words_of a) (λ w. total-flat_map (λ z. single z t) (λ v. shuffle_of w v) (words_of b))
    ∙ total-total (λ w v. sum_of (shuffle_of w v) t) (words_of a) (words_of b)
    ∙ total_agree (λ v. total (λ w. sum_of (shuffle_of w v) t) (words_of a)) (λ v. shuffle_of_sum k (words_of_monomial a) v t) (words_of b)
    (λ v. sym (total-sum_of k (λ w. sum_of (shuffle_of w v) t) (words_of a) (λ w p. length-words_of a w p ∙ weighs)))

one_not_zero : (m : ℕ) → 2 < m → ¬ (Same m 1 0)
one_not_zero m h e = let a : 1 % m ≡ 1 = mod-eq_of_lt (omega arith) in let b : 0 % m ≡ 0 = mod-eq_of_lt (omega arith) in absurd (omega arith)

-- a row of a reduced list leads at a column of the table
pub lead_within : (m : ℕ) (columns : ColumnList) (table : IsTable m columns) (count : ℕ) (lead : ℕ → ℕ) (rows : ℕ → ℕ → ℕ) → IsReduced m count lead rows
    → ((i : ℕ) → i < count → IsOver m columns (rows i)) → (i : ℕ) → i < count → lead i < length columns.list
lead_within m columns table count lead rows reduced over i l = elim (cases_lt (lead i) (length columns.list)) [
  | inl within ↦ within
  | inr past ↦ absurd (one_not_zero m table.modulus (sym (reduced.one i l) ∙ over i l (lead i) past))
]

-- at most one row leads with a monomial
pub one_row_leads : (m : ℕ) (columns : ColumnList) → IsTable m columns → (sums : ℕ → Sum) (n count : ℕ) (lead : ℕ → ℕ) (rows : ℕ → ℕ → ℕ)
    → IsReducedRows m columns sums n count lead rows → (i j : ℕ) → i < count → j < count
    → column_at columns.list (lead i) ≡ column_at columns.list (lead j) → i ≡ j
one_row_leads m columns table sums n count lead rows r i j li lj e =
    let within : (k : ℕ) → k < count → lead k < length columns.list = lead_within m columns table count lead rows r.reduced r.over in
    let same : lead i ≡ lead j = word_at-injective m columns table (lead i) (lead j) (within i li) (within j lj) (ap joined e) in
    elim (cases_eq i j) [
      | inl is ↦ is
      | inr ne ↦ absurd (lead_apart m count lead rows r.reduced i j li lj ne same)
    ]

module _ (m : ℕ) (low high : ColumnList) (low_table : IsTable m low) (high_table : IsTable m high) (lower : IsLower low high) (q : List Word)
    (cofactor : IsCofactor low high q) where
  abbrev place : ℕ → ℕ
  place = place_of m low high low_table high_table lower q cofactor

  place_is : (col : ℕ) → col < length low.list → HasPlace m low high low_table high_table lower q cofactor col (place col)
  place_is = place_of-is m low high low_table high_table lower q cofactor

  -- the row that is 1 at the place of the product of column number col
  abbrev unit_row : ℕ → ℕ → ℕ
  unit_row col j = cond (eqb j (place col)) 1 0

  -- the row p times the monomial
  abbrev times : (ℕ → ℕ) → ℕ → ℕ
  times p = combination (length low.list) unit_row p

  -- the monomial of the higher columns at that place
  abbrev moved : ℕ → Sum
  moved col = words_of_monomial (column_at high.list (place col))

  times-is_cols : (p : ℕ → ℕ) → IsCols m high (sum_combination (length low.list) moved p) (times p)
  times-is_cols p = combination-is_cols m high (length low.list) moved unit_row p
      (λ col l. let at : HasPlace m low high low_table high_table lower q cofactor col (place col) = place_is col l in unit_row-is m high (place col) at.within)

  -- the words of the product are the shuffles of the row's words with those of the monomial
  words_of_times : (p : ℕ → ℕ)
      → SameSum m (words_of_row high.list (times p)) (λ t. total (λ u. shuffle_of_sum low.weight (words_of_row low.list p) u t) (words_of q))
  words_of_times p t =
      let n : ℕ = length low.list in
      let monomial : ℕ → Sum = λ col. words_of_monomial (column_at low.list col) in
      let shuffles : ℕ → Sum = λ col r. total (λ u. shuffle_of_sum low.weight (monomial col) u r) (words_of q) in
      let cols : IsCols m high (sum_combination n moved p) (times p) = times-is_cols p in
      cols.words t
      ∙ same-sum_combination m n moved shuffles p p (λ i l. refl) (λ i l r. ap (λ x. x % m) (product_words i l r)) t
      ∙ ap (λ x. x % m) (
      combination-total n (λ col u. shuffle_of_sum low.weight (monomial col) u) p (words_of q) t
      ∙ total_agree (λ u. sum_combination n (λ col. shuffle_of_sum low.weight (monomial col) u) p t)
      (λ u. shuffle_of_sum low.weight (words_of_row low.list p) u t) (words_of q)
      (λ u. sym (shuffle_of_sum-combination low.weight n monomial p u t))
      )
    where
      product_words : (i : ℕ) → i < length low.list → (r : Word) → moved i r
          ≡ total (λ u. shuffle_of_sum low.weight (words_of_monomial (column_at low.list i)) u r) (words_of q)
      product_words i l r =
          let at : HasPlace m low high low_table high_table lower q cofactor i (place i) = place_is i l in
          let c : IsColumn low.weight low.depth (column_at low.list i) = is_column m low low_table i l in
          ap (λ a. words_of_monomial a r) at.holds ∙ words_of_product low.weight (column_at low.list i) q r c.weight

  times-over : (p : ℕ → ℕ) → IsOver m high (times p)
  times-over p = let cols : IsCols m high (sum_combination (length low.list) moved p) (times p) = times-is_cols p in cols.over

  -- the product of a row of the lower span is one of the higher span
  times-in_span : (p : ℕ → ℕ) → InSpanOfAll m low.weight low.depth (words_of_row low.list p)
      → InSpanOfAll m high.weight high.depth (words_of_row high.list (times p))
  times-in_span p h =
      same_in_span m (relation_count high.weight high.depth) (listed_value m high.weight high.depth) (words_of_row high.list (times p))
      (λ t. total (λ u. shuffle_of_sum low.weight (words_of_row low.list p) u t) (words_of q)) (words_of_times p)
      (total_in_span m (relation_count high.weight high.depth) (listed_value m high.weight high.depth)
      (shuffle_of_sum low.weight (words_of_row low.list p)) (words_of q) part)
    where
      part : (u : Word) → Contains (words_of q) u
          → InSpanOfAll m high.weight high.depth (shuffle_of_sum low.weight (words_of_row low.list p) u)
      part u held =
          let some : 0 < sum_of (words_of q) u = held-some (words_of q) u held in
          let mq = cofactor.monomial in
          let limits = high_table.limits in
          let weight : length u ≡ length (joined q) = length-words_of q u some in
          let depth : depth_of u ≡ depth_of (joined q) = depth_of-words_of q u some in
          let a : IsTrue (is_admissible u) =
          words_of-admissible q u mq.admissible (omega (arith, cofactor.weight, lower.most)) some in
          products_stay_in_span m low.weight low.depth high.weight high.depth u lower.least limits.most a (omega (arith, weight, cofactor.weight))
          (omega (arith, depth, cofactor.depth)) (words_of_row low.list p) h

  -- it leads at the place of the product of the lead
  times-lead : (p : ℕ → ℕ) (col : ℕ) → col < length low.list → IsLead m p col → IsLead m (times p) (place col)
  times-lead p col l leads = record {
    before = λ j before. total_vanishes m (length low.list) (λ i. p i * unit_row i j) (λ i li. earlier j before i li (cases_lt i col));
    here = λ e. leads.here (sym (
        total_one_term m (length low.list) (λ i. p i * unit_row i (place col)) col l (λ i li ne. other i li ne (cases_lt i col))
        ∙ ap (λ b. (p col * cond b 1 0) % m) (eq-eqb (place col) (place col) refl) ∙ ap (λ x. x % m) (omega arith)
        ) ∙ e);
  }
    where
      rises : (i j : ℕ) → i < j → j < length low.list → place i < place j
      rises = place_of-rises m low high low_table high_table lower q cofactor

      none : (i j : ℕ) → j ≢ place i → Same m (p i * unit_row i j) 0
      none i j ne = ap (λ b. (p i * cond b 1 0) % m) (ne_eqb j (place i) ne) ∙ ap (λ x. x % m) (omega arith)

      earlier : (j : ℕ) → j < place col → (i : ℕ) → i < length low.list → (i < col) ⊎ (col ≤ i) → Same m (p i * unit_row i j) 0
      earlier j before i li (inl h) = same-mul_right m (p i) 0 (unit_row i j) (leads.before i h) ∙ ap (λ x. x % m) (omega arith)
      earlier j before i li (inr h) = elim (cases_eq col i) [
        | inl e ↦ none i j (subst (λ c. j ≢ place c) e (omega arith))
        | inr ne ↦ none i j (omega (arith, rises col i (omega arith) li))
      ]

      other : (i : ℕ) → i < length low.list → i ≢ col → (i < col) ⊎ (col ≤ i) → Same m (p i * unit_row i (place col)) 0
      other i li ne (inl h) = none i (place col) (omega (arith, rises i col h l))
      other i li ne (inr h) = none i (place col) (omega (arith, rises col i (omega arith) li))

  -- a product of a monomial that leads a reduced row leads a reduced row
  pub product_leads : (count high_count : ℕ) (lead high_lead : ℕ → ℕ) (rows high_rows : ℕ → ℕ → ℕ)
      → IsReducedRows m low (values_of m low) (count_of low) count lead rows
      → IsReducedRows m high (values_of m high) (count_of high) high_count high_lead high_rows
      → (p : List Word) → LeadsARow low count lead p → LeadsARow high high_count high_lead (product_of p q)
  product_leads count high_count lead high_lead rows high_rows small large p (i, l, e) =
      let within : lead i < length low.list = lead_within m low low_table count lead rows small.reduced small.over i l in
      let leads : IsLead m (rows i) (lead i) = record {
        before = λ j h. small.reduced.before i j l h;
        here = λ z. one_not_zero m low_table.modulus (sym (small.reduced.one i l) ∙ z);
      } in
      let words : InSpanOfAll m low.weight low.depth (words_of_row low.list (rows i)) =
      (small.whole (rows i) (small.over i l)).0 (row_in_span m count rows i l) in
      let in_span : InSpan m high_count high_rows (times (rows i)) =
      (large.whole (times (rows i)) (times-over (rows i))).1 (times-in_span (rows i) words) in
      let found : (j : ℕ) × (j < high_count) × (high_lead j ≡ place (lead i)) =
      lead_of_span m high_count high_lead high_rows large.reduced (times (rows i)) (place (lead i)) in_span (times-lead (rows i) (lead i) within leads) in
      let at : HasPlace m low high low_table high_table lower q cofactor (lead i) (place (lead i)) = place_is (lead i) within in
      (found.0, found.1, ap (column_at high.list) found.2 ∙ at.holds ∙ ap (λ a. product_of a q) e)
