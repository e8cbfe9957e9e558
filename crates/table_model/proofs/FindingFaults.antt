-- A table converts or has a first word at which it does not; the work is unbroken or breaks first somewhere; rows get a verdict.
use Rattle.std.specs.Prelude.{◌≡◌, ◌≢◌, ℕ, zero, suc, ◌*◌, ◌%◌, ◌<◌, ◌⊎◌, List, length}
use Rattle.std.proofs.Common.{refl, sym, ◌∙◌, ap, subst, inl, inr, arith}
use Rattle.std.proofs.Math.Nat.{mod-lt}
use Rattle.std.proofs.lemmas.Bool.{cases_eq, cases_lt, cases_order}
use Rattle.std.specs.declared.cmp.Ordering.TheVariants.{Less, Equal}
use Rattle.std.specs.Cmp.{IsTotalOrder, tied_itself}
use Rattle.zeta_model.specs.declared.Letter.{Letter}
use Rattle.zeta_model.specs.Modular.{Same}
use Rattle.zeta_model.specs.Words.{word_cmp}
use Rattle.zeta_model.specs.Sums.{Sum, SameSum}
use Rattle.zeta_model.proofs.ModularLemmas.{same-add_right, same-mod, same-mul_left}
use Rattle.zeta_model.proofs.WordOrder.{word_cmp_total}
use Rattle.linear_model.specs.Reduced.{IsReduced}
use Rattle.linear_model.proofs.Totals.{total_vanishes}
use Rattle.lyndon_words.specs.Lyndon.{IsBefore, IsFactors}
use Rattle.lyndon_words.proofs.OneWay.{IsFactors-unique}
use Rattle.column_order.specs.Columns.{ColumnList}
use Rattle.table_model.specs.MonomialWords.{column_at, words_of_monomial, sum_combination, words_of_row}
use Rattle.zeta_model.specs.Inverses.{HasInverse}
use Rattle.table_model.specs.Conversion.{IsTable, IsTableWord, IsTableSum, ConvertsAt, Converts, IsOver}
use Rattle.table_model.specs.ListedSpan.{values_of, count_of}
use Rattle.table_model.specs.ReducedRows.{IsBrokenAt, IsUnbroken, BreaksFirst}
use Rattle.table_model.specs.Complete.{Evaluates}
use Rattle.table_model.specs.Faults.{IsNotInvertible, IsReducedAt, IsFirstWithout, LeavesNothing, AllEvaluate, Verdict, IsVerdict}
use Rattle.table_model.specs.Faults.Verdict.{Whole, NoInverse, BadRow, NotReduced, Missing}
use Rattle.linear_model.proofs.Triangular.{find_height}
use Rattle.table_model.proofs.WordNumbers.{power, number, number-bound, less_before, number-injective}
use Rattle.table_model.proofs.TableColumns.{table_word_or_not, word_at, column_of_word, word_of_table, factors_at}
use Rattle.table_model.proofs.Inverses.{has_inverse_or_not, same-HasInverse, lead_or_zero}
use Rattle.table_model.proofs.RowWords.{words_of_row-table}
use Rattle.table_model.proofs.CompleteRows.{listed_value-table}
use Rattle.table_model.proofs.ForwardRowLaws.{unbroken_has_rows, at_most_broken}
use Rattle.table_model.proofs.Polynomials.{polynomial_exists, polynomial_over, polynomials_same}
use Rattle.table_model.proofs.FirstFaults.{everywhere_reduced}

not_before : (u : List Letter) → ¬ (IsBefore u u)
not_before u b = let e : word_cmp u u ≡ Equal = tied_itself word_cmp_total u in let n : Equal ≡ Less = sym e ∙ b in cc

-- of two words of one length the one before has the lesser number
before_less : (u v : List Letter) → length u ≡ length v → IsBefore u v → number u < number v
before_less u v e b = elim (cases_order (number u) (number v)) [
  | inl same ↦ absurd (not_before v (subst (λ w. IsBefore w v) (number-injective u v e same) b))
  | inr o ↦ elim o [
    | inl l ↦ l
    | inr l ↦ let t : IsTotalOrder word_cmp = word_cmp_total in absurd (not_before u (t.trans u v u b (less_before v u (sym e) l)))
  ]
]

-- all of n places have a property that can be told, or one is the first without it
pub all_or_first : (has : ℕ → Type 0) → ((k : ℕ) → has k ⊎ ¬ (has k)) → (n : ℕ) → ((k : ℕ) → k < n → has k) ⊎ ((i : ℕ) × IsFirstWithout has n i)
all_or_first has tell zero = inl (λ k l. absurd (omega arith))
all_or_first has tell (suc n) = elim (all_or_first has tell n) [
  | inr (i, f) ↦ inr (i, record { below = omega (arith, f.below); lacks = f.lacks; earlier = f.earlier })
  | inl all ↦ elim (tell n) [
    | inl h ↦ inl (λ k l. elim (cases_eq k n) [ inl e ↦ subst has (sym e) h | inr ne ↦ all k (omega arith) ])
    | inr none ↦ inr (n, record { below = omega arith; lacks = none; earlier = λ k l. all k l })
  ]
]

same_or_not : (m a b : ℕ) → Same m a b ⊎ ¬ (Same m a b)
same_or_not m a b = elim (cases_eq (a % m) (b % m)) [ inl e ↦ inl e | inr ne ↦ inr ne ]

-- a property that all n places have, or not
all_or_not : (has : ℕ → Type 0) → ((k : ℕ) → has k ⊎ ¬ (has k)) → (n : ℕ) → ((k : ℕ) → k < n → has k) ⊎ ¬ ((k : ℕ) → k < n → has k)
all_or_not has tell n = elim (all_or_first has tell n) [ inl all ↦ inl all | inr (i, f) ↦ inr (λ all. f.lacks (all i f.below)) ]

reduced_at_or_not : (m count : ℕ) (lead : ℕ → ℕ) (rows : ℕ → ℕ → ℕ) (i : ℕ) → IsReducedAt m count lead rows i ⊎ ¬ (IsReducedAt m count lead rows i)
reduced_at_or_not m count lead rows i =
    elim (same_or_not m (rows i (lead i)) 1) [
      | inr none ↦ inr (λ r. none r.one)
      | inl one ↦ elim (all_or_not (λ j. Same m (rows i j) 0) (λ j. same_or_not m (rows i j) 0) (lead i)) [
        | inr none ↦ inr (λ r. none r.before)
        | inl before ↦ elim (risen i) [
          | inr none ↦ inr (λ r. none r.rises)
          | inl rises ↦ elim (all_or_not (λ k. ¬ (k ≡ i) → Same m (rows k (lead i)) 0) (λ k. elsewhere k (cases_eq k i)) count) [
            | inr none ↦ inr (λ r. none r.clear)
            | inl clear ↦ inl (record { one = one; before = before; rises = rises; clear = clear })
          ]
        ]
      ]
    ]
  where
    risen : (i : ℕ) → ((k : ℕ) → suc k ≡ i → lead k < lead i) ⊎ ¬ ((k : ℕ) → suc k ≡ i → lead k < lead i)
    risen zero = inl (λ k e. absurd (omega arith))
    risen (suc i) = elim (cases_lt (lead i) (lead (suc i))) [
      | inl l ↦ inl (λ k e. let same : k ≡ i = omega arith in subst (λ x. lead x < lead (suc i)) (sym same) l)
      | inr l ↦ inr (λ h. let up : lead i < lead (suc i) = h i refl in absurd (omega arith))
    ]

    elsewhere : (k : ℕ) → ((k ≡ i) ⊎ (k ≢ i)) → (¬ (k ≡ i) → Same m (rows k (lead i)) 0) ⊎ ¬ (¬ (k ≡ i) → Same m (rows k (lead i)) 0)
    elsewhere k (inl e) = inl (λ ne. absurd (ne e))
    elsewhere k (inr ne) = elim (same_or_not m (rows k (lead i)) 0) [ inl z ↦ inl (λ _. z) | inr none ↦ inr (λ h. none (h ne)) ]

module _ (m : ℕ) (columns : ColumnList) (table : IsTable m columns) where
  pos : 0 < m
  pos = omega (arith, table.modulus)

  abbrev n : ℕ
  n = length columns.list

  -- sums of words of the table can be told apart
  same_sum_or_not : (s r : Sum) → IsTableSum m columns s → IsTableSum m columns r → SameSum m s r ⊎ ¬ (SameSum m s r)
  same_sum_or_not s r hs hr = elim
      (all_or_not (λ col. Same m (s (word_at m columns table col)) (r (word_at m columns table col)))
      (λ col. same_or_not m (s (word_at m columns table col)) (r (word_at m columns table col))) n) [
        | inr none ↦ inr (λ same. none (λ col l. same (word_at m columns table col)))
        | inl all ↦ inl (λ t. elim (table_word_or_not columns.weight columns.depth t) [
          | inl x ↦ let (col, l, e) = column_of_word m columns table t x in subst (λ w. Same m (s w) (r w)) e (all col l)
          | inr none ↦ hs t none ∙ sym (hr t none)
        ])
      ]

  combination-table : (k : ℕ) (c : ℕ → ℕ) → IsTableSum m columns (sum_combination k (values_of m columns) c)
  combination-table k c t none = total_vanishes m k (λ i. c i * values_of m columns i t)
      (λ i l. same-mul_left m (values_of m columns i t) 0 (c i) (listed_value-table m columns table i t none) ∙ ap (λ x. x % m) (omega arith))

  evaluates_or_not : (row combination : ℕ → ℕ) → Evaluates m columns row combination ⊎ ¬ (Evaluates m columns row combination)
  evaluates_or_not row combination =
      same_sum_or_not (words_of_row columns.list row) (sum_combination (count_of columns) (values_of m columns) combination)
      (words_of_row-table m columns table row) (combination-table (count_of columns) combination)

  converts_at : (u : List Letter) (p : List (List Letter)) → IsFactors u p → HasInverse m (words_of_monomial p u) → ConvertsAt m u
  converts_at u p f h q g = subst (λ r. HasInverse m (words_of_monomial r u)) (IsFactors-unique u p q f g) h

  abbrev Fault : Type 0
  Fault = (u : List Letter) × (residue : ℕ) × IsNotInvertible m columns u residue

  converts_below : (k : ℕ) → ((t : List Letter) → IsTableWord columns.weight columns.depth t → number t < k → ConvertsAt m t) ⊎ Fault
  converts_below zero = inl (λ t x l. absurd (omega arith))
  converts_below (suc k) = elim (converts_below k) [
    | inr f ↦ inr f
    | inl below ↦ elim (find_height n (λ col. number (word_at m columns table col)) k) [
      | inr none ↦ inl (λ t x l. elim (cases_eq (number t) k) [
        | inl e ↦ let (col, lc, is) = column_of_word m columns table t x in absurd (none col lc (ap number is ∙ e))
        | inr ne ↦ below t x (omega arith)
      ])
      | inl (col, lc, is) ↦ here below col lc is (has_inverse_or_not m (words_of_monomial (column_at columns.list col) (word_at m columns table col)) pos)
    ]
  ]
    where
      here : ((t : List Letter) → IsTableWord columns.weight columns.depth t → number t < k → ConvertsAt m t) → (col : ℕ) → col < n
          → number (word_at m columns table col) ≡ k
          → HasInverse m (words_of_monomial (column_at columns.list col) (word_at m columns table col)) ⊎ ¬
          (HasInverse m (words_of_monomial (column_at columns.list col) (word_at m columns table col)))
          → ((t : List Letter) → IsTableWord columns.weight columns.depth t → number t < suc k → ConvertsAt m t) ⊎ Fault
      here below col lc is (inl h) =
          let x : IsTableWord columns.weight columns.depth (word_at m columns table col) = word_of_table m columns table col lc in
          inl (λ t y l. elim (cases_eq (number t) k) [
            | inl e ↦
                let same : word_at m columns table col ≡ t = number-injective (word_at m columns table col) t (x.weight ∙ sym y.weight) (is ∙ sym e) in
                subst (ConvertsAt m) same (converts_at (word_at m columns table col) (column_at columns.list col) (factors_at m columns table col lc) h)
            | inr ne ↦ below t y (omega arith)
          ])
      here below col lc is (inr none) =
          let u : List Letter = word_at m columns table col in
          let p : List (List Letter) = column_at columns.list col in
          let x : IsTableWord columns.weight columns.depth u = word_of_table m columns table col lc in
          inr (
            u,
            words_of_monomial p u % m,
            record {
              reached = record {
                word = x;
                earlier = λ t y b. let less : number t < number u = before_less t u (y.weight ∙ sym x.weight) b in
                    below t y (omega arith);
              };
              factors = p;
              are_factors = factors_at m columns table col lc;
              told = refl;
              none = λ h. none (same-HasInverse m (words_of_monomial p u % m) (words_of_monomial p u) (same-mod m (words_of_monomial p u)) h);
            },
          )

  -- the table converts, or has a first word whose coefficient has no inverse
  pub converts_or_fault : Converts m columns ⊎ ((u : List Letter) × (residue : ℕ) × IsNotInvertible m columns u residue)
  converts_or_fault = elim (converts_below (power columns.weight)) [
    | inl all ↦ inl (λ t x. all t x (omega (arith, number-bound t, ap power x.weight)))
    | inr f ↦ inr f
  ]

  -- the work is unbroken below k, or breaks first at a number below it
  pub unbroken_or_breaks : (sums : ℕ → Sum) → ((j : ℕ) → IsTableSum m columns (sums j)) → Converts m columns → (k : ℕ)
      → IsUnbroken m columns sums k ⊎ ((j : ℕ) × (residue : ℕ) × (j < k) × BreaksFirst m columns sums j residue)
  unbroken_or_breaks sums within converts zero = inl (λ j l. absurd (omega arith))
  unbroken_or_breaks sums within converts (suc k) = elim (unbroken_or_breaks sums within converts k) [
    | inr (j, residue, l, b) ↦ inr (j, residue, omega arith, b)
    | inl below ↦ elim (at_most_broken m columns table sums within converts k (unbroken_has_rows m columns table sums within converts k below)) [
      | inr (residue, b) ↦ inr (k, residue, omega arith, (b, below))
      | inl none ↦ inl (λ j l. elim (cases_eq j k) [
        | inl e ↦ subst (λ x. (residue : ℕ) → ¬ (IsBrokenAt m columns sums x residue)) (sym e) none
        | inr ne ↦ below j (omega arith)
      ])
    ]
  ]

  module _ (converts : Converts m columns) (count : ℕ) (lead : ℕ → ℕ) (rows : ℕ → ℕ → ℕ) (over : (i : ℕ) → i < count
      → IsOver m columns (rows i)) (reduced : IsReduced m count lead rows) where
    leaves_or_not : (k : ℕ) → LeavesNothing m columns count lead rows k ⊎ ¬ (LeavesNothing m columns count lead rows k)
    leaves_or_not k =
        let (q, h) = polynomial_exists m columns table converts count lead rows reduced (values_of m columns k) (listed_value-table m columns table k) in
        elim (lead_or_zero m q n (polynomial_over m columns count lead rows over (values_of m columns k) q h)) [
          | inl (col, leads) ↦ inr (λ all. leads.here (all q h col))
          | inr zeros ↦ inl (λ r g col. polynomials_same m columns table converts count lead rows reduced (values_of m columns k) r q g h col ∙ zeros col)
        ]

  -- rows over the columns get a verdict
  pub verdict_exists : (count : ℕ) (lead : ℕ → ℕ) (rows combinations : ℕ → ℕ → ℕ) → ((i : ℕ) → i < count → IsOver m columns (rows i))
      → (v : Verdict) × IsVerdict m columns count lead rows combinations v
  verdict_exists count lead rows combinations over =
      elim converts_or_fault [
        | inr (u, residue, f) ↦ (NoInverse u residue, f)
        | inl converts ↦ elim (all_or_first (λ i. Evaluates m columns (rows i) (combinations i)) (λ i. evaluates_or_not (rows i) (combinations i)) count) [
          | inr (i, f) ↦ (BadRow i, (converts, f))
          | inl each ↦ elim (all_or_first (IsReducedAt m count lead rows) (reduced_at_or_not m count lead rows) count) [
            | inr (i, f) ↦ (NotReduced i, (converts, each, f))
            | inl at ↦ judged converts each (everywhere_reduced m count lead rows at)
          ]
        ]
      ]
    where
      judged : Converts m columns → AllEvaluate m columns count rows combinations → IsReduced m count lead rows
          → (v : Verdict) × IsVerdict m columns count lead rows combinations v
      judged converts each reduced = elim
          (all_or_first (LeavesNothing m columns count lead rows) (leaves_or_not converts count lead rows over reduced) (count_of columns)) [
            | inl all ↦ (Whole, record { converts = converts; reduced = reduced; over = over; evaluates = each; nothing_missing = λ k l. all k l })
            | inr (k, f) ↦
                let (q, h) = polynomial_exists m columns table converts count lead rows reduced (values_of m columns k)
                (listed_value-table m columns table k) in
                let left = h.left in (
                  Missing k (λ col. q col % m),
                  (
                    converts,
                    each,
                    reduced,
                    f,
                    record {
                      cols = h.cols;
                      is_cols = h.is_cols;
                      left = record {
                        zero_at_leads = λ i l. same-mod m (q (lead i)) ∙ left.zero_at_leads i l;
                        coefficients = left.coefficients;
                        differs = λ col. left.differs col ∙ same-add_right m (q col) (q col % m) _ (sym (same-mod m (q col)));
                      };
                    },
                    λ col. mod-lt (q col) pos,
                  ),
                )
          ]
