-- Work that goes on from true rows writes the same combinations.
use Rattle.std.specs.Prelude.{◌≡◌, ◌⊎◌, ℕ, zero, suc, ◌+◌, ◌*◌, ◌%◌, ◌<◌, ◌≤◌, if◌then◌else◌, cond, eqb}
use Rattle.std.proofs.Common.{refl, sym, ◌∙◌, ap, subst, inl, inr, arith}
use Rattle.std.proofs.lemmas.Bool.{cases_eq, cases_lt, lt-ltb, le-ltb, ne_eqb}
use Rattle.zeta_model.specs.Modular.{Same}
use Rattle.zeta_model.specs.Sums.{Sum, SameSum}
use Rattle.zeta_model.proofs.ModularLemmas.{same-add, same-mul_left, same-mul_right}
use Rattle.linear_model.specs.Rows.{total, SameRow}
use Rattle.linear_model.proofs.Totals.{same-total, total_vanishes}
use Rattle.column_order.specs.Columns.{ColumnList}
use Rattle.table_model.specs.MonomialWords.{sum_combination}
use Rattle.table_model.specs.Conversion.{IsTable, Converts}
use Rattle.table_model.specs.ListedSpan.{InSumSpan, count_of}
use Rattle.table_model.specs.ReducedRows.{IsAccepted, IsCombination, IsUnbroken}
use Rattle.table_model.proofs.CompleteRows.{listed_value-table}
use Rattle.linear_model.proofs.Combinations.{combination-one}
use Rattle.table_model.proofs.SumSpans.{sum_combination-combination}
use Rattle.table_model.proofs.CombinationLaws.{combination_exists}
use Rattle.table_model.proofs.ForwardRowLaws.{combination_unique}
use Rattle.file_model.specs.Pages.{Work, Pairs, IsWritten, listed_work}
use Rattle.file_model.specs.Resuming.{Kept, written_of}
use Rattle.file_model.proofs.TrueRows.{IsTrueKept, vals, work, words, sum_kept, sum_listed, sums_table, no_words, decided, to_offered}
use Rattle.file_model.proofs.SameWork.{accepted_from, unbroken_to}

-- a sum is as long as one likes where its further terms vanish
pub total_longer : (m n k : ℕ) (f : ℕ → ℕ) → n ≤ k → ((i : ℕ) → n ≤ i → i < k → Same m (f i) 0) → Same m (total n f) (total k f)
total_longer m zero zero f l h = refl
total_longer m (suc n) zero f l h = absurd (omega arith)
total_longer m n (suc k) f l h = elim (cases_eq n (suc k)) [
  | inl e ↦ subst (λ x. Same m (total n f) (total x f)) e refl
  | inr ne ↦ total_longer m n k f (omega arith) (λ i a b. h i a (omega arith)) ∙ ap (λ x. x % m) (let z : total k f ≡ total k f + 0 = omega arith in z)
      ∙ same-add m (total k f) (total k f) 0 (f k) refl (sym (h k (omega arith) (omega arith)))
]

module _ (m : ℕ) (columns : ColumnList) (table : IsTable m columns) (converts : Converts m columns) (kept : Kept) (true : IsTrueKept m columns kept) where
  abbrev V : ℕ → Sum
  V = vals m columns table converts kept

  abbrev W : Work
  W = work m columns table converts kept

  abbrev N : ℕ
  N = count_of columns

  written_kept : (k : ℕ) → k < kept.below → (j : ℕ) → written_of kept k j ≡ kept.combinations k j
  written_kept k l j = ap (λ b. if b then kept.combinations k j else cond (eqb j k) 1 0) (lt-ltb k kept.below l)

  written_own : (k : ℕ) → kept.below ≤ k → (j : ℕ) → written_of kept k j ≡ cond (eqb j k) 1 0
  written_own k l j = ap (λ b. if b then kept.combinations k j else cond (eqb j k) 1 0) (le-ltb k kept.below l)

  -- a term of a combination is nothing where its factor is
  term_left : (a b : ℕ) → Same m a 0 → Same m (a * b) 0
  term_left a b z = same-mul_right m a 0 b z ∙ ap (λ x. x % m) (omega arith)

  term_right : (a b : ℕ) → Same m b 0 → Same m (a * b) 0
  term_right a b z = same-mul_left m b 0 a z ∙ ap (λ x. x % m) (omega arith)

  -- what is written beside sum k gives it
  written_gives : (n k : ℕ) → k < n → SameSum m (W.sums k) (sum_combination n V (written_of kept k))
  written_gives n k l t = elim (cases_lt k kept.below) [
    | inr high ↦
        ap (λ (s : Sum). s t % m) (sum_listed m columns table converts kept k high)
        ∙ ap (λ x. x % m) (let z : V k t ≡ 1 * V k t = omega arith in z)
        ∙ sym (combination-one m n (λ i _. V i t) k 1 0 l)
        ∙ same-total m n _ _ (λ j _. ap (λ x. (x * V j t) % m) (sym (written_own k high j)))
    | inl low ↦
        ap (λ (s : Sum). s t % m) (sum_kept m columns table converts kept k low)
        ∙ elim (decided m columns table converts kept true k low) [
          | inl is ↦
              let c = true.combined k low is in
              c.evaluates t ∙ total_longer m (suc k) n (λ j. kept.combinations k j * V j t) (omega arith)
              (λ j a b. term_left (kept.combinations k j) (V j t) (c.within j a))
              ∙ same-total m n _ _ (λ j _. ap (λ x. (x * V j t) % m) (sym (written_kept k low j)))
          | inr isnt ↦
              let z = no_words m columns table converts kept 0 V (kept.rows k) (λ col. ap (λ x. x % m) (true.none k low isnt col)) in
              z.1 t ∙ sym (total_vanishes m n _ (λ j _. term_left (written_of kept k j) (V j t)
              (ap (λ x. x % m) (written_kept k low j ∙ true.nothing k low isnt j))))
        ]
  ]

  -- a combination over what is offered, as it is written, is one over the listed relations
  written_combination : (n : ℕ) → n ≤ N → (p c : ℕ → ℕ) → IsCombination m columns W.sums n p c → IsCombination m columns V n p (W.beside c)
  written_combination n few p c h = record {
    accepted = λ j l isnt. total_vanishes m N _ (λ k _. term j k l isnt (cases_lt k kept.below) (cases_lt k n));
    within = λ j l. total_vanishes m N _ (λ k _. past j k l (cases_lt k kept.below) (cases_lt k n));
    evaluates = λ t.
        h.evaluates t
        ∙ same-total m n _ _ (λ k l. same-mul_left m (W.sums k t) (sum_combination n V (written_of kept k) t) (c k) (written_gives n k l t))
        ∙ total_longer m n N (λ k. c k * sum_combination n V (written_of kept k) t) few
        (λ k a b. term_left (c k) (sum_combination n V (written_of kept k) t) (h.within k a))
        ∙ ap (λ (f : Sum). f t % m) (sum_combination-combination N n c (written_of kept) V);
  }
    where
      at_zero : (j k : ℕ) → Same m (written_of kept k j) 0 → Same m (c k * written_of kept k j) 0
      at_zero j k z = term_right (c k) (written_of kept k j) z

      -- a kept combination has accepted numbers up to its own
      kept_zero : (j k : ℕ) → k < kept.below → (suc k ≤ j) ⊎ ¬ (IsAccepted m columns V j) → Same m (written_of kept k j) 0
      kept_zero j k low why = ap (λ x. x % m) (written_kept k low j) ∙ elim (decided m columns table converts kept true k low) [
        | inr isnt ↦ ap (λ x. x % m) (true.nothing k low isnt j)
        | inl is ↦ let cb = true.combined k low is in elim why [
          | inl past ↦ cb.within j past
          | inr none ↦ elim (cases_lt j (suc k)) [
            | inl l ↦ cb.accepted j l none
            | inr l ↦ cb.within j l
          ]
        ]
      ]

      own_zero : (j k : ℕ) → kept.below ≤ k → ¬ (j ≡ k) → Same m (written_of kept k j) 0
      own_zero j k high ne = ap (λ x. x % m) (written_own k high j ∙ ap (λ b. cond b 1 0) (ne_eqb j k ne))

      term : (j k : ℕ) → j < n → ¬ (IsAccepted m columns V j) → ((k < kept.below) ⊎ (kept.below ≤ k)) → ((k < n) ⊎ (n ≤ k))
          → Same m (c k * written_of kept k j) 0
      term j k l isnt (inl low) b = at_zero j k (kept_zero j k low (inr isnt))
      term j k l isnt (inr high) (inr past) = term_left (c k) (written_of kept k j) (h.within k past)
      term j k l isnt (inr high) (inl inside) = elim (cases_eq j k) [
        | inr ne ↦ at_zero j k (own_zero j k high ne)
        | inl at ↦ term_left (c k) (written_of kept k j) (h.accepted k inside (λ is. isnt (subst (IsAccepted m columns V) (sym at) (back k high is))))
      ]
        where
          back : (k : ℕ) → kept.below ≤ k → IsAccepted m columns W.sums k → IsAccepted m columns V k
          back k high is = accepted_from m columns table converts kept true k is

      past : (j k : ℕ) → n ≤ j → ((k < kept.below) ⊎ (kept.below ≤ k)) → ((k < n) ⊎ (n ≤ k)) → Same m (c k * written_of kept k j) 0
      past j k l a (inr behind) = term_left (c k) (written_of kept k j) (h.within k behind)
      past j k l (inl low) (inl inside) = at_zero j k (kept_zero j k low (inl (omega arith)))
      past j k l (inr high) (inl inside) = at_zero j k (own_zero j k high (λ e. absurd (omega arith)))

  -- what is written of a row and its combination is the same
  pub written_to : (n : ℕ) → n ≤ N → IsUnbroken m columns V n → (p : ℕ → ℕ) (row combination : Pairs)
      → IsWritten m columns (listed_work m columns) n p row combination → IsWritten m columns W n p row combination
  written_to n few whole p row combination h =
      let hc = h.is_combination in let hw = h.is_written in
      let offered : InSumSpan m n W.sums (words m columns table converts kept p) =
      to_offered m columns table converts kept true n (words m columns table converts kept p) (h.coefficients, hc.evaluates) in
      let (c, is) = combination_exists m columns table W.sums (sums_table m columns table converts kept) converts n
      (unbroken_to m columns table converts kept true n whole) p offered in
      let same : SameRow m (W.beside c) h.coefficients = combination_unique m columns table V (listed_value-table m columns table) converts n whole p
      (W.beside c) h.coefficients (written_combination n few p c is) hc in
      record { is_row = h.is_row; coefficients = c; is_combination = is; is_written = record { row = hw.row; residues = λ q. same q ∙ hw.residues q } }
