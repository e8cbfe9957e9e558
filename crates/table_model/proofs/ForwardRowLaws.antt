-- Forward rows and combinations over accepted numbers are unique, and work that is not broken has reduced rows.
use Rattle.std.specs.Prelude.{◌≡◌, ℕ, zero, suc, ◌+◌, ◌*◌, ◌%◌, ◌<◌, ◌≤◌, ◌⊎◌, length}
use Rattle.std.proofs.Common.{refl, sym, ◌∙◌, ap, subst, inl, inr, arith}
use Rattle.std.proofs.lemmas.Bool.{cases_eq, cases_lt}
use Rattle.zeta_model.specs.Modular.{Same}
use Rattle.zeta_model.specs.Sums.{Sum, SameSum}
use Rattle.zeta_model.proofs.ModularLemmas.{same-add_left, same-mul, same-mul_left, same-mul_right, same-mod, same-cancel}
use Rattle.linear_model.specs.Rows.{total, combination, SameRow, InSpan}
use Rattle.linear_model.specs.Reduced.{IsLead, IsNormalForm}
use Rattle.linear_model.proofs.Spans.{span_through}
use Rattle.linear_model.proofs.ForwardLists.{reduced_is_forward, normal_form_unique}
use Rattle.column_order.specs.Columns.{ColumnList}
use Rattle.table_model.specs.MonomialWords.{sum_combination, words_of_row}
use Rattle.zeta_model.specs.Inverses.{HasInverse}
use Rattle.table_model.specs.Conversion.{IsTable, IsTableSum, Converts, IsCols}
use Rattle.table_model.specs.ReducedRows.{IsReducedRows, IsRest, IsAccepted, IsBrokenAt, IsForwardRow, IsCombination, IsUnbroken}
use Rattle.linear_model.proofs.Triangular.{cancel_unit}
use Rattle.table_model.proofs.Inverses.{has_inverse_or_not, same-HasInverse, inverse_unique, lead_or_zero, lead_unique}
use Rattle.table_model.proofs.SumSpans.{same_in_span, sum_in_span}
use Rattle.linear_model.proofs.RowSpans.{row_span_add}
use Rattle.table_model.proofs.RowWords.{combination-is_cols, cols_unique}
use Rattle.table_model.proofs.SumRows.{row_of, row_of-is}
use Rattle.table_model.proofs.ReducedRowsLaws.{rest_over, rest_zero, rest_is, rest_exists, rest_unique, nothing_added, no_rows, forward_row_added}

-- where two sums agree, and their terms from behind k on, the sums up to k agree
front_agrees : (m n k : ℕ) (f g : ℕ → ℕ) → 0 < m → k < n → ((i : ℕ) → k < i → i < n → Same m (f i) (g i)) → Same m (total n f) (total n g)
    → Same m (total (suc k) f) (total (suc k) g)
front_agrees m zero k f g pos l h e = absurd (omega arith)
front_agrees m (suc n) k f g pos l h e = elim (cases_eq k n) [
  | inl is ↦ subst (λ x. Same m (total (suc x) f) (total (suc x) g)) (sym is) e
  | inr ne ↦ front_agrees m n k f g pos (omega arith) (λ i a b. h i a (omega arith))
      (same-cancel m (total n f) (total n g) (f n) pos (e ∙ same-add_left m (g n) (f n) (total n g) (sym (h n (omega arith) (omega arith)))))
]

pub forward_row_of_rest : (m : ℕ) (columns : ColumnList) (sums : ℕ → Sum) (n : ℕ) (q : ℕ → ℕ) (col b : ℕ) → IsRest m columns sums n q → IsLead m q col
    → Same m (q col * b) 1 → IsForwardRow m columns sums n (λ j. b * q j)
forward_row_of_rest m columns sums n q col b r l u = record { rest = q; is_rest = r; col = col; leads = l; inverse = b; inverts = u; is = λ j. refl }

module _ (m : ℕ) (columns : ColumnList) (table : IsTable m columns) (sums : ℕ → Sum) (within : (k : ℕ)
    → IsTableSum m columns (sums k)) (converts : Converts m columns) where
  pos : 0 < m
  pos = omega (arith, table.modulus)

  pub forward_row_unique : (n : ℕ) (p q : ℕ → ℕ) → IsForwardRow m columns sums n p → IsForwardRow m columns sums n q → SameRow m p q
  forward_row_unique n p q hp hq col =
      let same : SameRow m hp.rest hq.rest = rest_unique m columns table sums within converts n hp.rest hq.rest hp.is_rest hq.is_rest in
      let one : hp.col ≡ hq.col = lead_unique m hp.rest hq.rest hp.col hq.col same hp.leads hq.leads in
      let moved : Same m (hp.rest hp.col * hq.inverse) 1 =
      same-mul_right m (hp.rest hp.col) (hq.rest hq.col) hq.inverse (same hp.col ∙ ap (λ x. hq.rest x % m) one) ∙ hq.inverts in
      hp.is col ∙ same-mul m hp.inverse hq.inverse (hp.rest col) (hq.rest col) (inverse_unique m (hp.rest hp.col) hp.inverse hq.inverse hp.inverts moved)
      (same col) ∙ sym (hq.is col)

  abbrev pub HasReducedRows : ℕ → Type 0
  HasReducedRows n = (count : ℕ) × (lead : ℕ → ℕ) × (rows : ℕ → ℕ → ℕ) × IsReducedRows m columns sums n count lead rows

  -- a rest that leads with an inverse gives a forward row
  forward_row_found : (n : ℕ) (q : ℕ → ℕ) (col : ℕ) → IsRest m columns sums n q → IsLead m q col → HasInverse m (q col)
      → (f : ℕ → ℕ) × IsForwardRow m columns sums n f
  forward_row_found n q col r l (b, u) = (λ j. b * q j, record { rest = q; is_rest = r; col = col; leads = l; inverse = b; inverts = u; is = λ j. refl })

  -- a rest that is not zero, where the work is not broken
  lead_of_rest : (n : ℕ) (q : ℕ → ℕ) (col : ℕ) → IsRest m columns sums n q → IsLead m q col → ((residue : ℕ) → ¬ (IsBrokenAt m columns sums n residue))
      → HasInverse m (q col)
  lead_of_rest n q col r l whole = elim (has_inverse_or_not m (q col) pos) [
    | inl found ↦ found
    | inr none ↦ absurd (whole (q col % m)
        (record {
          rest = q;
          is_rest = r;
          col = col;
          leads = l;
          told = refl;
          none = λ h. none
              (same-HasInverse m (q col % m) (q col) (same-mod m (q col)) h);
        }))
  ]

  -- where there is R(n), the work is not broken at n, or it is with some residue
  pub at_most_broken : (n : ℕ) → HasReducedRows n
      → ((residue : ℕ) → ¬ (IsBrokenAt m columns sums n residue)) ⊎ ((residue : ℕ) × IsBrokenAt m columns sums n residue)
  at_most_broken n (count, lead, rows, h) =
      let rest : (q : ℕ → ℕ) × IsRest m columns sums n q = rest_exists m columns table sums within converts n count lead rows h in
      elim (lead_or_zero m rest.0 (length columns.list) (rest_over m columns table sums n rest.0 rest.1)) [
        | inr zeros ↦ inl (λ residue b. let l = b.leads in
            l.here (rest_unique m columns table sums within converts n b.rest rest.0 b.is_rest rest.1 b.col ∙ zeros b.col))
        | inl (col, leads) ↦ elim (has_inverse_or_not m (rest.0 col) pos) [
          | inr none ↦ inr (
            rest.0 col % m,
            record {
              rest = rest.0;
              is_rest = rest.1;
              col = col;
              leads = leads;
              told = refl;
              none = λ g. none
                  (same-HasInverse m (rest.0 col % m) (rest.0 col) (same-mod m (rest.0 col)) g);
            },
          )
          | inl found ↦ inl (λ residue b.
              let same : SameRow m rest.0 b.rest = rest_unique m columns table sums within converts n rest.0 b.rest rest.1 b.is_rest in
              let one : col ≡ b.col = lead_unique m rest.0 b.rest col b.col same leads b.leads in
              b.none (same-HasInverse m (rest.0 col) residue (same col ∙ ap (λ x. b.rest x % m) one ∙ sym (same-mod m (b.rest b.col))
              ∙ ap (λ x. x % m) b.told) found))
        ]
      ]

  -- where the work is not broken below n, there is R(n)
  pub unbroken_has_rows : (n : ℕ) → IsUnbroken m columns sums n → HasReducedRows n
  unbroken_has_rows zero whole = (0, λ _. 0, λ _ _. 0, no_rows m columns table sums within converts (λ _. 0) (λ _ _. 0))
  unbroken_has_rows (suc n) whole = step (unbroken_has_rows n (λ k l. whole k (omega arith)))
    where
      step : HasReducedRows n → HasReducedRows (suc n)
      step (count, lead, rows, h) =
          let rest : (q : ℕ → ℕ) × IsRest m columns sums n q = rest_exists m columns table sums within converts n count lead rows h in
          elim (lead_or_zero m rest.0 (length columns.list) (rest_over m columns table sums n rest.0 rest.1)) [
            | inl (col, leads) ↦
                let forward : (f : ℕ → ℕ) × IsForwardRow m columns sums n f =
                forward_row_found n rest.0 col rest.1 leads (lead_of_rest n rest.0 col rest.1 leads (whole n (omega arith))) in
                let r : (next_lead : ℕ → ℕ) × (next_rows : ℕ → ℕ → ℕ) × IsReducedRows m columns sums (suc n) (suc count) next_lead next_rows =
                forward_row_added m columns table sums within converts n count lead rows h forward.0 forward.1 in
                (suc count, r.0, r.1, r.2)
            | inr none ↦ (
              count,
              lead,
              rows,
              nothing_added m columns table sums n count lead rows h
                  ((rest_zero m columns table sums n rest.0 rest.1).0 none),
            )
          ]

  -- number k is accepted or not, where the work is not broken below it
  pub accepted_or_not : (k : ℕ) → HasReducedRows k → IsAccepted m columns sums k ⊎ ¬ (IsAccepted m columns sums k)
  accepted_or_not k (count, lead, rows, h) =
      let rest : (q : ℕ → ℕ) × IsRest m columns sums k q = rest_exists m columns table sums within converts k count lead rows h in
      elim (lead_or_zero m rest.0 (length columns.list) (rest_over m columns table sums k rest.0 rest.1)) [
        | inl (col, leads) ↦ inl (rest.0, rest.1, λ z. leads.here (z col))
        | inr zeros ↦ inr (λ (q, r, some). some (λ col. rest_unique m columns table sums within converts k q rest.0 r rest.1 col ∙ zeros col))
      ]

  -- the normal form of a combination of sums up to k, by R(k), is its coefficient at k times the rest
  combination_left : (k count : ℕ) (lead : ℕ → ℕ) (rows : ℕ → ℕ → ℕ) (c q : ℕ → ℕ) → IsReducedRows m columns sums k count lead rows
      → IsRest m columns sums k q
      → IsNormalForm m count lead rows (combination (suc k) (row_of m columns table sums within converts) c) (λ j. c k * q j)
  combination_left k count lead rows c q h r =
      let left : IsNormalForm m count lead rows (row_of m columns table sums within converts k) q =
      rest_is m columns table sums within converts k count lead rows q h r in
      let low : ℕ → ℕ = combination k (row_of m columns table sums within converts) c in
      let comb : ℕ → ℕ = combination count rows left.coefficients in
      let each : (i : ℕ) → i < k → InSpan m count rows (row_of m columns table sums within converts i) = λ i l.
      let v = row_of-is m columns table sums within converts i in
      (h.whole (row_of m columns table sums within converts i) v.over).1
      (same_in_span m k sums (words_of_row columns.list (row_of m columns table sums within converts i)) (sums i) v.words (sum_in_span m k sums i l)) in
      let below : InSpan m count rows low = span_through m k count (row_of m columns table sums within converts) rows each low (c, λ col. refl) in
      let all : InSpan m count rows (λ j. 1 * low j + c k * comb j) = row_span_add m count rows low comb 1 (c k) below (left.coefficients, λ col. refl) in
      record {
        zero_at_leads = λ i l. same-mul_left m (q (lead i)) 0 (c k) (left.zero_at_leads i l) ∙ ap (λ x. x % m) (omega arith);
        coefficients = all.0;
        differs = λ j.
            same-add_left m (c k * row_of m columns table sums within converts k j) (c k * (q j + comb j)) (low j)
            (same-mul_left m (row_of m columns table sums within converts k j) (q j + comb j) (c k) (left.differs j))
            ∙ ap (λ x. x % m) (let e : low j + c k * (q j + comb j) ≡ c k * q j + (1 * low j + c k * comb j) = grind arith in e)
            ∙ same-add_left m (1 * low j + c k * comb j) (combination count rows all.0 j) (c k * q j) (all.1 j);
      }

  -- the combination of a row over accepted numbers is unique
  pub combination_unique : (n : ℕ) → IsUnbroken m columns sums n → (p c d : ℕ → ℕ) → IsCombination m columns sums n p c → IsCombination m columns sums n p d
      → (k : ℕ) → Same m (c k) (d k)
  combination_unique n whole p c d hc hd k = from n k (omega arith)
    where
      at : (k : ℕ) → k < n → ((i : ℕ) → k < i → i < n → Same m (c i) (d i)) → HasReducedRows k → IsAccepted m columns sums k → Same m (c k) (d k)
      at k l above (count, lead, rows, h) (q, r, some) = elim (lead_or_zero m q (length columns.list) (rest_over m columns table sums k q r)) [
        | inr zeros ↦ absurd (some zeros)
        | inl (col, leads) ↦
            let same : SameSum m (sum_combination (suc k) sums c) (sum_combination (suc k) sums d) = λ t.
            front_agrees m n k (λ i. c i * sums i t) (λ i. d i * sums i t) pos l (λ i a b. same-mul_right m (c i) (d i) (sums i t) (above i a b))
            (sym (hc.evaluates t) ∙ hd.evaluates t) in
            let row : (e : ℕ → ℕ) → IsCols m columns (sum_combination (suc k) sums e)
            (combination (suc k) (row_of m columns table sums within converts) e) = λ e.
            combination-is_cols m columns (suc k) sums (row_of m columns table sums within converts) e
            (λ i _. row_of-is m columns table sums within converts i) in
            let rc : IsCols m columns (sum_combination (suc k) sums c) (combination (suc k) (row_of m columns table sums within converts) c) = row c in
            let rd : IsCols m columns (sum_combination (suc k) sums d) (combination (suc k) (row_of m columns table sums within converts) d) = row d in
            let moved : SameRow m (combination (suc k) (row_of m columns table sums within converts) c)
            (combination (suc k) (row_of m columns table sums within converts) d) =
            cols_unique m columns table converts (sum_combination (suc k) sums c) _ _ rc
            (record { over = rd.over; words = λ t. rd.words t ∙ sym (same t) }) in
            let fc = combination_left k count lead rows c q h r in
            let fd = combination_left k count lead rows d q h r in
            let lefts : SameRow m (λ j. c k * q j) (λ j. d k * q j) =
            normal_form_unique m count lead rows pos (reduced_is_forward m count lead rows h.reduced)
            (combination (suc k) (row_of m columns table sums within converts) c) (λ j. c k * q j) (λ j. d k * q j) fc
            (record { zero_at_leads = fd.zero_at_leads; coefficients = fd.coefficients; differs = λ j. moved j ∙ fd.differs j }) in
            cancel_unit m (q col) (c k) (d k) (lead_of_rest k q col r leads (whole k l)) (lefts col)
      ]

      from : (b k : ℕ) → n ≤ k + b → Same m (c k) (d k)
      from zero k h = hc.within k (omega arith) ∙ sym (hd.within k (omega arith))
      from (suc b) k h = go (from b) (cases_lt k n)
        where
          go : ((i : ℕ) → n ≤ i + b → Same m (c i) (d i)) → ((k < n) ⊎ (n ≤ k)) → Same m (c k) (d k)
          go ih (inr past) = hc.within k past ∙ sym (hd.within k past)
          go ih (inl l) =
              let there : HasReducedRows k = unbroken_has_rows k (λ i li. whole i (omega arith)) in
              elim (accepted_or_not k there) [
                | inl is ↦ at k l (λ i a _. ih i (omega arith)) there is
                | inr none ↦ hc.accepted k l none ∙ sym (hd.accepted k l none)
              ]

  -- an accepted number at which the work is not broken has a forward row
  pub accepted_has_forward_row : (n : ℕ) → ((residue : ℕ) → ¬ (IsBrokenAt m columns sums n residue)) → IsAccepted m columns sums n
      → (f : ℕ → ℕ) × IsForwardRow m columns sums n f
  accepted_has_forward_row n whole (q, r, some) = elim (lead_or_zero m q (length columns.list) (rest_over m columns table sums n q r)) [
    | inr zeros ↦ absurd (some zeros)
    | inl (col, leads) ↦ forward_row_found n q col r leads (lead_of_rest n q col r leads whole)
  ]
