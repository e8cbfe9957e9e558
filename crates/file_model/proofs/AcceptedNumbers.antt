-- How many numbers of sums are accepted: no more than there are reduced rows, and of these no more than columns.
use Rattle.std.specs.Prelude.{◌≡◌, ℕ, zero, suc, ◌+◌, ◌-◌, ◌%◌, ◌<◌, ◌≤◌, [], ◌∷◌, length}
use Rattle.std.proofs.Common.{sym, ◌∙◌, subst, inl, inr, arith}
use Rattle.std.proofs.Math.Nat.{mod-eq_of_lt}
use Rattle.std.proofs.lemmas.Bool.{cases_lt}
use Rattle.zeta_model.specs.Modular.{Same}
use Rattle.zeta_model.specs.Sums.{Sum}
use Rattle.column_order.specs.Columns.{ColumnList}
use Rattle.sparse_rows.specs.Entries.{IsRow}
use Rattle.table_model.specs.Conversion.{IsTable, IsTableSum, Converts, IsOver}
use Rattle.table_model.specs.ReducedRows.{IsReducedRows, IsAccepted, IsBrokenAt, IsUnbroken}
use Rattle.table_model.proofs.Inverses.{lead_or_zero}
use Rattle.table_model.proofs.ReducedRowsLaws.{rest_over, rest_zero, rest_exists, nothing_added, no_rows, forward_row_added, reduced_rows_counts}
use Rattle.table_model.proofs.ForwardRowLaws.{accepted_has_forward_row, unbroken_has_rows}
use Rattle.file_model.specs.Pages.{Pairs}
use Rattle.file_model.proofs.PairBounds.{first_key, IsWithin, within_behind}

module _ (m : ℕ) (columns : ColumnList) (table : IsTable m columns) (sums : ℕ → Sum) (within : (k : ℕ) → IsTableSum m columns (sums k))
    (converts : Converts m columns) where
  -- the first n sums have so many reduced rows
  abbrev pub Counted : ℕ → ℕ → Type 0
  Counted n count = (lead : ℕ → ℕ) × (rows : ℕ → ℕ → ℕ) × IsReducedRows m columns sums n count lead rows

  -- no more rows than columns
  pub counted_few : (n count : ℕ) → Counted n count → count ≤ length columns.list
  counted_few n count (lead, rows, h) = few count h.over (omega arith)
    where
      big : 2 < m
      big = table.modulus

      rising : (i : ℕ) → i < count → i ≤ lead i
      rising zero l = omega arith
      rising (suc i) l = let r = h.reduced in omega (arith, rising i (omega (arith, l)), r.rising i (suc i) (omega arith) l)

      few : (k : ℕ) → ((i : ℕ) → i < count → IsOver m columns (rows i)) → k ≤ count → k ≤ length columns.list
      few zero over l = omega arith
      few (suc i) over l = elim (cases_lt (lead i) (length columns.list)) [
        | inl inside ↦ omega (arith, inside, rising i (omega (arith, l)))
        | inr past ↦
            let r = h.reduced in
            let same : Same m 1 0 = sym (r.one i (omega (arith, l))) ∙ over i (omega (arith, l)) (lead i) past in
            let unit : 1 % m ≡ 1 = mod-eq_of_lt (omega (arith, big)) in
            let none : 0 % m ≡ 0 = mod-eq_of_lt (omega (arith, big)) in
            absurd (omega (arith, same, unit, none))
      ]

  -- one number more has no fewer rows
  more_counted : (n count : ℕ) → Counted n count → ((residue : ℕ) → ¬ (IsBrokenAt m columns sums n residue))
      → (next : ℕ) × (count ≤ next) × Counted (suc n) next
  more_counted n count (lead, rows, h) whole =
      let (q, rest) = rest_exists m columns table sums within converts n count lead rows h in
      elim (lead_or_zero m q (length columns.list) (rest_over m columns table sums n q rest)) [
        | inr none ↦ (
          count,
          omega arith,
          (
            lead,
            rows,
            nothing_added m columns table sums n count lead rows h
                ((rest_zero m columns table sums n q rest).0 none),
          ),
        )
        | inl (col, leads) ↦
            let (f, forward) = accepted_has_forward_row m columns table sums within converts n whole (q, rest, λ z. leads.here (z col)) in
            let (next_lead, next_rows, next) = forward_row_added m columns table sums within converts n count lead rows h f forward in
            (suc count, omega arith, (next_lead, next_rows, next))
      ]

  counted_later : (k n count : ℕ) → Counted n count → IsUnbroken m columns sums (n + k) → (next : ℕ) × (count ≤ next) × Counted (n + k) next
  counted_later zero n count h un = (count, omega arith, subst (λ x. Counted x count) (let e : n ≡ n + 0 = omega arith in e) h)
  counted_later (suc k) n count h un =
      let at : suc (n + k) ≡ n + suc k = omega arith in
      let (mid, more, there) = counted_later k n count h (λ i l. un i (omega (arith, l))) in
      let (next, further, then) = more_counted (n + k) mid there (un (n + k) (omega arith)) in
      (next, omega (arith, more, further), subst (λ x. Counted x next) at then)

  accepted_adds : (n count : ℕ) → Counted n count → IsUnbroken m columns sums (suc n) → IsAccepted m columns sums n → Counted (suc n) (suc count)
  accepted_adds n count (lead, rows, h) un is =
      let (f, forward) = accepted_has_forward_row m columns table sums within converts n (un n (omega arith)) is in
      forward_row_added m columns table sums within converts n count lead rows h f forward

  -- numbers from low on are no more than the rows that they add
  numbers_few : (low n count last : ℕ) (es : Pairs) → IsUnbroken m columns sums n → low ≤ n → Counted low count → Counted n last → IsRow (λ k. k) 0 low es
      → IsWithin (λ k. (k < n) × IsAccepted m columns sums k) es → length es + count ≤ last
  numbers_few low n count last [] un l h g r held =
      let e : low + (n - low) ≡ n = omega (arith, l) in
      let (next, more, there) = counted_later (n - low) low count h (subst (IsUnbroken m columns sums) (sym e) un) in
      let at : Counted n next = subst (λ x. Counted x next) e there in
      let same : next ≡ last = reduced_rows_counts m columns table sums n next last at.0 g.0 at.1 g.1 at.2 g.2 in
      omega (arith, more, same)
  numbers_few low n count last (e ∷ es) un l h g r held =
      let (below, is) = first_key (λ k. (k < n) × IsAccepted m columns sums k) low e es r held in
      let at : low + (e.0 - low) ≡ e.0 = omega (arith, r.0) in
      let (mid, more, there) = counted_later (e.0 - low) low count h (λ i li. un i (omega (arith, li, at, below))) in
      let here : Counted e.0 mid = subst (λ x. Counted x mid) at there in
      let added : Counted (suc e.0) (suc mid) = accepted_adds e.0 mid here (λ i li. un i (omega (arith, li, below))) is in
      let step : suc e.0 ≡ e.0 + 1 = omega arith in
      let others : length es + suc mid ≤ last =
      numbers_few (e.0 + 1) n (suc mid) last es un (omega (arith, below)) (subst (λ x. Counted x (suc mid)) step added) g r.2
      (within_behind (λ k. (k < n) × IsAccepted m columns sums k) low e es r held) in
      omega (arith, others, more)

  -- pairs at accepted numbers below n are no more than columns
  pub accepted_few : (n : ℕ) (es : Pairs) → IsUnbroken m columns sums n → IsRow (λ k. k) 0 0 es → IsWithin (λ k. (k < n) × IsAccepted m columns sums k) es
      → length es ≤ length columns.list
  accepted_few n es un r held =
      let (last, lead, rows, h) = unbroken_has_rows m columns table sums within converts n un in
      let none : Counted 0 0 = (λ _. 0, λ _ _. 0, no_rows m columns table sums within converts (λ _. 0) (λ _ _. 0)) in
      omega (arith, numbers_few 0 n 0 last es un (omega arith) none (lead, rows, h) r held, counted_few n last (lead, rows, h))
