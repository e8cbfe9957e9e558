-- Work that goes on from true rows accepts the same numbers, breaks at the same ones, and has the same forward rows.
use Rattle.std.specs.Prelude.{◌≡◌, ℕ, zero, suc, ◌+◌, ◌*◌, ◌%◌, ◌<◌, ◌≤◌}
use Rattle.std.proofs.Common.{refl, sym, ◌∙◌, ap, subst, inl, inr, arith}
use Rattle.std.proofs.lemmas.Bool.{cases_lt}
use Rattle.std.proofs.Math.Nat.{mod-eq_of_lt}
use Rattle.zeta_model.specs.Modular.{Same}
use Rattle.zeta_model.specs.Sums.{Sum}
use Rattle.zeta_model.proofs.ModularLemmas.{same-mul_left, same-mod}
use Rattle.linear_model.specs.Rows.{combination, SameRow}
use Rattle.linear_model.specs.Reduced.{IsLead}
use Rattle.column_order.specs.Columns.{ColumnList}
use Rattle.table_model.specs.Conversion.{IsTable, Converts, IsOver, IsCols}
use Rattle.table_model.specs.ListedSpan.{InSumSpan}
use Rattle.table_model.specs.ReducedRows.{IsReducedRows, IsRest, IsAccepted, IsBrokenAt, IsForwardRow, IsUnbroken, BreaksFirst}
use Rattle.table_model.proofs.Inverses.{lead_unique}
use Rattle.table_model.proofs.ReducedRowsLaws.{rest_over, rest_zero, rest_unique}
use Rattle.table_model.proofs.ForwardRowLaws.{forward_row_unique}
use Rattle.file_model.specs.Resuming.{Kept}
use Rattle.file_model.proofs.TrueRows.{IsTrueKept, vals, work, sum_kept, sum_listed, sums_table, no_words, decided, to_listed, to_offered}

pub no_combination : (n : ℕ) (rows : ℕ → ℕ → ℕ) (col : ℕ) → combination n rows (λ _. 0) col ≡ 0
no_combination zero rows col = refl
no_combination (suc n) rows col = omega (arith, no_combination n rows col)

module _ (m : ℕ) (columns : ColumnList) (table : IsTable m columns) (converts : Converts m columns) (kept : Kept) (true : IsTrueKept m columns kept) where
  abbrev V : ℕ → Sum
  V = vals m columns table converts kept

  abbrev S : ℕ → Sum
  S = (work m columns table converts kept).sums

  pub rows_to : (n count : ℕ) (lead : ℕ → ℕ) (rows : ℕ → ℕ → ℕ) → IsReducedRows m columns V n count lead rows → IsReducedRows m columns S n count lead rows
  rows_to n count lead rows h = record {
    reduced = h.reduced;
    over = h.over;
    whole = λ p o. (
      λ s. to_offered m columns table converts kept true n _ ((h.whole p o).0 s),
      λ s. (h.whole p o).1 (to_listed m columns table converts kept true n _ s),
    );
  }

  pub rows_from : (n count : ℕ) (lead : ℕ → ℕ) (rows : ℕ → ℕ → ℕ) → IsReducedRows m columns S n count lead rows → IsReducedRows m columns V n count lead rows
  rows_from n count lead rows h = record {
    reduced = h.reduced;
    over = h.over;
    whole = λ p o. (
      λ s. to_listed m columns table converts kept true n _ ((h.whole p o).0 s),
      λ s. (h.whole p o).1 (to_offered m columns table converts kept true n _ s),
    );
  }

  -- behind the kept rows the rests are the same
  rest_to : (n : ℕ) (q : ℕ → ℕ) → kept.below ≤ n → IsRest m columns V n q → IsRest m columns S n q
  rest_to n q l r = record {
    count = r.count;
    lead = r.lead;
    rows = r.rows;
    cols = r.cols;
    earlier = rows_to n r.count r.lead r.rows r.earlier;
    value =
        subst (λ s. IsCols m columns s r.cols) (sym (sum_listed m columns table converts kept n l)) r.value;
    left = r.left;
  }

  rest_from : (n : ℕ) (q : ℕ → ℕ) → kept.below ≤ n → IsRest m columns S n q → IsRest m columns V n q
  rest_from n q l r = record {
    count = r.count;
    lead = r.lead;
    rows = r.rows;
    cols = r.cols;
    earlier = rows_from n r.count r.lead r.rows r.earlier;
    value =
        subst (λ s. IsCols m columns s r.cols) (sum_listed m columns table converts kept n l) r.value;
    left = r.left;
  }

  -- a kept row is its own rest
  kept_rest : (n : ℕ) → n < kept.below → IsForwardRow m columns V n (kept.rows n) → IsRest m columns S n (kept.rows n)
  kept_rest n l f =
      let r = f.is_rest in let left = r.left in
      let zero_too : (j : ℕ) → Same m (f.rest j) 0 → Same m (kept.rows n j) 0 =
      λ j z. f.is j ∙ same-mul_left m (f.rest j) 0 f.inverse z ∙ ap (λ x. x % m) (omega arith) in
      let over : IsOver m columns (kept.rows n) = λ col past. zero_too col (rest_over m columns table V n f.rest f.is_rest col past) in
      record {
        count = r.count;
        lead = r.lead;
        rows = r.rows;
        cols = kept.rows n;
        earlier = rows_to n r.count r.lead r.rows r.earlier;
        value = subst (λ s. IsCols m columns s (kept.rows n)) (sym (sum_kept m columns table converts kept n l)) (record { over = over; words = λ t. refl });
        left = record {
          zero_at_leads = λ i li. zero_too (r.lead i) (left.zero_at_leads i li);
          coefficients = λ _. 0;
          differs = λ j. ap (λ x. x % m) (let z : kept.rows n j ≡ kept.rows n j + combination r.count r.rows (λ _. 0) j = omega
              (arith, no_combination r.count r.rows j) in z);
        };
      }

  kept_one : (n : ℕ) (f : IsForwardRow m columns V n (kept.rows n)) → Same m (kept.rows n f.col) 1
  kept_one n f = f.is f.col ∙ ap (λ x. x % m) (let e : f.inverse * f.rest f.col ≡ f.rest f.col * f.inverse = omega arith in e) ∙ f.inverts

  kept_leads : (n : ℕ) (f : IsForwardRow m columns V n (kept.rows n)) → IsLead m (kept.rows n) f.col
  kept_leads n f = let leads = f.leads in record {
    before = λ j l. f.is j ∙ same-mul_left m (f.rest j) 0 f.inverse (leads.before j l) ∙ ap (λ x. x % m) (omega arith);
    here = λ z. one_is_not_zero (sym (kept_one n f) ∙ z);
  }
    where
      one_is_not_zero : ¬ (Same m 1 0)
      one_is_not_zero e = let big = table.modulus in let a : 1 % m ≡ 1 = mod-eq_of_lt (omega (arith, big)) in let b : 0 % m ≡ 0 =
          mod-eq_of_lt (omega (arith, big)) in absurd (omega arith)

  kept_forward : (n : ℕ) → n < kept.below → IsForwardRow m columns V n (kept.rows n) → IsForwardRow m columns S n (kept.rows n)
  kept_forward n l f = record {
    rest = kept.rows n;
    is_rest = kept_rest n l f;
    col = f.col;
    leads = kept_leads n f;
    inverse = 1;
    inverts = ap (λ x. x % m) (let e : kept.rows n f.col * 1 ≡ kept.rows n f.col = omega arith in e) ∙ kept_one n f;
    is = λ j. ap (λ x. x % m) (omega arith);
  }

  -- where no row is kept nothing is left
  nothing_left : (n : ℕ) → n < kept.below → ¬ (IsAccepted m columns V n) → (q : ℕ → ℕ) → IsRest m columns S n q → SameRow m q (λ _. 0)
  nothing_left n l isnt q r = (rest_zero m columns table S n q r).1
      (subst (InSumSpan m n S) (sym (sum_kept m columns table converts kept n l))
      (no_words m columns table converts kept n S (kept.rows n) (λ col. ap (λ x. x % m) (true.none n l isnt col))))

  pub accepted_to : (n : ℕ) → IsAccepted m columns V n → IsAccepted m columns S n
  accepted_to n (q, r, some) = elim (cases_lt n kept.below) [
    | inr l ↦ (q, rest_to n q l r, some)
    | inl l ↦ let f = true.forward n l (q, r, some) in let leads = kept_leads n f in (kept.rows n, kept_rest n l f, λ z. leads.here (z f.col))
  ]

  pub accepted_from : (n : ℕ) → IsAccepted m columns S n → IsAccepted m columns V n
  accepted_from n (q, r, some) = elim (cases_lt n kept.below) [
    | inr l ↦ (q, rest_from n q l r, some)
    | inl l ↦ elim (decided m columns table converts kept true n l) [
      | inl is ↦ is
      | inr isnt ↦ absurd (some (nothing_left n l isnt q r))
    ]
  ]

  pub forward_from : (n : ℕ) (p : ℕ → ℕ) → IsForwardRow m columns S n p → IsForwardRow m columns V n p
  forward_from n p g = elim (cases_lt n kept.below) [
    | inr l ↦ record {
      rest = g.rest;
      is_rest = rest_from n g.rest l g.is_rest;
      col = g.col;
      leads = g.leads;
      inverse = g.inverse;
      inverts = g.inverts;
      is =
          g.is;
    }
    | inl l ↦ elim (decided m columns table converts kept true n l) [
      | inr isnt ↦ let leads = g.leads in absurd (leads.here (nothing_left n l isnt g.rest g.is_rest g.col))
      | inl is ↦
          let f = true.forward n l is in
          let same : SameRow m p (kept.rows n) = forward_row_unique m columns table S (sums_table m columns table converts kept) converts n p (kept.rows n) g
          (kept_forward n l f) in
          record { rest = f.rest; is_rest = f.is_rest; col = f.col; leads = f.leads; inverse = f.inverse; inverts = f.inverts; is = λ j. same j ∙ f.is j }
    ]
  ]

  pub broken_to : (n residue : ℕ) → kept.below ≤ n → IsBrokenAt m columns V n residue → IsBrokenAt m columns S n residue
  broken_to n residue l b = record { rest = b.rest; is_rest = rest_to n b.rest l b.is_rest; col = b.col; leads = b.leads; told = b.told; none = b.none }

  broken_from : (n residue : ℕ) → IsBrokenAt m columns S n residue → IsBrokenAt m columns V n residue
  broken_from n residue b = elim (cases_lt n kept.below) [
    | inr l ↦ record { rest = b.rest; is_rest = rest_from n b.rest l b.is_rest; col = b.col; leads = b.leads; told = b.told; none = b.none }
    | inl l ↦ elim (decided m columns table converts kept true n l) [
      | inr isnt ↦ let leads = b.leads in absurd (leads.here (nothing_left n l isnt b.rest b.is_rest b.col))
      | inl is ↦
          let f = true.forward n l is in
          let same : SameRow m b.rest (kept.rows n) = rest_unique m columns table S (sums_table m columns table converts kept) converts n b.rest
          (kept.rows n) b.is_rest (kept_rest n l f) in
          let one : b.col ≡ f.col = lead_unique m b.rest (kept.rows n) b.col f.col same b.leads (kept_leads n f) in
          let told : residue ≡ 1 % m = sym b.told ∙ same b.col ∙ ap (λ x. kept.rows n x % m) one ∙ kept_one n f in
          absurd (b.none (1, ap (λ x. (x * 1) % m) told ∙ ap (λ x. x % m) (omega arith) ∙ same-mod m 1))
    ]
  ]

  pub unbroken_to : (n : ℕ) → IsUnbroken m columns V n → IsUnbroken m columns S n
  unbroken_to n whole k l residue b = whole k l residue (broken_from k residue b)

  -- work that is not broken over what is offered is not broken over the listed relations
  pub unbroken_from : (n : ℕ) → IsUnbroken m columns S n → IsUnbroken m columns V n
  unbroken_from n whole k l residue b = elim (cases_lt k kept.below) [
    | inl low ↦ true.unbroken k low residue b
    | inr high ↦ whole k l residue (broken_to k residue high b)
  ]

  pub breaks_first_from : (n residue : ℕ) → BreaksFirst m columns S n residue → BreaksFirst m columns V n residue
  breaks_first_from n residue (b, whole) = (broken_from n residue b, unbroken_from n whole)
