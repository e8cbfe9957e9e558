-- The entries of the pages of parameters suit, each behind those before it.
use Rattle.std.specs.Prelude.{◌≡◌, ◌≢◌, ℕ, suc, ◌+◌, ◌-◌, ◌*◌, ◌%◌, ◌<◌, ◌≤◌, cond, eqb, [], ◌∷◌}
use Rattle.std.proofs.Common.{refl, sym, ◌∙◌, ap, subst, inl, inr, arith}
use Rattle.std.proofs.Math.Nat.{mod-eq_of_lt}
use Rattle.std.proofs.lemmas.Bool.{cases_lt, cases_order, eq-eqb}
use Rattle.std.proofs.lemmas.Nat.{mod_below}
use Rattle.zeta_model.specs.Modular.{Same}
use Rattle.zeta_model.specs.Inverses.{HasInverse}
use Rattle.zeta_model.specs.Sums.{Sum}
use Rattle.zeta_model.proofs.ModularLemmas.{same-add, same-mul_left, same-opposite}
use Rattle.linear_model.specs.Rows.{combination, SameRow}
use Rattle.linear_model.specs.Reduced.{IsLead}
use Rattle.linear_model.proofs.ReducedLists.{lead_of_span}
use Rattle.column_order.specs.Columns.{ColumnList}
use Rattle.sparse_rows.specs.Entries.{IsRow}
use Rattle.sparse_rows.proofs.EntryLemmas.{entry_of_before, entry_of_first}
use Rattle.page_codec.specs.declared.parts.ForwardEntry.{ForwardEntry}
use Rattle.table_model.specs.MonomialWords.{words_of_row}
use Rattle.table_model.specs.Conversion.{IsTable, Converts, IsOver}
use Rattle.table_model.specs.ListedSpan.{InSumSpan, values_of}
use Rattle.table_model.specs.ReducedRows.{IsAccepted, IsBrokenAt, IsForwardRow, IsCombination, IsUnbroken}
use Rattle.table_model.proofs.CompleteRows.{listed_value-table}
use Rattle.table_model.proofs.SumSpans.{sum_in_span, sum_span_through}
use Rattle.table_model.proofs.RowWords.{same-words_of_row, combination-over}
use Rattle.table_model.proofs.ReducedRowsLaws.{rest_over}
use Rattle.table_model.proofs.CombinationLaws.{combination_exists, forward_row_listed}
use Rattle.table_model.proofs.ForwardRowLaws.{combination_unique, accepted_has_forward_row, accepted_or_not, unbroken_has_rows}
use Rattle.file_model.specs.Pages.{Work, Pairs, pairs_of, IsRecorded, listed_work}
use Rattle.file_model.specs.Resuming.{lead_of}
use Rattle.file_model.proofs.Recorded.{recorded_more, recorded_sum, recorded_own}
use Rattle.file_model.proofs.KeptPages.{IsEntry, entry_forward}

-- the first pair stands at the first number that is not 0
first_is : (low : ℕ) (es : Pairs) → IsRow (λ k. k) 0 low es → (col : ℕ) → pairs_of es col ≢ 0 → ((j : ℕ) → j < col → pairs_of es j ≡ 0) → lead_of es ≡ col
first_is low [] r col some before = absurd (some refl)
first_is low (e ∷ es) r col some before = elim (cases_order e.0 col) [
  | inl at ↦ at
  | inr o ↦ elim o [
    | inl l ↦ absurd (r.1 (sym (entry_of_first (λ k. k) 0 (λ v. v) low e es r) ∙ before e.0 l))
    | inr l ↦ absurd (some (entry_of_before (λ k. k) 0 (λ v. v) e.0 col (e ∷ es) (omega arith, r.1, r.2) l))
  ]
]

module _ (m : ℕ) (columns : ColumnList) (table : IsTable m columns) (converts : Converts m columns) where
  abbrev V : ℕ → Sum
  V = values_of m columns

  big : 2 < m
  big = table.modulus

  -- an entry of an accepted number up to which the work is not broken
  pub record IsTrueEntry (e : ForwardEntry) : Type 0 where
    pub whole : IsUnbroken m columns V (suc e.number)
    pub accepted : IsAccepted m columns V e.number
    pub forward : IsForwardRow m columns V e.number (pairs_of e.row)
    pub combined : IsCombination m columns V (suc e.number) (pairs_of e.row) (pairs_of e.combination)
    pub row_is : IsRow (λ k. k) 0 0 e.row
    pub row_below : (q : ℕ) → pairs_of e.row q < m
    pub combination_below : (q : ℕ) → pairs_of e.combination q < m

  pub true_entry : (e : ForwardEntry) → IsEntry m columns table converts e → IsUnbroken m columns V (suc e.number) → IsTrueEntry e
  true_entry e is un =
      let whole : (residue : ℕ) → ¬ (IsBrokenAt m columns V e.number residue) = un e.number (omega arith) in
      let (p, f) = accepted_has_forward_row m columns table V (listed_value-table m columns table) converts e.number whole is.accepted in
      let w = is.written p f in
      let row = w.is_row in
      let written = w.is_written in
      let both = entry_forward m columns table converts e is whole in
      record {
        whole = un;
        accepted = is.accepted;
        forward = both.0;
        combined = both.1;
        row_is = row.row;
        row_below = λ q. subst (λ x. x < m) (row.residues q) (mod_below (p q) m (omega (arith, big)));
        combination_below = λ q. subst (λ x. x < m) (written.residues q) (mod_below (w.coefficients q) m (omega (arith, big)));
      }

  residue_is : (x y : ℕ) → Same m x y → x < m → y < m → x ≡ y
  residue_is x y same lx ly = sym (mod-eq_of_lt lx) ∙ same ∙ mod-eq_of_lt ly

  zero_times : (x b : ℕ) → Same m x 0 → Same m (b * x) 0
  zero_times x b z = same-mul_left m x 0 b z ∙ ap (λ y. y % m) (omega arith)

  one_at_lead : (e : ForwardEntry) (t : IsTrueEntry e) → let f = t.forward in pairs_of e.row f.col ≡ 1
  one_at_lead e t =
      let f = t.forward in
      residue_is (pairs_of e.row f.col) 1 (f.is f.col ∙ ap (λ x. x % m) (let c : f.inverse * f.rest f.col ≡ f.rest f.col * f.inverse = omega arith in c)
      ∙ f.inverts) (t.row_below f.col) (omega (arith, big))

  zero_before : (e : ForwardEntry) (t : IsTrueEntry e) (j : ℕ) → (let f = t.forward in j < f.col) → pairs_of e.row j ≡ 0
  zero_before e t j l =
      let f = t.forward in let leads = f.leads in
      residue_is (pairs_of e.row j) 0 (f.is j ∙ zero_times (f.rest j) f.inverse (leads.before j l)) (t.row_below j) (omega (arith, big))

  lead_is : (e : ForwardEntry) (t : IsTrueEntry e) → let f = t.forward in lead_of e.row ≡ f.col
  lead_is e t =
      let f = t.forward in
      first_is 0 e.row t.row_is f.col (λ z. absurd (omega (arith, z, one_at_lead e t))) (zero_before e t)

  pub begins : (e : ForwardEntry) → IsTrueEntry e → pairs_of e.row (lead_of e.row) ≡ 1
  begins e t = ap (pairs_of e.row) (lead_is e t) ∙ one_at_lead e t

  -- a forward row is zero at the lead of an earlier one
  pub clear : (e g : ForwardEntry) → IsTrueEntry e → IsTrueEntry g → g.number < e.number → pairs_of e.row (lead_of g.row) ≡ 0
  clear e g t u l =
      let f = t.forward in
      let h = u.forward in
      let r = f.is_rest in
      let earlier = r.earlier in
      let left = r.left in
      let row : ℕ → ℕ = pairs_of g.row in
      let tables = listed_value-table m columns table in
      let over : IsOver m columns row = λ col past. h.is col ∙ zero_times (h.rest col) h.inverse
      (rest_over m columns table V g.number h.rest h.is_rest col past) in
      let listed : InSumSpan m e.number V (words_of_row columns.list row) =
      sum_span_through m (suc g.number) e.number V V (λ i li. sum_in_span m e.number V i (omega (arith, li, l))) (words_of_row columns.list row)
      (forward_row_listed m columns table V tables converts g.number row h) in
      let leads : IsLead m row h.col = record {
        before = λ j lj. ap (λ x. x % m) (zero_before g u j lj);
        here = λ z. absurd (omega (arith, one_at_lead g u, residue_is (row h.col) 0 z (u.row_below h.col) (omega (arith, big))));
      } in
      let (i, li, at) = lead_of_span m r.count r.lead r.rows earlier.reduced row h.col ((earlier.whole row over).1 listed) leads in
      let none : Same m (f.rest h.col) 0 = subst (λ c. Same m (f.rest c) 0) at (left.zero_at_leads i li) in
      let zero_there : Same m (pairs_of e.row h.col) 0 = f.is h.col ∙ zero_times (f.rest h.col) f.inverse none in
      ap (pairs_of e.row) (lead_is g u) ∙ residue_is (pairs_of e.row h.col) 0 zero_there (t.row_below h.col) (omega (arith, big))

  -- the residue at its own number is the inverse of the lead of the rest
  pub own : (e : ForwardEntry) → IsTrueEntry e → HasInverse m (pairs_of e.combination e.number)
  own e t =
      let n : ℕ = e.number in
      let work : Work = listed_work m columns in
      let tables = listed_value-table m columns table in
      let f = t.forward in
      let r = f.is_rest in
      let value = r.value in
      let left = r.left in
      let earlier = r.earlier in
      let comb : ℕ → ℕ = combination r.count r.rows left.coefficients in
      let below : IsUnbroken m columns V n = λ k l. let un = t.whole in un k (omega (arith, l)) in
      let listed : InSumSpan m n V (words_of_row columns.list comb) =
      (earlier.whole comb (combination-over m columns r.count r.rows left.coefficients earlier.over)).0 (left.coefficients, λ col. refl) in
      let (c, is) = combination_exists m columns table V tables converts n below comb listed in
      let low : IsRecorded m columns work (suc n) comb c =
      recorded_more m columns work n comb c (record { coefficients = c; is_combination = is; written = λ k. refl }) in
      let unit : IsRecorded m columns work (suc n) r.cols (λ k. cond (eqb k n) 1 0) =
      recorded_own m columns work n r.cols t.accepted value.words in
      let sum : IsRecorded m columns work (suc n) (λ col. f.inverse * r.cols col + f.inverse * (m - 1) * comb col)
      (λ k. f.inverse * cond (eqb k n) 1 0 + f.inverse * (m - 1) * c k) =
      recorded_sum m columns work (record { sums = tables; beside = λ a b s. s; linear = λ a b x y j. refl }) (suc n) f.inverse (f.inverse * (m - 1))
      r.cols comb (λ k. cond (eqb k n) 1 0) c unit low in
      let same : SameRow m (pairs_of e.row) (λ col. f.inverse * r.cols col + f.inverse * (m - 1) * comb col) = λ j.
      f.is j
      ∙ same-mul_left m (f.rest j) (r.cols j + comb j * (m - 1)) f.inverse (sym (ap (λ x. x % m) refl
      ∙ same-add m (r.cols j) (f.rest j + comb j) (comb j * (m - 1)) (comb j * (m - 1)) (left.differs j) refl
      ∙ same-opposite m (f.rest j) (comb j) (omega (arith, big))))
      ∙ ap (λ x. x % m) (let d : f.inverse * (r.cols j + comb j * (m - 1)) ≡ f.inverse * r.cols j + f.inverse * (m - 1) * comb j = grind arith in d) in
      let moved = sum.is_combination in
      let other : IsCombination m columns V (suc n) (pairs_of e.row) sum.coefficients = record {
        accepted = moved.accepted;
        within = moved.within;
        evaluates = λ w. same-words_of_row m columns (pairs_of e.row) (λ col. f.inverse * r.cols col + f.inverse * (m - 1) * comb col) same w
            ∙ moved.evaluates w;
      } in
      let agree : Same m (pairs_of e.combination n) (sum.coefficients n) =
      combination_unique m columns table V tables converts (suc n) t.whole (pairs_of e.row) (pairs_of e.combination) sum.coefficients t.combined other n in
      let here : Same m (f.inverse * cond (eqb n n) 1 0 + f.inverse * (m - 1) * c n) f.inverse =
      ap (λ b. (f.inverse * cond b 1 0 + f.inverse * (m - 1) * c n) % m) (eq-eqb n n refl)
      ∙ same-add m (f.inverse * 1) f.inverse (f.inverse * (m - 1) * c n) 0 (ap (λ x. x % m) (omega arith))
      (zero_times (c n) (f.inverse * (m - 1)) (is.within n (omega arith)))
      ∙ ap (λ x. x % m) (omega arith) in
      let inverse : Same m (pairs_of e.combination n) f.inverse = agree ∙ sum.written n ∙ here in (
        f.rest f.col,
        ap (λ x. x % m) (let d : pairs_of e.combination n * f.rest f.col ≡ f.rest f.col * pairs_of e.combination n = omega arith in d)
            ∙ same-mul_left m (pairs_of e.combination n) f.inverse (f.rest f.col) inverse ∙ f.inverts,
      )

  -- where the combination has a number, it is accepted and not past its own
  pub numbers_accepted : (e : ForwardEntry) (t : IsTrueEntry e) (k : ℕ) → pairs_of e.combination k ≢ 0 → (k ≤ e.number) × IsAccepted m columns V k
  numbers_accepted e t k some =
      let c = t.combined in
      let tables = listed_value-table m columns table in
      let zero_is : Same m (pairs_of e.combination k) 0 → pairs_of e.combination k ≡ 0 =
      λ z. residue_is (pairs_of e.combination k) 0 z (t.combination_below k) (omega (arith, big)) in
      elim (cases_lt k (suc e.number)) [
        | inr past ↦ absurd (some (zero_is (c.within k past)))
        | inl l ↦ elim (accepted_or_not m columns table V tables converts k (unbroken_has_rows m columns table V tables converts k
            (λ j lj. let un = t.whole in un j (omega (arith, lj, l))))) [
              | inl is ↦ (omega (arith, l), is)
              | inr isnt ↦ absurd (some (zero_is (c.accepted k l isnt)))
            ]
      ]
