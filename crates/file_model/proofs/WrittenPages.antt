-- What is written of a row and of its combination is what a page may hold.
use Rattle.std.specs.Prelude.{◌≡◌, ℕ, zero, suc, ◌*◌, ◌%◌, ◌^◌, ◌<◌, ◌≤◌, [], ◌∷◌, length}
use Rattle.std.proofs.Common.{refl, sym, ◌∙◌, ap, subst, inl, inr, arith}
use Rattle.std.proofs.Math.Nat.{mod-eq_of_lt}
use Rattle.std.proofs.lemmas.Bool.{cases_lt}
use Rattle.std.proofs.lemmas.Nat.{mod_below}
use Rattle.zeta_model.specs.Modular.{Same}
use Rattle.zeta_model.specs.Sums.{Sum}
use Rattle.zeta_model.proofs.ModularLemmas.{same-mul_left, same-mul_right}
use Rattle.linear_model.specs.Rows.{total, SameRow}
use Rattle.linear_model.proofs.Totals.{total_vanishes}
use Rattle.column_order.specs.Columns.{ColumnList, column_count}
use Rattle.page_codec.specs.declared.params.Params.{Params}
use Rattle.page_codec.specs.Bounds.{IsParams, IsRowData, IsCombData}
use Rattle.page_codec.specs.Places.{AreBelow}
use Rattle.table_model.specs.MonomialWords.{words_of_row, words_of_monomial, column_at}
use Rattle.table_model.specs.Conversion.{Converts, IsOver}
use Rattle.table_model.specs.ListedSpan.{count_of}
use Rattle.table_model.specs.ReducedRows.{IsReducedRows, IsAccepted, IsForwardRow, IsCombination, IsUnbroken}
use Rattle.table_model.proofs.RowWords.{cols_unique}
use Rattle.table_model.proofs.ReducedRowsLaws.{rest_over}
use Rattle.table_model.proofs.ForwardRowLaws.{unbroken_has_rows, accepted_or_not}
use Rattle.file_model.specs.TableOf.{IsTableOf}
use Rattle.file_model.specs.Pages.{Work, IsWork, Pairs, IsPairs, IsWritten}
use Rattle.file_model.proofs.ParamColumns.{columns_are, relations_are, relations_few}
use Rattle.file_model.proofs.PairBounds.{IsBounded, IsWithin, ChainFrom, bounded_chain, bounded_all, bounded_more, chain_length, lead_begins}
use Rattle.file_model.proofs.AcceptedNumbers.{accepted_few}
use Rattle.file_model.proofs.WritableWork.{AreAccepted, IsWritable, combination_accepted}

module _ (params : Params) (fits : IsParams params) (columns : ColumnList) (of : IsTableOf params columns) (converts : Converts params.modulus columns)
    (work : Work) (works : IsWork params.modulus columns work) (writable : IsWritable params.modulus columns work) where
  abbrev pub m : ℕ
  m = params.modulus

  abbrev V : ℕ → Sum
  V = work.sums

  big : 2 < m
  big = let t = of.table in t.modulus

  small : m < 2 ^ 63
  small = fits.modulus_to

  none : 0 % m ≡ 0
  none = mod-eq_of_lt (omega (arith, big))

  columns_few : length columns.list ≤ 2048
  columns_few = let few = fits.columns in omega (arith, few, columns_are params columns of)

  -- a row over the columns that is 1 at its lead
  pub record IsLed (p : ℕ → ℕ) : Type 0 where
    pub lead : ℕ
    pub one : Same m (p lead) 1
    pub before : (j : ℕ) → j < lead → Same m (p j) 0
    pub over : IsOver m columns p

  zero_times : (x b : ℕ) → Same m x 0 → Same m (b * x) 0
  zero_times x b z = same-mul_left m x 0 b z ∙ ap (λ y. y % m) (omega arith)

  pub forward_led : (n : ℕ) (p : ℕ → ℕ) → IsForwardRow m columns V n p → IsLed p
  forward_led n p f = let leads = f.leads in record {
    lead = f.col;
    one = f.is f.col ∙ ap (λ x. x % m) (let e : f.inverse * f.rest f.col ≡ f.rest f.col * f.inverse = omega arith in e) ∙ f.inverts;
    before = λ j l. f.is j ∙ zero_times (f.rest j) f.inverse (leads.before j l);
    over = λ col past. f.is col ∙ zero_times (f.rest col) f.inverse (rest_over m columns of.table V n f.rest f.is_rest col past);
  }

  pub reduced_led : (n count : ℕ) (lead : ℕ → ℕ) (rows : ℕ → ℕ → ℕ) → IsReducedRows m columns V n count lead rows → (i : ℕ) → i < count → IsLed (rows i)
  reduced_led n count lead rows h i l = let r = h.reduced in record {
    lead = lead i;
    one = r.one i l;
    before = λ j lj. r.before i j l lj;
    over = h.over i l;
  }

  -- pairs of a row that is zero from a number on
  pairs_bounded : (high : ℕ) (p : ℕ → ℕ) (pairs : Pairs) → IsPairs m p pairs → ((q : ℕ) → high ≤ q → Same m (p q) 0) → IsBounded high m pairs
  pairs_bounded high p pairs h zeros = record {
    keys = λ q past. sym (h.residues q) ∙ zeros q past ∙ none;
    values = λ q. subst (λ x. x < m) (h.residues q) (mod_below (p q) m (omega (arith, big)));
  }

  row_bounded : (p : ℕ → ℕ) (row : Pairs) → IsLed p → IsPairs m p row → IsBounded (column_count params.weight params.depth) m row
  row_bounded p row led h = pairs_bounded (column_count params.weight params.depth) p row h
      (λ q past. led.over q (omega (arith, past, columns_are params columns of)))

  row_is_data : (p : ℕ → ℕ) (row : Pairs) → IsLed p → IsPairs m p row → IsRowData row
  row_is_data p row led h =
      let bounded : IsBounded 2048 m row = bounded_more (column_count params.weight params.depth) 2048 m row fits.columns (row_bounded p row led h) in
      let chain : ChainFrom 2048 0 row = bounded_chain 2048 m 0 row (omega (arith, big)) small h.row bounded in
      record {
        few = omega (arith, chain_length 2048 0 row chain);
        first = lead_begins m led.lead p row (omega (arith, big)) h led.one led.before;
        pairs =
            chain;
      }

  -- pairs of residues at accepted numbers stand at these
  pairs_accepted : (n : ℕ) (c : ℕ → ℕ) (pairs : Pairs) → IsUnbroken m columns V n → AreAccepted m columns V n c → IsPairs m c pairs
      → IsWithin (λ k. (k < n) × IsAccepted m columns V k) pairs
  pairs_accepted n c pairs un h is q some = elim (cases_lt q n) [
    | inr past ↦ absurd (some (sym (is.residues q) ∙ h.within q past ∙ none))
    | inl l ↦
        let table = of.table in
        let rows = unbroken_has_rows m columns table V works.sums converts q (λ k lk. un k (omega (arith, lk, l))) in
        elim (accepted_or_not m columns table V works.sums converts q rows) [
          | inl accepted ↦ (l, accepted)
          | inr isnt ↦ absurd (some (sym (is.residues q) ∙ h.accepted q isnt ∙ none))
        ]
  ]

  no_words : (t : _) → words_of_row columns.list (λ _. 0) t ≡ 0
  no_words t = no_total (length columns.list) (λ col. words_of_monomial (column_at columns.list col) t)
    where
      no_total : (n : ℕ) (f : ℕ → ℕ) → total n (λ i. 0 * f i) ≡ 0
      no_total zero f = refl
      no_total (suc n) f = omega (arith, no_total n f)

  -- of a row that is 1 somewhere something is written
  combination_some : (n : ℕ) (p c : ℕ → ℕ) (pairs : Pairs) → n ≤ count_of columns → IsLed p → IsCombination m columns V n p c → IsPairs m (work.beside c) pairs
      → 1 ≤ length pairs
  combination_some n p c (e ∷ es) few led h is = omega arith
  combination_some n p c [] few led h is =
      let zeros : (q : ℕ) → Same m (c q) 0 =
      writable.some n c few (combination_accepted m columns V n p c h) (λ q. is.residues q ∙ sym none) in
      let same : SameRow m p (λ _. 0) =
      cols_unique m columns of.table converts (words_of_row columns.list p) p (λ _. 0) (record { over = led.over; words = λ t. refl }) (record {
        over = λ col past. refl;
        words = λ t. ap (λ x. x % m) (no_words t)
            ∙ sym (h.evaluates t ∙ total_vanishes m n (λ i. c i * V i t) (λ i l. same-mul_right m (c i) 0 (V i t) (zeros i) ∙ ap (λ x. x % m) (omega arith)));
      }) in
      let unit : 1 % m ≡ 1 = mod-eq_of_lt (omega (arith, big)) in
      absurd (omega (arith, led.one, same led.lead, unit, none))

  combination_is_data : (n : ℕ) (p c : ℕ → ℕ) (pairs : Pairs) → IsUnbroken m columns V n → n ≤ count_of columns → IsLed p → IsCombination m columns V n p c
      → IsPairs m (work.beside c) pairs → IsCombData pairs
  combination_is_data n p c pairs un few led h is =
      let beside : AreAccepted m columns V n (work.beside c) = writable.beside n c (combination_accepted m columns V n p c h) in
      let small_number : n ≤ 2 ^ 32 = omega (arith, few, relations_are params columns of, relations_few params fits) in
      let bounded : IsBounded (2 ^ 32) m pairs =
      bounded_more n (2 ^ 32) m pairs small_number (pairs_bounded n (work.beside c) pairs is beside.within) in
      record {
        some = combination_some n p c pairs few led h is;
        few = omega (
          arith,
          columns_few,
          accepted_few m columns of.table V works.sums converts n pairs un is.row (pairs_accepted n (work.beside c) pairs un beside is),
        );
        pairs = bounded_chain (2 ^ 32) m 0 pairs (omega (arith, big)) small is.row bounded;
      }

  -- a row and its combination as a page may hold them in a file of the parameters
  pub record IsHeld (n : ℕ) (row combination : Pairs) : Type 0 where
    pub row_data : IsRowData row
    pub combination_data : IsCombData combination
    pub row_in_table : AreBelow (column_count params.weight params.depth) m row
    pub combination_in_table : AreBelow n m combination

  pub written_held : (n : ℕ) (p : ℕ → ℕ) (row combination : Pairs) → IsUnbroken m columns V n → n ≤ count_of columns → IsLed p
      → IsWritten m columns work n p row combination → IsHeld n row combination
  written_held n p row combination un few led w =
      let pairs = w.is_written in let r = w.is_row in
      let beside : AreAccepted m columns V n (work.beside w.coefficients) =
      writable.beside n w.coefficients (combination_accepted m columns V n p w.coefficients w.is_combination) in record {
        row_data = row_is_data p row led w.is_row;
        combination_data = combination_is_data n p w.coefficients combination un few led w.is_combination w.is_written;
        row_in_table = bounded_all (column_count params.weight params.depth) m 0 row (omega (arith, big)) r.row (row_bounded p row led w.is_row);
        combination_in_table = bounded_all n m 0 combination (omega (arith, big)) pairs.row
            (pairs_bounded n (work.beside w.coefficients) combination w.is_written beside.within);
      }
