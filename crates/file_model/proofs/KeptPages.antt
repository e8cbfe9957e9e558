-- What the first pages of the parameters keep is true.
use Rattle.std.specs.Prelude.{◌≡◌, ℕ, zero, suc, ◌+◌, ◌*◌, ◌%◌, ◌<◌, ◌≤◌, ◌⊎◌, if◌then◌else◌, Some, List, [], ◌∷◌, ◌++◌, length, slice_get, get_or}
use Rattle.std.proofs.Common.{refl, sym, ◌∙◌, ap, subst, inl, inr, arith}
use Rattle.std.specs.List.{Contains}
use Rattle.std.proofs.lemmas.Bool.{cases_eq, cases_lt, ne_eqb, eq-eqb}
use Rattle.std.proofs.lemmas.List.{append_assoc}
use Rattle.std.proofs.lemmas.List.Elements.{Contains-append_left, Contains-append_right, Contains-append_cases}
use Rattle.std.proofs.lemmas.Option.{slice_get_past, slice_get_read, get_or_from_slice_get}
use Rattle.zeta_model.specs.Sums.{Sum}
use Rattle.zeta_model.proofs.ModularLemmas.{same-mod}
use Rattle.linear_model.specs.Rows.{total, SameRow}
use Rattle.column_order.specs.Columns.{ColumnList}
use Rattle.column_order.proofs.Distinct.{Contains-from_map, Contains-map, Contains-head}
use Rattle.relation_list.specs.Listings.{listing_of}
use Rattle.table_model.specs.Conversion.{IsTable, Converts}
use Rattle.table_model.specs.ListedSpan.{InSumSpan, listed_value, value_where, values_of, count_of, relation_count}
use Rattle.table_model.specs.ReducedRows.{IsAccepted, IsBrokenAt, IsForwardRow, IsCombination, IsUnbroken}
use Rattle.table_model.proofs.CompleteRows.{listed_value-table}
use Rattle.table_model.proofs.ReducedRowsLaws.{rest_zero}
use Rattle.table_model.proofs.SumSpans.{same-sum_combination}
use Rattle.table_model.proofs.RowWords.{same-words_of_row}
use Rattle.table_model.proofs.ForwardRowLaws.{accepted_has_forward_row}
use Rattle.page_codec.specs.declared.parts.ForwardEntry.{ForwardEntry}
use Rattle.page_codec.specs.declared.page.Page.{Page}
use Rattle.file_model.specs.Pages.{Work, IsPairs, IsWritten, IsForwardBlock, AreForwardPages, listed_work, forward_page, pairs_of}
use Rattle.file_model.specs.Resuming.{entries_of_page, blocks_of_page, entries_of, blocks_of, row_in, combination_in}
use Rattle.file_model.proofs.TrueRows.{IsTrueKept}

pub entries_of-append : (ps qs : List Page) → entries_of (ps ++ qs) ≡ entries_of ps ++ entries_of qs
entries_of-append [] qs = refl
entries_of-append (p ∷ ps) qs = ap (λ es. entries_of_page p ++ es) (entries_of-append ps qs)
    ∙ sym (append_assoc (entries_of_page p) (entries_of ps) (entries_of qs))

pub blocks_of-append : (ps qs : List Page) → blocks_of (ps ++ qs) ≡ blocks_of ps + blocks_of qs
blocks_of-append [] qs = omega arith
blocks_of-append (p ∷ ps) qs = omega (arith, blocks_of-append ps qs)

-- no entry has the number, or one has it that gives row and combination
abbrev pub Found : List ForwardEntry → ℕ → Type 0
Found es n = ((e : ForwardEntry) × Contains es e × (e.number ≡ n) × ((col : ℕ) → row_in es n col ≡ pairs_of e.row col)
    × ((k : ℕ) → combination_in es n k ≡ pairs_of e.combination k))
    ⊎ (((e : ForwardEntry) → Contains es e → ¬ (e.number ≡ n)) × ((col : ℕ) → row_in es n col ≡ 0) × ((k : ℕ) → combination_in es n k ≡ 0))

pub found : (es : List ForwardEntry) (n : ℕ) → Found es n
found [] n = inr (λ e (k, l, at) _. absurd (omega arith), λ col. refl, λ k. refl)
found (e ∷ es) n = elim (cases_eq e.number n) [
  | inl is ↦ inl (
    e,
    Contains-head e es,
    is,
    λ col. ap (λ b. if b then pairs_of e.row col else row_in es n col) (eq-eqb e.number n is),
    λ k. ap (λ b. if b then pairs_of e.combination k else combination_in es n k) (eq-eqb e.number n is),
  )
  | inr ne ↦ further (found es n) (λ col. ap (λ b. if b then pairs_of e.row col else row_in es n col) (ne_eqb e.number n ne))
      (λ k. ap (λ b. if b then pairs_of e.combination k else combination_in es n k) (ne_eqb e.number n ne)) ne
]
  where
    further : Found es n → ((col : ℕ) → row_in (e ∷ es) n col ≡ row_in es n col) → ((k : ℕ) → combination_in (e ∷ es) n k ≡ combination_in es n k)
        → ¬ (e.number ≡ n) → Found (e ∷ es) n
    further (inl (f, c, is, row, combination)) x y ne = inl (f, Contains-append_right (e ∷ []) es f c, is, λ col. x col ∙ row col, λ k. y k ∙ combination k)
    further (inr (none, row, combination)) x y ne = inr (
      λ f c is. elim (Contains-append_cases (e ∷ []) es f c) [
        | inr later ↦ none f later is
        | inl here ↦ ne (ap (λ (g : ForwardEntry). g.number) (only here) ∙ is)
      ],
      λ col. x col ∙ row col,
      λ k. y k ∙ combination k,
    )
      where
        only : {f : ForwardEntry} → Contains (e ∷ []) f → e ≡ f
        only (zero, l, at) = at
        only (suc k, l, at) = absurd (omega arith)

module _ (m : ℕ) (columns : ColumnList) (work : Work) where
  -- pages from block b on
  abbrev pub FromBlock : ℕ → List Page → Type 0
  FromBlock b ps = (k : ℕ) → k < length ps → (es : List ForwardEntry) × (slice_get ps k ≡ Some (forward_page (64 * (b + k)) es))
      × IsForwardBlock m columns work (b + k) es

  -- the first forward pages are pages from block 0 on
  pub from_start : (n : ℕ) (fs : List Page) → AreForwardPages m columns work n fs → FromBlock 0 fs
  from_start n fs h k l =
      let (es, at, is) = h.each k (omega (arith, l, h.as_many)) in
      let same : k ≡ 0 + k = omega arith in
      (es, at ∙ ap (λ x. Some (forward_page (64 * x) es)) same, subst (λ x. IsForwardBlock m columns work x es) same is)

  pub first_page : (b : ℕ) (p : Page) (ps : List Page) → FromBlock b (p ∷ ps)
      → (es : List ForwardEntry) × (p ≡ forward_page (64 * b) es) × IsForwardBlock m columns work b es
  first_page b p ps h =
      let (es, at, is) = h 0 (omega arith) in
      let same : b + 0 ≡ b = omega arith in (
        es,
        get_or_from_slice_get (p ∷ ps) 0 (forward_page (64 * (b + 0)) es) p at ∙ ap (λ x. forward_page (64 * x) es) same,
        subst (λ x. IsForwardBlock m columns work x es) same is,
      )

  pub later_pages : (b : ℕ) (p : Page) (ps : List Page) → FromBlock b (p ∷ ps) → FromBlock (suc b) ps
  later_pages b p ps h k l =
      let (es, at, is) = h (suc k) (omega (arith, l)) in
      let same : b + suc k ≡ suc b + k = omega arith in
      let page : Page = forward_page (64 * (b + suc k)) es in
      let there : get_or ps k page ≡ page = get_or_from_slice_get (p ∷ ps) (suc k) page page at in (
        es,
        slice_get_read ps (length ps) k page refl l (sym there) ∙ ap (λ x. Some (forward_page (64 * x) es)) same,
        subst (λ x. IsForwardBlock m columns work x es) same is,
      )

module _ (m : ℕ) (columns : ColumnList) (table : IsTable m columns) (converts : Converts m columns) where
  abbrev V : ℕ → Sum
  V = values_of m columns

  abbrev W : Work
  W = listed_work m columns

  -- past the last relation nothing is left
  past_in_span : (n : ℕ) → count_of columns ≤ n → InSumSpan m n V (V n)
  unfolding listed_value relation_count
  past_in_span n l = (
    λ _. 0,
    λ t. ap (λ (x : _). value_where m x t % m) (slice_get_past (listing_of columns.weight columns.depth) n l)
        ∙ ap (λ x. x % m) (sym (no_total n (λ i. V i t))),
  )
    where
      no_total : (n : ℕ) (f : ℕ → ℕ) → total n (λ i. 0 * f i) ≡ 0
      no_total zero f = refl
      no_total (suc n) f = omega (arith, no_total n f)

  past_not_accepted : (n : ℕ) → count_of columns ≤ n → ¬ (IsAccepted m columns V n)
  past_not_accepted n l (q, r, some) = some ((rest_zero m columns table V n q r).1 (past_in_span n l))

  past_not_broken : (n residue : ℕ) → count_of columns ≤ n → ¬ (IsBrokenAt m columns V n residue)
  past_not_broken n residue l b = let leads = b.leads in leads.here ((rest_zero m columns table V n b.rest b.is_rest).1 (past_in_span n l) b.col)

  -- the entry is that of an accepted number
  pub record IsEntry (e : ForwardEntry) : Type 0 where
    pub accepted : IsAccepted m columns V e.number
    pub few : e.number < count_of columns
    pub written : (p : ℕ → ℕ) → IsForwardRow m columns V e.number p → IsWritten m columns W (suc e.number) p e.row e.combination

  -- each entry of the pages is that of an accepted number
  pub each_entry : (b : ℕ) (ps : List Page) → FromBlock m columns W b ps → (e : ForwardEntry) → Contains (entries_of ps) e → IsEntry e
  each_entry b [] h e (k, l, at) = absurd (omega arith)
  each_entry b (p ∷ ps) h e c = elim (Contains-append_cases (entries_of_page p) (entries_of ps) e c) [
    | inr later ↦ each_entry (suc b) ps (later_pages m columns W b p ps h) e later
    | inl here ↦
        let (es, at, is) = first_page m columns W b p ps h in
        let (i, l, place) = subst (λ x. Contains (entries_of_page x) e) at here in
        let facts = (is.whole e.number).0 (Contains-map (λ (f : ForwardEntry). f.number) es e (i, l, place)) in
        record { accepted = facts.0; few = facts.3; written = is.rows i e (slice_get_read es (length es) i e refl l (sym place)) }
  ]

  -- each accepted number of their blocks has an entry
  pub each_number : (b : ℕ) (ps : List Page) → FromBlock m columns W b ps → (n : ℕ) → IsAccepted m columns V n → n < count_of columns → 64 * b ≤ n
      → n < 64 * (b + length ps)
      → (e : ForwardEntry) × Contains (entries_of ps) e × (e.number ≡ n)
  each_number b [] h n is few from to = absurd (omega (arith, from, to))
  each_number b (p ∷ ps) h n is few from to = elim (cases_lt n (64 * b + 64)) [
    | inr later ↦
        let (e, c, at) = each_number (suc b) ps (later_pages m columns W b p ps h) n is few (omega (arith, later)) (omega (arith, to)) in
        (e, Contains-append_right (entries_of_page p) (entries_of ps) e c, at)
    | inl low ↦
        let (es, at, page) = first_page m columns W b p ps h in
        let (e, c, same) = Contains-from_map (λ (f : ForwardEntry). f.number) es n ((page.whole n).1 (is, from, low, few)) in
        (e, Contains-append_left (entries_of_page p) (entries_of ps) e (subst (λ x. Contains (entries_of_page x) e) (sym at) c), same)
  ]

  pub blocks_are : (b : ℕ) (ps : List Page) → FromBlock m columns W b ps → blocks_of ps ≡ length ps
  blocks_are b [] h = refl
  blocks_are b (p ∷ ps) h =
      let (es, at, page) = first_page m columns W b p ps h in
      omega (arith, ap blocks_of_page at, blocks_are (suc b) ps (later_pages m columns W b p ps h))

  -- pairs of a row give the row
  pairs_are : (p : ℕ → ℕ) (pairs : List (ℕ × ℕ)) → IsPairs m p pairs → SameRow m (pairs_of pairs) p
  pairs_are p pairs h q = ap (λ x. x % m) (sym (h.residues q)) ∙ same-mod m (p q)

  -- what an entry keeps is a forward row and its combination
  pub entry_forward : (e : ForwardEntry) → IsEntry e → ((residue : ℕ) → ¬ (IsBrokenAt m columns V e.number residue))
      → IsForwardRow m columns V e.number (pairs_of e.row) × IsCombination m columns V (suc e.number) (pairs_of e.row) (pairs_of e.combination)
  entry_forward e is un =
      let (p, f) = accepted_has_forward_row m columns table V (listed_value-table m columns table) converts e.number un is.accepted in
      let w = is.written p f in
      let c = w.is_combination in
      let row : SameRow m (pairs_of e.row) p = pairs_are p e.row w.is_row in
      let combination : SameRow m (pairs_of e.combination) w.coefficients = pairs_are w.coefficients e.combination w.is_written in (
        record { rest = f.rest; is_rest = f.is_rest; col = f.col; leads = f.leads; inverse = f.inverse; inverts = f.inverts; is = λ j. row j ∙ f.is j },
        record {
          accepted = λ k l none. combination k ∙ c.accepted k l none;
          within = λ k l. combination k ∙ c.within k l;
          evaluates = λ t. same-words_of_row m columns (pairs_of e.row) p row t ∙ c.evaluates t
              ∙ same-sum_combination m (suc e.number) V V w.coefficients (pairs_of e.combination) (λ i _. sym (combination i)) (λ i _ t. refl) t;
        },
      )

  -- forward pages from block 0 on keep what is true, where the work is not broken in their blocks
  pub kept_is_true : (ps : List Page) → FromBlock m columns W 0 ps →
      ((k : ℕ) → k < 64 * length ps → k < count_of columns → (residue : ℕ) → ¬ (IsBrokenAt m columns V k residue))
      → IsTrueKept m columns (record { below = 64 * length ps; rows = row_in (entries_of ps); combinations = combination_in (entries_of ps) })
  kept_is_true ps h un = record {
    unbroken = whole;
    forward = λ n l is. rewrite_forward n l is (found (entries_of ps) n);
    combined = λ n l is. rewrite_combined n l is (found (entries_of ps) n);
    none = λ n l isnt col. zero_row n isnt col (found (entries_of ps) n);
    nothing = λ n l isnt k. zero_combination n isnt k (found (entries_of ps) n);
  }
    where
      whole : IsUnbroken m columns V (64 * length ps)
      whole k l residue b = elim (cases_lt k (count_of columns)) [
        | inl few ↦ un k l few residue b
        | inr past ↦ past_not_broken k residue past b
      ]

      -- an accepted number has an entry
      has_entry : (n : ℕ) → n < 64 * length ps → IsAccepted m columns V n → (e : ForwardEntry) × Contains (entries_of ps) e × (e.number ≡ n)
      has_entry n l is = elim (cases_lt n (count_of columns)) [
        | inr past ↦ absurd (past_not_accepted n past is)
        | inl few ↦ each_number 0 ps h n is few (omega arith) (omega (arith, l))
      ]

      row_of_entry : (n : ℕ) (e : ForwardEntry) → n < 64 * length ps → Contains (entries_of ps) e → e.number ≡ n
          → IsForwardRow m columns V n (pairs_of e.row) × IsCombination m columns V (suc n) (pairs_of e.row) (pairs_of e.combination)
      row_of_entry n e l c is =
          subst (λ x. IsForwardRow m columns V x (pairs_of e.row) × IsCombination m columns V (suc x) (pairs_of e.row) (pairs_of e.combination)) is
          (entry_forward e (each_entry 0 ps h e c) (λ residue. whole e.number (omega (arith, l, is)) residue))

      rewrite_forward : (n : ℕ) → n < 64 * length ps → IsAccepted m columns V n → Found (entries_of ps) n
          → IsForwardRow m columns V n (row_in (entries_of ps) n)
      rewrite_forward n l is (inl (e, c, at, row, combination)) = let f = (row_of_entry n e l c at).0 in
          record {
            rest = f.rest;
            is_rest = f.is_rest;
            col = f.col;
            leads = f.leads;
            inverse = f.inverse;
            inverts = f.inverts;
            is =
                λ j. ap (λ x. x % m) (row j) ∙ f.is j;
          }
      rewrite_forward n l is (inr (none, row, combination)) = let (e, c, at) = has_entry n l is in absurd (none e c at)

      rewrite_combined : (n : ℕ) → n < 64 * length ps → IsAccepted m columns V n → Found (entries_of ps) n
          → IsCombination m columns V (suc n) (row_in (entries_of ps) n) (combination_in (entries_of ps) n)
      rewrite_combined n l is (inl (e, c, at, row, combination)) =
          let b = (row_of_entry n e l c at).1 in record {
            accepted = λ k lk none. ap (λ x. x % m) (combination k) ∙ b.accepted k lk none;
            within = λ k lk. ap (λ x. x % m) (combination k) ∙ b.within k lk;
            evaluates = λ t.
                same-words_of_row m columns (row_in (entries_of ps) n) (pairs_of e.row) (λ j. ap (λ x. x % m) (row j)) t ∙ b.evaluates t
                ∙ same-sum_combination m (suc n) V V (pairs_of e.combination) (combination_in (entries_of ps) n)
                (λ i _. ap (λ x. x % m) (sym (combination i))) (λ i _ t. refl) t;
          }
      rewrite_combined n l is (inr (none, row, combination)) = let (e, c, at) = has_entry n l is in absurd (none e c at)

      zero_row : (n : ℕ) → ¬ (IsAccepted m columns V n) → (col : ℕ) → Found (entries_of ps) n → row_in (entries_of ps) n col ≡ 0
      zero_row n isnt col (inl (e, c, at, row, combination)) = let is = each_entry 0 ps h e c in absurd (isnt (subst (IsAccepted m columns V) at is.accepted))
      zero_row n isnt col (inr (none, row, combination)) = row col

      zero_combination : (n : ℕ) → ¬ (IsAccepted m columns V n) → (k : ℕ) → Found (entries_of ps) n → combination_in (entries_of ps) n k ≡ 0
      zero_combination n isnt k (inl (e, c, at, row, combination)) = let is = each_entry 0 ps h e c in
          absurd (isnt (subst (IsAccepted m columns V) at is.accepted))
      zero_combination n isnt k (inr (none, row, combination)) = combination k
