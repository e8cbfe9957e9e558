-- Each block below which work is not broken has a forward page.
use Rattle.std.specs.Prelude.{◌≡◌, ℕ, zero, suc, ◌+◌, ◌-◌, ◌*◌, ◌%◌, ◌<◌, ◌≤◌, ◌↔◌, min, Some, List, [], ◌∷◌, length, map, slice_get, get_or}
use Rattle.std.proofs.Common.{refl, sym, ◌∙◌, ap, subst, inl, inr, arith}
use Rattle.std.specs.List.{AllByRecursion, Contains}
use Rattle.std.specs.List.Sorted.{IsStrictlySortedBy}
use Rattle.std.specs.Ordering.{nat_cmp}
use Rattle.std.specs.Cmp.{nat_cmp_is}
use Rattle.std.specs.declared.cmp.Ordering.TheVariants.{Less}
use Rattle.std.proofs.lemmas.Bool.{cases_eq}
use Rattle.std.proofs.lemmas.List.Elements.{Contains-append_cases}
use Rattle.std.proofs.lemmas.Option.{slice_get_read, slice_get_within, get_or_from_slice_get}
use Rattle.zeta_model.proofs.ModularLemmas.{same-mul_left}
use Rattle.linear_model.specs.Rows.{SameRow}
use Rattle.column_order.specs.Columns.{ColumnList}
use Rattle.column_order.proofs.Distinct.{Contains-head, Contains-tail}
use Rattle.table_model.specs.Conversion.{IsTable, Converts, IsOver}
use Rattle.table_model.specs.ListedSpan.{count_of}
use Rattle.table_model.specs.ReducedRows.{IsAccepted, IsForwardRow, IsUnbroken}
use Rattle.table_model.proofs.RowWords.{same-words_of_row}
use Rattle.table_model.proofs.ReducedRowsLaws.{rest_over}
use Rattle.table_model.proofs.CombinationLaws.{forward_row_listed}
use Rattle.table_model.proofs.ForwardRowLaws.{unbroken_has_rows, accepted_or_not, accepted_has_forward_row, forward_row_unique}
use Rattle.page_codec.specs.declared.parts.ForwardEntry.{ForwardEntry}
use Rattle.file_model.specs.Pages.{Work, IsWork, IsWritten, IsForwardBlock, numbers_of}
use Rattle.file_model.proofs.WritableWork.{IsWritable}
use Rattle.file_model.proofs.SomePairs.{written_exists}

same_written : (m : ℕ) (columns : ColumnList) (work : Work) (n : ℕ) (p q : ℕ → ℕ) (row combination : _) → SameRow m q p
    → IsWritten m columns work n p row combination → IsWritten m columns work n q row combination
same_written m columns work n p q row combination e h =
    let r = h.is_row in let c = h.is_combination in
    record {
      is_row = record { row = r.row; residues = λ k. e k ∙ r.residues k };
      coefficients = h.coefficients;
      is_written = h.is_written;
      is_combination = record { accepted = c.accepted; within = c.within; evaluates = λ t. same-words_of_row m columns q p e t ∙ c.evaluates t };
    }

module _ (m : ℕ) (columns : ColumnList) (table : IsTable m columns) (converts : Converts m columns) (work : Work) (works : IsWork m columns work)
    (writable : IsWritable m columns work) where
  -- the entries of k numbers from low on
  record EntriesFrom (low k : ℕ) : Type 0 where
    entries : List ForwardEntry
    behind : AllByRecursion (λ y. low ≤ y) (numbers_of entries)
    increasing : IsStrictlySortedBy nat_cmp (numbers_of entries)
    numbers : (n : ℕ) → Contains (numbers_of entries) n ↔ (IsAccepted m columns work.sums n × (low ≤ n) × (n < low + k))
    rows : (i : ℕ) (e : ForwardEntry) → slice_get entries i ≡ Some e → (p : ℕ → ℕ) → IsForwardRow m columns work.sums e.number p
        → IsWritten m columns work (suc e.number) p e.row e.combination

  lower : (low high : ℕ) (ns : List ℕ) → low ≤ high → AllByRecursion (λ y. high ≤ y) ns → AllByRecursion (λ y. low ≤ y) ns
  lower low high [] l h = tt
  lower low high (n ∷ ns) l h = (omega (arith, l, h.0), lower low high ns l h.1)

  all_less : (low : ℕ) (ns : List ℕ) → AllByRecursion (λ y. low + 1 ≤ y) ns → AllByRecursion (λ y. nat_cmp low y ≡ Less) ns
  all_less low [] h = tt
  all_less low (n ∷ ns) h = (sym (nat_cmp_is low n Less (omega (arith, h.0))), all_less low ns h.1)

  entries_from : (k low : ℕ) → IsUnbroken m columns work.sums (low + k) → EntriesFrom low k
  unfolding IsStrictlySortedBy
  entries_from zero low un = record {
    entries = [];
    behind = tt;
    increasing = tt;
    numbers = λ n.
        (λ (i, l, at). absurd (omega arith), λ (is, from, to). absurd (omega (arith, from, to)));
    rows = λ i e at. let l = slice_get_within [] i e at in
        absurd (omega (arith, l));
  }
  entries_from (suc k) low un =
      let r : EntriesFrom (low + 1) k = entries_from k (low + 1) (λ j l. un j (omega (arith, l))) in
      let V = work.sums in
      let tables = works.sums in
      let (count, lead, rows, h) = unbroken_has_rows m columns table V tables converts low (λ j l. un j (omega (arith, l))) in
      elim (accepted_or_not m columns table V tables converts low (count, lead, rows, h)) [
        | inr isnt ↦ record {
          entries = r.entries;
          behind = lower low (low + 1) _ (omega arith) r.behind;
          increasing = r.increasing;
          numbers = λ n. (
            λ c. let (is, from, to) = (r.numbers n).0 c in (is, omega (arith, from), omega (arith, to)),
            λ (is, from, to). elim (cases_eq n low) [
              | inl at ↦ absurd (isnt (subst (IsAccepted m columns V) at is))
              | inr ne ↦ (r.numbers n).1 (is, omega (arith, from), omega (arith, to))
            ],
          );
          rows = r.rows;
        }
        | inl is ↦
            let (p, f) = accepted_has_forward_row m columns table V tables converts low (un low (omega arith)) is in
            let over : IsOver m columns p = λ col past. f.is col ∙ same-mul_left m (f.rest col) 0 f.inverse
            (rest_over m columns table V low f.rest f.is_rest col past) ∙ ap (λ x. x % m) (omega arith) in
            let (row, combination, written) = written_exists m columns table converts work works writable (suc low) (λ j l. un j (omega (arith, l))) p over
            (forward_row_listed m columns table V tables converts low p f) in
            let first : ForwardEntry = record { number = low; row = row; combination = combination } in
            let number : ForwardEntry → ℕ = λ e. e.number in
            record {
              entries = first ∷ r.entries;
              behind = (omega arith, lower low (low + 1) _ (omega arith) r.behind);
              increasing = (all_less low _ r.behind, r.increasing);
              numbers = λ n. (
                λ c. elim (Contains-append_cases (low ∷ []) (map number r.entries) n c) [
                  | inr later ↦ let (has, from, to) = (r.numbers n).0 later in (has, omega (arith, from), omega (arith, to))
                  | inl here ↦ let at : low ≡ n = only low n here in (subst (IsAccepted m columns V) at is, omega (arith, at), omega (arith, at))
                ],
                λ (has, from, to). elim (cases_eq low n) [
                  | inl at ↦ subst (Contains (map number (first ∷ r.entries))) at (Contains-head low (map number r.entries))
                  | inr ne ↦ Contains-tail low (map number r.entries) n ((r.numbers n).1 (has, omega (arith, from), omega (arith, to)))
                ],
              );
              rows = λ i. rows_of low first r p f written i;
            }
      ]
    where
      only : (low n : ℕ) → Contains (low ∷ []) n → low ≡ n
      only low n (zero, l, at) = at
      only low n (suc i, l, at) = absurd (omega arith)

      rows_of : (low : ℕ) (first : ForwardEntry) (r : EntriesFrom (low + 1) k) (p : ℕ → ℕ) → IsForwardRow m columns work.sums first.number p
          → IsWritten m columns work (suc first.number) p first.row first.combination
          → (i : ℕ) (e : ForwardEntry) → slice_get (first ∷ r.entries) i ≡ Some e → (q : ℕ → ℕ) → IsForwardRow m columns work.sums e.number q
          → IsWritten m columns work (suc e.number) q e.row e.combination
      rows_of low first r p f written zero e at q g =
          let same : first ≡ e = get_or_from_slice_get (first ∷ r.entries) 0 e first at in
          subst (λ (x : ForwardEntry). IsForwardRow m columns work.sums x.number q
          → IsWritten m columns work (suc x.number) q x.row x.combination) same
          (λ g'. same_written m columns work (suc first.number) p q first.row first.combination
          (forward_row_unique m columns table work.sums works.sums converts first.number q p g' f) written) g
      rows_of low first r p f written (suc i) e at q g =
          let there : get_or r.entries i e ≡ e = get_or_from_slice_get (first ∷ r.entries) (suc i) e e at in
          let l : suc i < length (first ∷ r.entries) = slice_get_within (first ∷ r.entries) (suc i) e at in
          r.rows i e (slice_get_read r.entries (length r.entries) i e refl (omega (arith, l)) (sym there)) q g

  -- a block below which the work is not broken has a page
  pub forward_page_exists : (b : ℕ) → 64 * b < count_of columns → IsUnbroken m columns work.sums (min (64 * b + 64) (count_of columns))
      → (es : List ForwardEntry) × IsForwardBlock m columns work b es
  forward_page_exists b few un =
      let k : ℕ = min (64 * b + 64) (count_of columns) - 64 * b in
      let size : 64 * b + k ≡ min (64 * b + 64) (count_of columns) = omega (arith, few) in
      let r : EntriesFrom (64 * b) k = entries_from k (64 * b) (subst (IsUnbroken m columns work.sums) (sym size) un) in (
        r.entries,
        record {
          increasing = r.increasing;
          whole = λ n. (
            λ c. let (is, from, to) = (r.numbers n).0 c in (is, from, omega (arith, to, size), omega (arith, to, size)),
            λ (is, from, to, low). (r.numbers n).1 (is, from, omega (arith, to, low, size)),
          );
          rows = r.rows;
        },
      )
