-- The final rows of pages of work are sums of its forward rows, and so are their combinations.
use Rattle.std.specs.Prelude.{◌≡◌, ℕ, zero, suc, ◌+◌, ◌*◌, ◌/◌, ◌%◌, ◌<◌, Some, List, [], ◌∷◌, ◌++◌, length, slice_get, get_or}
use Rattle.std.proofs.Common.{refl, sym, ◌∙◌, ap, subst, inl, inr, arith}
use Rattle.std.specs.List.{Contains}
use Rattle.std.proofs.lemmas.List.{append-nil}
use Rattle.std.proofs.lemmas.List.Elements.{Contains-append_cases, Contains-append_left, Contains-append_right, Contains-get_or}
use Rattle.std.proofs.lemmas.Option.{slice_get_within, get_or_from_slice_get}
use Rattle.linear_model.specs.Rows.{combination, SameRow, InSpan}
use Rattle.linear_model.proofs.Spans.{row_in_span}
use Rattle.linear_model.proofs.RowSpans.{same_in_row_span}
use Rattle.column_order.specs.Columns.{ColumnList}
use Rattle.column_order.proofs.Distinct.{Contains-from_map, Contains-map}
use Rattle.table_model.specs.Conversion.{Converts}
use Rattle.table_model.specs.ListedSpan.{count_of}
use Rattle.table_model.specs.ReducedRows.{IsReducedRows, IsForwardRow, IsUnbroken}
use Rattle.table_model.proofs.ForwardRowLaws.{accepted_has_forward_row}
use Rattle.page_codec.specs.declared.params.Params.{Params}
use Rattle.page_codec.specs.declared.parts.ForwardEntry.{ForwardEntry}
use Rattle.page_codec.specs.declared.parts.FinalEntry.{FinalEntry}
use Rattle.page_codec.specs.declared.page.Page.{Page}
use Rattle.page_codec.specs.declared.page.Page.TheVariants.{Header, Done}
use Rattle.page_codec.specs.Places.{block_count}
use Rattle.file_model.specs.TableOf.{IsTableOf}
use Rattle.file_model.specs.Pages.{Work, IsWork, pairs_of, IsRecorded, IsForwardBlock, AreForwardPages, AreFinalPages, ArePages, forward_page, final_page}
use Rattle.file_model.specs.Pages.ArePages.{none, begun, whole}
use Rattle.file_model.specs.Resuming.{entries_of_page, entries_of}
use Rattle.file_model.specs.FinalRows.{finals_of_page, finals_of, no_entry, no_forward_entry, IsSumOfForward}
use Rattle.file_model.proofs.ForwardSpans.{reduced_in_span}
use Rattle.file_model.proofs.Recorded.{pairs_same, recorded_same, recorded_upto, recorded_written, recorded_combination, recorded_zero}
use Rattle.file_model.proofs.WrittenRows.{recorded_unique}
use Rattle.file_model.proofs.ListPlaces.{place_of}
use Rattle.file_model.proofs.KeptPages.{entries_of-append}
use Rattle.file_model.proofs.CompleteFiles.{finals_of-append}
use Rattle.file_model.proofs.SealedBlocks.{behind_first_page}

-- what pages hold, one after the other
module _ {X : Type 0} (of : Page → List X) (all : List Page → List X) (nothing : all [] ≡ [])
    (next : (p : Page) (ps : List Page) → all (p ∷ ps) ≡ of p ++ all ps) where
  on_page : (ps : List Page) (x : X) → Contains (all ps) x → (k : ℕ) × (page : Page) × (slice_get ps k ≡ Some page) × Contains (of page) x
  on_page [] x c = let (i, l, at) = subst (λ xs. Contains xs x) nothing c in absurd (omega (arith, l))
  on_page (p ∷ ps) x c = elim (Contains-append_cases (of p) (all ps) x (subst (λ xs. Contains xs x) (next p ps) c)) [
    | inl here ↦ (0, p, refl, here)
    | inr later ↦ let (k, page, at, held) = on_page ps x later in (suc k, page, behind_first_page k p ps page at, held)
  ]

  from_page : (ps : List Page) (k : ℕ) (page : Page) → slice_get ps k ≡ Some page → (x : X) → Contains (of page) x → Contains (all ps) x
  from_page [] k page at x c = absurd (let l : k < 0 = slice_get_within [] k page at in omega (arith, l))
  from_page (p ∷ ps) zero page at x c =
      let same : page ≡ p = sym (get_or_from_slice_get (p ∷ ps) 0 page p at) in
      subst (λ xs. Contains xs x) (sym (next p ps)) (Contains-append_left (of p) (all ps) x (subst (λ q. Contains (of q) x) same c))
  from_page (p ∷ ps) (suc k) page at x c =
      let l : suc k < length (p ∷ ps) = slice_get_within (p ∷ ps) (suc k) page at in
      let there : slice_get ps k ≡ Some page = place_of ps k page (omega (arith, l)) (get_or_from_slice_get (p ∷ ps) (suc k) page page at) in
      subst (λ xs. Contains xs x) (sym (next p ps)) (Contains-append_right (of p) (all ps) x (from_page ps k page there x c))

  none_on : (ps : List Page) → ((k : ℕ) (page : Page) → slice_get ps k ≡ Some page → of page ≡ []) → all ps ≡ []
  none_on [] h = nothing
  none_on (p ∷ ps) h = next p ps ∙ ap (λ xs. xs ++ all ps) (h 0 p refl) ∙ none_on ps (λ k page at. h (suc k) page (behind_first_page k p ps page at))

no_finals : (m : ℕ) (columns : ColumnList) (work : Work) (n : ℕ) (f : List Page) → AreForwardPages m columns work n f → finals_of f ≡ []
no_finals m columns work n f h = none_on finals_of_page finals_of refl (λ p ps. refl) f (λ k page at.
    let (es, place, block) = h.each k (let l : k < length f = slice_get_within f k page at in omega (arith, l, h.as_many)) in
    ap finals_of_page (sym (get_or_from_slice_get f k page page at) ∙ get_or_from_slice_get f k (forward_page (64 * k) es) page place))

-- entry i of the last is a sum of the others, row and combination
abbrev IsSumOf : ℕ → List ForwardEntry → List FinalEntry → ℕ → Type 0
IsSumOf m es fs i = (times : ℕ → ℕ)
    × SameRow m (pairs_of ((get_or fs i no_entry).row)) (combination (length es) (λ j. pairs_of ((get_or es j no_forward_entry).row)) times)
    × SameRow m (pairs_of ((get_or fs i no_entry).combination)) (combination (length es) (λ j. pairs_of ((get_or es j no_forward_entry).combination)) times)

module _ (params : Params) (columns : ColumnList) (of : IsTableOf params columns) (converts : Converts params.modulus columns) (work : Work)
    (is_work : IsWork params.modulus columns work) (un : IsUnbroken params.modulus columns work.sums (count_of columns))
    (f : List Page) (forward : AreForwardPages params.modulus columns work (block_count (count_of columns)) f) where
  abbrev m : ℕ
  m = params.modulus

  abbrev N : ℕ
  N = count_of columns

  abbrev Es : List ForwardEntry
  Es = entries_of f

  abbrev entry : ℕ → ForwardEntry
  entry j = get_or Es j no_forward_entry

  abbrev F : ℕ → ℕ → ℕ
  F j = pairs_of (entry j).row

  abbrev G : ℕ → ℕ → ℕ
  G j = pairs_of (entry j).combination

  -- the block of an entry
  of_block : (e : ForwardEntry) → Contains Es e → (b : ℕ) × (es : List ForwardEntry) × Contains es e × IsForwardBlock m columns work b es
  of_block e c =
      let (k, page, at, held) = on_page entries_of_page entries_of refl (λ p ps. refl) f e c in
      let (es, place, block) = forward.each k (let l : k < length f = slice_get_within f k page at in omega (arith, l, forward.as_many)) in
      let same : page ≡ forward_page (64 * k) es =
      sym (get_or_from_slice_get f k page page at) ∙ get_or_from_slice_get f k (forward_page (64 * k) es) page place in
      (k, es, subst (λ p. Contains (entries_of_page p) e) same held, block)

  entry_recorded : (j : ℕ) → j < length Es → IsRecorded m columns work N (F j) (G j)
  entry_recorded j l =
      let e : ForwardEntry = entry j in
      let (b, es, (i, li, at), block) = of_block e (Contains-get_or Es j no_forward_entry l) in
      let (is, from, to, few) = (block.whole e.number).0 (Contains-map (λ (x : ForwardEntry). x.number) es e (i, li, at)) in
      let (p, row) = accepted_has_forward_row m columns of.table work.sums is_work.sums converts e.number (un e.number few) is in
      recorded_upto m columns work N (suc e.number) (omega (arith, few)) (F j) (G j)
      (recorded_written m columns work (suc e.number) p e.row e.combination (block.rows i e (place_of es i e li at) p row))

  forward_there : (k : ℕ) (p : ℕ → ℕ) → k < N → IsForwardRow m columns work.sums k p → InSpan m (length Es) F p
  forward_there k p l row =
      let leads = row.leads in
      let (es, page, block) = forward.each (k / 64) (omega (arith, l)) in
      let numbered = (block.whole k).1 ((row.rest, row.is_rest, λ z. leads.here (z row.col)), omega arith, omega arith, l) in
      let (e, (i, li, at), same) = Contains-from_map (λ (x : ForwardEntry). x.number) es k numbered in
      let written = block.rows i e (place_of es i e li at) p (subst (λ x. IsForwardRow m columns work.sums x p) (sym same) row) in
      let (j, lj, place) = from_page entries_of_page entries_of refl (λ p ps. refl) f (k / 64) (forward_page (64 * (k / 64)) es) page e (i, li, at) in
      let own : entry j ≡ e = get_or_from_slice_get Es j e no_forward_entry (place_of Es j e lj place) in
      same_in_row_span m (length Es) F p (F j) (λ q. pairs_same m p e.row written.is_row q ∙ ap (λ (x : ForwardEntry). pairs_of x.row q % m) (sym own))
      (row_in_span m (length Es) F j lj)

  sum_recorded : (times : ℕ → ℕ) → IsRecorded m columns work N (combination (length Es) F times) (combination (length Es) G times)
  sum_recorded times =
      recorded_same m columns work N (λ q. 0 * 0 + combination (length Es) F times q) (combination (length Es) F times)
      (λ q. 0 * 0 + combination (length Es) G times q) (combination (length Es) G times)
      (λ q. ap (λ x. x % m) (omega arith)) (λ q. ap (λ x. x % m) (omega arith))
      (recorded_combination m columns work is_work N 0 (λ _. 0) (λ _. 0) (recorded_zero m columns work is_work N) (length Es) F G times entry_recorded)

  module _ (count : ℕ) (lead : ℕ → ℕ) (rows : ℕ → ℕ → ℕ) (reduced : IsReducedRows m columns work.sums N count lead rows) (g : List Page)
      (final : AreFinalPages m columns work count rows g) where
    final_follows : (i : ℕ) → i < length (finals_of g) → IsSumOf m Es (finals_of g) i
    final_follows i l =
        let e : FinalEntry = get_or (finals_of g) i no_entry in
        let (k, page, at, held) = on_page finals_of_page finals_of refl (λ p ps. refl) g e (Contains-get_or (finals_of g) i no_entry l) in
        let (es, place, block) = final.each k (slice_get_within g k page at) in
        let same : page ≡ final_page (64 * k) es =
        sym (get_or_from_slice_get g k page page at) ∙ get_or_from_slice_get g k (final_page (64 * k) es) page place in
        let (j, lj, there) = subst (λ p. Contains (finals_of_page p) e) same held in
        let written = block.rows_are j e (place_of es j e lj there) in
        let (times, is) = reduced_in_span m columns of.table work.sums is_work.sums converts N un (length Es) F forward_there count lead rows reduced
        (64 * k + j) (omega (arith, lj, block.as_many)) in
        let row : SameRow m (pairs_of e.row) (combination (length Es) F times) = λ q.
        sym (pairs_same m (rows (64 * k + j)) e.row written.is_row q) ∙ is q in (
          times,
          row,
          recorded_unique m columns work is_work of.table converts N un (pairs_of e.row) (pairs_of e.combination) (combination (length Es) G times)
              (recorded_written m columns work N (rows (64 * k + j)) e.row e.combination written)
              (recorded_same m columns work N (combination (length Es) F times) (pairs_of e.row) (combination (length Es) G times)
              (combination (length Es) G times) (λ q. sym (row q)) (λ q. refl) (sum_recorded times)),
        )

    no_forward : entries_of g ≡ []
    no_forward = none_on entries_of_page entries_of refl (λ p ps. refl) g (λ k page at.
        let (es, place, block) = final.each k (slice_get_within g k page at) in
        ap entries_of_page (sym (get_or_from_slice_get g k page page at) ∙ get_or_from_slice_get g k (final_page (64 * k) es) page place))

    abbrev Whole : List Page
    Whole = Header params ∷ (f ++ (g ++ Done count ∷ []))

    entries_are : entries_of Whole ≡ Es
    entries_are = entries_of-append f (g ++ Done count ∷ [])
        ∙ ap (λ es. Es ++ es) (entries_of-append g (Done count ∷ []) ∙ ap (λ es. es ++ []) no_forward) ∙ append-nil Es

    finals_are : finals_of Whole ≡ finals_of g
    finals_are = finals_of-append f (g ++ Done count ∷ []) ∙ ap (λ es. es ++ finals_of (g ++ Done count ∷ []))
        (no_finals m columns work (block_count N) f forward)
        ∙ finals_of-append g (Done count ∷ []) ∙ append-nil (finals_of g)

    whole_follows : (i : ℕ) → i < length (finals_of Whole) → IsSumOfForward m Whole i
    whole_follows i l =
        let (times, row, combined) = subst (λ es. IsSumOf m es (finals_of Whole) i) (sym entries_are)
        (subst (λ fs. IsSumOf m Es fs i) (sym finals_are) (final_follows i (omega (arith, l, ap length finals_are)))) in
        record { times = times; row = row; combined = combined }

-- each final row of pages of work is a sum of their forward rows
pub final_rows_follow : (params : Params) (columns : ColumnList) (work : Work) → IsWork params.modulus columns work → IsTableOf params columns
    → (pages : List Page) → ArePages params columns work pages → (i : ℕ) → i < length (finals_of pages) → IsSumOfForward params.modulus pages i
final_rows_follow params columns work is_work of pages (none a x) i l = absurd (omega (arith, l, ap (λ ps. length (finals_of ps)) x))
final_rows_follow params columns work is_work of pages (begun c n r few b f hf x) i l =
    absurd (omega (arith, l, ap (λ ps. length (finals_of ps)) x, ap length (no_finals params.modulus columns work (n / 64) f hf)))
final_rows_follow params columns work is_work of pages (whole c un count lead rows reduced f g hf hg x) i l =
    subst (λ ps. IsSumOfForward params.modulus ps i) (sym x)
    (whole_follows params columns of c work is_work un f hf count lead rows reduced g hg i (omega (arith, l, ap (λ ps. length (finals_of ps)) x)))
