-- The pages of work that can be written are pages, and each fits its place; so are those of parameters.
use Rattle.std.specs.Prelude.{◌≡◌, ◌⊎◌, ℕ, suc, ◌+◌, ◌-◌, ◌*◌, ◌/◌, ◌<◌, ◌≤◌, min, Some, List, [], ◌∷◌, ◌++◌, length, slice_get}
use Rattle.std.proofs.Common.{refl, sym, ◌∙◌, ap, subst, inl, inr, arith}
use Rattle.std.specs.List.{AllByRecursion}
use Rattle.std.specs.List.Sorted.{IsStrictlySortedBy}
use Rattle.std.specs.Ordering.{nat_cmp, MatchOrdering}
use Rattle.std.specs.Cmp.{ranks}
use Rattle.std.specs.declared.cmp.Ordering.TheVariants.{Less}
use Rattle.std.proofs.lemmas.List.{append_assoc, append-nil, length-append}
use Rattle.std.proofs.lemmas.Option.{slice_get_within}
use Rattle.column_order.specs.Columns.{ColumnList, column_count}
use Rattle.page_codec.specs.declared.params.Params.{Params}
use Rattle.page_codec.specs.declared.parts.ForwardEntry.{ForwardEntry}
use Rattle.page_codec.specs.declared.parts.FinalEntry.{FinalEntry}
use Rattle.page_codec.specs.declared.parts.FinalPage.{FinalPage}
use Rattle.page_codec.specs.declared.page.Page.{Page}
use Rattle.page_codec.specs.declared.page.Page.TheVariants.{Header, Done}
use Rattle.page_codec.specs.Bounds.{IsParams, IsRowData, IsCombData, AreForward, AreFinal, IsPage}
use Rattle.page_codec.specs.Places.{AreBelow, block_count, row_count, FitsPlace, FitBehind, AllFit, EndsForward, EndsFinal, ForwardInTable, FinalInTable}
use Rattle.page_codec.specs.Inner.{rows_on}
use Rattle.page_codec.proofs.Walking.{row_count-push}
use Rattle.table_model.specs.Conversion.{Converts}
use Rattle.table_model.specs.ListedSpan.{count_of, relation_count}
use Rattle.table_model.specs.ReducedRows.{IsReducedRows, IsBrokenAt, IsUnbroken}
use Rattle.table_model.proofs.ForwardRowLaws.{accepted_has_forward_row}
use Rattle.file_model.specs.TableOf.{IsTableOf}
use Rattle.file_model.specs.Pages.{Work, IsWork, forward_page, final_page, numbers_of, IsForwardBlock, IsFinalBlock, AreFinalPages, ArePages, listed_work}
use Rattle.file_model.specs.Pages.ArePages.{none, begun, whole}
use Rattle.file_model.specs.Prefixes.{IsPages}
use Rattle.file_model.proofs.ListPlaces.{all_from_get, all_append, all_weaker}
use Rattle.file_model.proofs.SamePages.{number_stands}
use Rattle.file_model.proofs.KeptPages.{FromBlock, from_start, first_page, later_pages}
use Rattle.file_model.proofs.CompleteFiles.{FromPage, first_final, later_finals}
use Rattle.file_model.proofs.ParamColumns.{columns_are, relations_are, relations_few}
use Rattle.file_model.proofs.AcceptedNumbers.{counted_few}
use Rattle.file_model.proofs.WritableWork.{IsWritable, is_listed_work, listed_writable}
use Rattle.file_model.proofs.WrittenPages.{IsHeld, written_held, forward_led, reduced_led}

-- entries with such numbers that rise are those of a page
forward_chain : (low high : ℕ) (es : List ForwardEntry) → IsStrictlySortedBy nat_cmp (numbers_of es)
    → AllByRecursion (λ n. (low ≤ n) × (n < high)) (numbers_of es)
    → AllByRecursion (λ (e : ForwardEntry). IsRowData e.row × IsCombData e.combination) es → AreForward low high es
unfolding IsStrictlySortedBy
forward_chain low high [] rising within each = tt
forward_chain low high (e ∷ es) rising within each = (
  record { from = within.0.0; below = within.0.1; row = each.0.0; combination = each.0.1 },
  forward_chain (e.number + 1) high es rising.1 (behind (numbers_of es) rising.0 within.1) each.1,
)
  where
    behind : (ns : List ℕ) → AllByRecursion (λ n. nat_cmp e.number n ≡ Less) ns → AllByRecursion (λ n. (low ≤ n) × (n < high)) ns
        → AllByRecursion (λ n. (e.number + 1 ≤ n) × (n < high)) ns
    behind [] less all = tt
    behind (n ∷ ns) less all =
        let l : e.number < n = subst (λ r. MatchOrdering r (e.number < n) (e.number ≡ n) (n < e.number)) less.0 (ranks e.number n) in
        ((omega (arith, l), all.0.1), behind ns less.1 all.1)

chain_few : (low high : ℕ) (es : List ForwardEntry) → AreForward low high es → length es ≤ high - low
chain_few low high [] c = omega arith
chain_few low high (e ∷ es) c =
    let h = c.0 in
    let from : low ≤ e.number = h.from in
    let below : e.number < high = h.below in
    omega (arith, from, below, chain_few (e.number + 1) high es c.1)

final_chain : (es : List FinalEntry) → AllByRecursion (λ (e : FinalEntry). IsRowData e.row × IsCombData e.combination) es → AreFinal es
final_chain [] each = tt
final_chain (e ∷ es) each = (record { row = each.0.0; combination = each.0.1 }, final_chain es each.1)

module _ (params : Params) (fits : IsParams params) (columns : ColumnList) (of : IsTableOf params columns) (converts : Converts params.modulus columns)
    (work : Work) (works : IsWork params.modulus columns work) (writable : IsWritable params.modulus columns work) where
  abbrev m : ℕ
  m = params.modulus

  abbrev N : ℕ
  N = relation_count params.weight params.depth

  count_is : count_of columns ≡ N
  count_is = relations_are params columns of

  few_relations : N ≤ 1179648
  few_relations = relations_few params fits

  -- the work is not broken in block b
  abbrev SoundBlock : ℕ → Type 0
  SoundBlock b = (k : ℕ) → k < 64 * b + 64 → k < count_of columns → (residue : ℕ) → ¬ (IsBrokenAt m columns work.sums k residue)

  module _ (b : ℕ) (es : List ForwardEntry) (starts : 64 * b < N) (block : IsForwardBlock m columns work b es) (un : SoundBlock b) where
    abbrev Facts : ForwardEntry → Type 0
    Facts e = (64 * b ≤ e.number) × (e.number < 64 * b + 64) × (e.number < N)
        × IsHeld params fits columns of converts work works writable (suc e.number) e.row e.combination

    entry_facts : (i : ℕ) (e : ForwardEntry) → slice_get es i ≡ Some e → Facts e
    entry_facts i e at =
        let (is, from, to, few) = (block.whole e.number).0 (number_stands es i e at) in
        let (p, f) = accepted_has_forward_row m columns of.table work.sums works.sums converts e.number
        (un e.number to few) is in
        let below : e.number < N = omega (arith, few, count_is) in
        let held : IsHeld params fits columns of converts work works writable (suc e.number) e.row e.combination =
        written_held params fits columns of converts work works writable (suc e.number) p e.row e.combination
        (λ k l. un k (omega (arith, l, to)) (omega (arith, l, few))) (omega (arith, few)) (forward_led params fits columns of converts work works writable e.number p f) (block.rows i e at p f) in
        (from, to, below, held)

    all_facts : AllByRecursion Facts es
    all_facts = all_from_get Facts es entry_facts

    numbers_within : (xs : List ForwardEntry) → AllByRecursion Facts xs → AllByRecursion (λ n. (64 * b ≤ n) × (n < 64 * b + 64)) (numbers_of xs)
    numbers_within [] h = tt
    numbers_within (x ∷ xs) h = ((h.0.0, h.0.1), numbers_within xs h.1)

    pub forward_is_page : IsPage (forward_page (64 * b) es)
    forward_is_page =
        let held : AllByRecursion (λ (e : ForwardEntry). IsRowData e.row × IsCombData e.combination) es =
        all_weaker Facts (λ (e : ForwardEntry). IsRowData e.row × IsCombData e.combination)
        (λ e h. let parts = h.3 in (parts.row_data, parts.combination_data)) es all_facts in
        let chain : AreForward (64 * b) (64 * b + 64) es =
        forward_chain (64 * b) (64 * b + 64) es block.increasing (numbers_within es all_facts) held in
        record {
          first = omega arith;
          fits = omega (arith, starts, few_relations);
          few = omega (arith, chain_few (64 * b) (64 * b + 64) es chain);
          entries = chain;
        }

    pub forward_in_table : AllByRecursion (ForwardInTable params N) es
    forward_in_table = all_weaker Facts (ForwardInTable params N) (λ e h. let held = h.3 in record {
      number = h.2;
      row = held.row_in_table;
      combination = subst (λ k. AreBelow k params.modulus e.combination) (let s : suc e.number ≡ e.number + 1 = omega arith in s) held.combination_in_table;
    }) es all_facts

  -- forward pages from block b on are pages, and fit behind as many pages as are before them
  forward_pages : (b : ℕ) (ps : List Page) → FromBlock m columns work b ps → b + length ps ≤ block_count N
      → ((k : ℕ) → k < 64 * (b + length ps) → k < count_of columns → (residue : ℕ) → ¬ (IsBrokenAt m columns work.sums k residue))
      → AllByRecursion IsPage ps × ((before rest : List Page) → length before ≡ 1 + b → FitBehind params N (before ++ ps) rest → FitBehind params N before
      (ps ++ rest))
  forward_pages b [] h few un = (tt, λ before rest at fit. subst (λ ps. FitBehind params N ps rest) (append-nil before) fit)
  forward_pages b (p ∷ ps) h few un =
      let (es, at, block) = first_page m columns work b p ps h in
      let starts : 64 * b < N = omega (arith, few) in
      let sound : SoundBlock b = λ k l lk residue. un k (omega (arith, l)) lk residue in
      let (pages, fit) = forward_pages (suc b) ps (later_pages m columns work b p ps h) (omega (arith, few)) (λ k l. un k (omega (arith, l))) in (
        (subst IsPage (sym at) (forward_is_page b es starts block sound), pages),
        λ before rest size behind.
            let place : FitsPlace params N before (forward_page (64 * b) es) = record {
              behind_header = omega (arith, size);
              within = omega (arith, size, few);
              first = let e : 64 * b ≡ 64 * (length before - 1) = omega (arith, size) in e;
              entries = forward_in_table b es starts block sound;
            } in (
              subst (FitsPlace params N before) (sym at) place,
              fit (before ++ p ∷ []) rest (omega (arith, size, length-append before (p ∷ [])))
                  (subst (λ qs. FitBehind params N qs rest) (sym (append_assoc before (p ∷ []) ps)) behind),
            ),
      )

  module _ (un : IsUnbroken m columns work.sums (count_of columns)) (count : ℕ) (lead : ℕ → ℕ) (rows : ℕ → ℕ → ℕ)
      (reduced : IsReducedRows m columns work.sums (count_of columns) count lead rows) where
    rows_few : count ≤ column_count params.weight params.depth
    rows_few = omega (
      arith,
      columns_are params columns of,
      counted_few m columns of.table work.sums works.sums converts (count_of columns) count (lead, rows, reduced),
    )

    few_columns : column_count params.weight params.depth ≤ 2048
    few_columns = fits.columns

    module _ (i : ℕ) (es : List FinalEntry) (starts : 64 * i < count) (block : IsFinalBlock m columns work count rows i es) where
      abbrev Held : FinalEntry → Type 0
      Held e = IsHeld params fits columns of converts work works writable N e.row e.combination

      final_held : AllByRecursion Held es
      final_held = all_from_get Held es (λ j e at.
          let l : j < length es = slice_get_within es j e at in
          let inside : 64 * i + j < count = omega (arith, l, block.as_many) in
          subst (λ n. IsHeld params fits columns of converts work works writable n e.row e.combination) count_is
          (written_held params fits columns of converts work works writable (count_of columns) (rows (64 * i + j)) e.row e.combination un (omega arith)
          (reduced_led params fits columns of converts work works writable (count_of columns) count lead rows reduced (64 * i + j) inside)
          (block.rows_are j e at)))

      pub final_is_page : IsPage (final_page (64 * i) es)
      final_is_page = record {
        first = omega arith;
        fits = omega (arith, starts, rows_few, few_columns);
        some = omega (arith, starts, block.as_many);
        few = omega (arith, block.as_many);
        entries = final_chain es (all_weaker Held (λ (e : FinalEntry). IsRowData e.row × IsCombData e.combination)
            (λ e h. (h.row_data, h.combination_data)) es final_held);
      }

      pub final_in_table : AllByRecursion (FinalInTable params N) es
      final_in_table = all_weaker Held (FinalInTable params N) (λ e h. record { row = h.row_in_table; combination = h.combination_in_table }) es final_held

    -- what stands before final page i: the forward pages, or a final page, full where more rows follow
    record IsBefore (i : ℕ) (before : List Page) : Type 0 where
      rows_before : row_count before ≡ min count (64 * i)
      last : ((i ≡ 0) × EndsForward N before)
          ⊎ ((q : FinalPage) × EndsFinal before q × (q.first + 64 ≡ 64 * i) × (64 * i < count → length q.entries ≡ 64))

    final_pages : (i : ℕ) (gs : List Page) → FromPage m columns work count rows i gs → length gs ≡ (count - 64 * i + 63) / 64
        → AllByRecursion IsPage gs × ((before : List Page) → IsBefore i before → FitBehind params N before (gs ++ Done count ∷ []))
    final_pages i [] h size = (tt, λ before is. (record { behind = ends before is.last; counted = omega (arith, is.rows_before, size) }, tt))
      where
        ends : (before : List Page) → (((i ≡ 0) × EndsForward N before)
            ⊎ ((q : FinalPage) × EndsFinal before q × (q.first + 64 ≡ 64 * i) × (64 * i < count → length q.entries ≡ 64)))
            → EndsForward N before ⊎ ((q : FinalPage) × EndsFinal before q)
        ends before (inl (first, all)) = inl all
        ends before (inr (q, at, first, full)) = inr (q, at)
    final_pages i (g ∷ gs) h size =
        let (es, at, block) = first_final m columns work count rows i g gs h in
        let starts : 64 * i < count = omega (arith, size) in
        let (pages, fit) = final_pages (suc i) gs (later_finals m columns work count rows i g gs h) (omega (arith, size)) in (
          (subst IsPage (sym at) (final_is_page i es starts block), pages),
          λ before is.
              let place : FitsPlace params N before (final_page (64 * i) es) = record {
                first = behind before starts is.last;
                entries = final_in_table i es starts block;
                rows = omega (arith, is.rows_before, block.as_many, rows_few, starts);
              } in (
                subst (FitsPlace params N before) (sym at) place,
                fit (before ++ g ∷ []) (record {
                  rows_before = row_count-push before g ∙ ap (λ x. row_count before + rows_on x) at ∙ omega (arith, is.rows_before, block.as_many, starts);
                  last = inr (
                    record { first = 64 * i; entries = es },
                    (before, ap (λ x. before ++ x ∷ []) at),
                    omega arith,
                    λ more. omega (arith, block.as_many, more),
                  );
                }),
              ),
        )
      where
        behind : (before : List Page) → 64 * i < count → (((i ≡ 0) × EndsForward N before)
            ⊎ ((q : FinalPage) × EndsFinal before q × (q.first + 64 ≡ 64 * i) × (64 * i < count → length q.entries ≡ 64)))
            → (EndsForward N before × (64 * i ≡ 0)) ⊎ ((q : FinalPage) × EndsFinal before q × (length q.entries ≡ 64) × (64 * i ≡ q.first + 64))
        behind before l (inl (first, all)) = inl (all, omega (arith, first))
        behind before l (inr (q, at, first, full)) = inr (q, at, full l, sym first)

  no_final_rows : (b : ℕ) (ps : List Page) → FromBlock m columns work b ps → row_count ps ≡ 0
  no_final_rows b [] h = refl
  no_final_rows b (p ∷ ps) h =
      let (es, at, block) = first_page m columns work b p ps h in
      ap (λ x. row_count (x ∷ ps)) at ∙ no_final_rows (suc b) ps (later_pages m columns work b p ps h)

  abbrev Placed : List Page → Type 0
  Placed pages = AllByRecursion IsPage pages × AllFit params N pages

  from_first_final : (count : ℕ) (rows : ℕ → ℕ → ℕ) (gs : List Page) → AreFinalPages m columns work count rows gs
      → FromPage m columns work count rows 0 gs
  from_first_final count rows gs h k l =
      let (es, at, is) = h.each k l in
      let same : k ≡ 0 + k = omega arith in
      (es, at ∙ ap (λ x. Some (final_page (64 * x) es)) same, subst (λ x. IsFinalBlock m columns work count rows x es) same is)

  placed : (pages : List Page) → ArePages params columns work pages → Placed pages
  placed pages (none a x) = subst Placed (sym x) (tt, tt)
  placed pages (begun c n r l b fs hf x) =
      let size : length fs ≡ n / 64 = hf.as_many in
      let f = forward_pages 0 fs (from_start m columns work (n / 64) fs hf) (omega (arith, size, l, count_is))
      (λ k lk few. b.1 k (omega (arith, lk, size))) in
      let all : FitBehind params N (Header params ∷ []) (fs ++ []) = f.1 (Header params ∷ []) [] (omega arith) tt in
      subst Placed (sym x) ((fits, f.0), ((refl, refl), subst (FitBehind params N (Header params ∷ [])) (append-nil fs) all))
  placed pages (whole c un count lead rows reduced fs gs hf hg x) =
      let size : length fs ≡ block_count (count_of columns) = hf.as_many in
      let long : length gs ≡ (count - 64 * 0 + 63) / 64 = omega (arith, hg.as_many) in
      let from = from_start m columns work (block_count (count_of columns)) fs hf in
      let f = forward_pages 0 fs from (omega (arith, size, count_is)) (λ k lk few. un k few) in
      let g = final_pages un count lead rows reduced 0 gs (from_first_final count rows gs hg) long in
      let behind : FitBehind params N (Header params ∷ fs) (gs ++ Done count ∷ []) = g.1 (Header params ∷ fs) (record {
        rows_before = no_final_rows 0 fs from ∙ omega arith;
        last = inl (refl, omega (arith, size, count_is));
      }) in
      let done : IsPage (Done count) = omega (arith, rows_few un count lead rows reduced, few_columns un count lead rows reduced) in
      subst Placed (sym x) (
        (fits, all_append IsPage fs (gs ++ Done count ∷ []) f.0 (all_append IsPage gs (Done count ∷ []) g.0 (done, tt))),
        ((refl, refl), f.1 (Header params ∷ []) (gs ++ Done count ∷ []) (omega arith) behind),
      )

-- work on the table of parameters that can be written as far as the table converts
pub work_pages_placed : (params : Params) → IsParams params → (columns : ColumnList) → IsTableOf params columns → (work : Work)
    → (Converts params.modulus columns → IsWork params.modulus columns work) → (Converts params.modulus columns → IsWritable params.modulus columns work)
    → (pages : List Page) → ArePages params columns work pages
    → AllByRecursion IsPage pages × AllFit params (relation_count params.weight params.depth) pages
work_pages_placed params fits columns of work works writable pages (none a x) =
    subst (λ ps. AllByRecursion IsPage ps × AllFit params (relation_count params.weight params.depth) ps) (sym x) (tt, tt)
work_pages_placed params fits columns of work works writable pages (begun c n r l b f hf x) =
    placed params fits columns of c work (works c) (writable c) pages (begun c n r l b f hf x)
work_pages_placed params fits columns of work works writable pages (whole c un count lead rows hr f g hf hg x) =
    placed params fits columns of c work (works c) (writable c) pages (whole c un count lead rows hr f g hf hg x)

-- each page of the parameters is a page, and fits its place
pub pages_placed : (params : Params) → IsParams params → (pages : List Page) → IsPages params pages
    → AllByRecursion IsPage pages × AllFit params (relation_count params.weight params.depth) pages
pages_placed params fits pages h =
    let columns = h.columns in
    let of = h.are_columns in
    work_pages_placed params fits columns of (listed_work params.modulus columns) (λ _. is_listed_work params.modulus columns of.table)
    (λ _. listed_writable params.modulus columns) pages h.are_pages
