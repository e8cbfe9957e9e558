-- The work that goes on from sealed pages can be written, and the forward pages that are sealed are those of this work.
use Rattle.std.specs.Prelude.{◌≡◌, ℕ, suc, ◌+◌, ◌-◌, ◌*◌, ◌<◌, min, Some, List, [], ◌∷◌, ◌++◌, length, take, slice_get}
use Rattle.std.proofs.Common.{refl, sym, ◌∙◌, ap, subst, arith}
use Rattle.std.specs.List.{AllByRecursion}
use Rattle.std.proofs.lemmas.List.{append_assoc, append-nil}
use Rattle.std.proofs.lemmas.Option.{slice_get_within}
use Rattle.column_order.specs.Columns.{ColumnList}
use Rattle.page_codec.specs.declared.params.Params.{Params}
use Rattle.page_codec.specs.declared.parts.ForwardEntry.{ForwardEntry}
use Rattle.page_codec.specs.declared.page.Page.{Page}
use Rattle.page_codec.specs.Bounds.{IsPage}
use Rattle.page_codec.specs.Places.{block_count, FitsPlace, FitBehind, AllFit}
use Rattle.table_model.specs.Conversion.{Converts}
use Rattle.table_model.specs.ListedSpan.{count_of, relation_count}
use Rattle.file_model.specs.TableOf.{IsTableOf}
use Rattle.file_model.specs.Pages.{forward_page, IsForwardBlock, ArePages}
use Rattle.file_model.specs.Resuming.{Kept, entries_of, blocks_of, row_in, combination_in, kept_of, AllSuit, AreForward, AreKept, resumed_work, IsResumed}
use Rattle.file_model.specs.Builds.{IsOurs}
use Rattle.file_model.proofs.ParamColumns.{same_columns, relations_are}
use Rattle.file_model.proofs.TrueRows.{is_resumed_work}
use Rattle.file_model.proofs.SuitingRows.{going_on_unbroken}
use Rattle.file_model.proofs.KeptStay.{kept_page}
use Rattle.file_model.proofs.NextPages.{next_forward}
use Rattle.file_model.proofs.SealedBlocks.{sealed_blocks, block_page, behind_first_page}
use Rattle.file_model.proofs.KeptRows.{AreOfEntries, rows_forward, rows_of_entries, rows_beside, kept_blocks, sealed_kept}
use Rattle.file_model.proofs.WritableWork.{IsWritable, kept_writable}

fit_behind : (p : Params) (n : ℕ) (before pages : List Page)
    → ((i : ℕ) (page : Page) → slice_get pages i ≡ Some page → FitsPlace p n (before ++ take i pages) page) → FitBehind p n before pages
fit_behind p n before [] h = tt
fit_behind p n before (q ∷ pages) h = (
  subst (λ x. FitsPlace p n x q) (append-nil before) (h 0 q refl),
  fit_behind p n (before ++ q ∷ []) pages (λ i page at.
      subst (λ x. FitsPlace p n x page) (sym (append_assoc before (q ∷ []) (take i pages))) (h (suc i) page (behind_first_page i q pages page at))),
)

module _ (params : Params) (columns : ColumnList) (of : IsTableOf params columns) (bytes : List ℕ) (sealed : List Page) (ours : IsOurs params bytes sealed)
    (suit : AllSuit params.modulus (entries_of sealed)) where
  abbrev m : ℕ
  m = params.modulus

  abbrev N : ℕ
  N = relation_count params.weight params.depth

  pages_are : AllByRecursion IsPage sealed
  pages_are = let reads = ours.reads in let s = reads.sealed in s.each

  all_fit : AllFit params N sealed
  all_fit = fit_behind params N [] sealed (λ i page at. ours.fit i (slice_get_within sealed i page at) page at)

  pub our_rows : (rows : AreForward m columns (kept_of sealed)) × ((b : ℕ) (es : List ForwardEntry) → b < blocks_of sealed
      → slice_get sealed (suc b) ≡ Some (forward_page (64 * b) es) → AreKept m columns (kept_of sealed) rows b es)
  our_rows = sealed_kept params columns of sealed pages_are all_fit suit

  -- in the order of their entries
  pub our_entries : (rows : AreForward m columns (kept_of sealed)) × AreOfEntries m columns (entries_of sealed) (kept_of sealed) rows
  our_entries =
      let h = sealed_blocks params N sealed pages_are all_fit in
      let suits : AllSuit m (entries_of h.blocks) = subst (AllSuit m) h.entries_are suit in
      subst (λ es. (rows : AreForward m columns (kept_of sealed)) × AreOfEntries m columns es (kept_of sealed) rows) (sym h.entries_are)
      (subst (λ k. (rows : AreForward m columns k) × AreOfEntries m columns (entries_of h.blocks) k rows) (kept_blocks params N sealed h)
      (rows_forward params columns of h.blocks h.are suits, rows_of_entries params columns of h.blocks h.are suits))

  -- the first of the blocks, all but for pages behind them
  pub our_blocks : blocks_of sealed ≡ min (length sealed - 1) (block_count N)
  our_blocks = let h = sealed_blocks params N sealed pages_are all_fit in h.blocks_are ∙ h.counted

  pub resumed_writable : Converts m columns → IsWritable m columns (resumed_work m columns (kept_of sealed))
  resumed_writable converts =
      let h = sealed_blocks params N sealed pages_are all_fit in
      let suits : AllSuit m (entries_of h.blocks) = subst (AllSuit m) h.entries_are suit in
      let kept : Kept = record { below = 64 * length h.blocks; rows = row_in (entries_of h.blocks); combinations = combination_in (entries_of h.blocks) } in
      subst (λ k. IsWritable m columns (resumed_work m columns k)) (kept_blocks params N sealed h)
      (kept_writable m columns of.table converts kept (rows_forward params columns of h.blocks h.are suits)
      (rows_beside params columns of h.blocks h.are suits))

  pub our_pages_stay : Converts m columns → (pages : List Page) → IsResumed params sealed pages → (b : ℕ) → b < blocks_of sealed
      → slice_get pages (suc b) ≡ slice_get sealed (suc b)
  our_pages_stay converts pages resumed b l =
      let h = sealed_blocks params N sealed pages_are all_fit in
      let (es, at, within) = block_page params N 0 h.blocks h.are b (omega (arith, l, h.blocks_are)) in
      let start : 0 + b ≡ b = omega arith in
      let page : slice_get sealed (suc b) ≡ Some (forward_page (64 * b) es) =
      h.forward_is b (forward_page (64 * b) es) (at ∙ ap (λ x. Some (forward_page (64 * x) es)) start) in
      let rows : AreForward m columns (kept_of sealed) = our_rows.0 in
      let block : IsForwardBlock m columns (resumed_work m columns (kept_of sealed)) b es =
      kept_page m columns of.table converts (kept_of sealed) rows b es (our_rows.1 b es l page) in
      let moved : ArePages params columns (resumed_work m columns (kept_of sealed)) pages =
      subst (λ c. ArePages params c (resumed_work m c (kept_of sealed)) pages) (same_columns params resumed.columns columns resumed.are_columns of)
      resumed.are_pages in
      let count_is : count_of columns ≡ N = relations_are params columns of in
      let few : 64 * b < count_of columns = omega (arith, within, count_is) in
      next_forward params columns (resumed_work m columns (kept_of sealed)) (is_resumed_work m columns of.table converts (kept_of sealed)) of converts b few
      pages moved (λ k lk _. going_on_unbroken m columns of.table converts (kept_of sealed) rows k (omega (arith, lk, l))) es block
      ∙ sym page
