-- What is told of a page that was read again.
use Rattle.std.specs.Prelude.{◌≡◌, ◌≢◌, ◌⊎◌, ℕ, zero, suc, ◌+◌, ◌-◌, ◌*◌, ◌/◌, ◌%◌, ◌<◌, Option, Some, None, List, [], ◌∷◌, length, slice_get, get_or, IfSome}
use Rattle.std.proofs.Common.{sym, ◌∙◌, ap, subst, inl, inr, arith}
use Rattle.std.proofs.lemmas.Bool.{cases_lt}
use Rattle.std.proofs.lemmas.List.Elements.{Contains-get_or}
use Rattle.std.proofs.lemmas.Option.{slice_get-get_or}
use Rattle.outside_io.specs.Traces.{Trace}
use Rattle.linear_model.specs.Rows.{combination, SameRow}
use Rattle.page_codec.specs.declared.parts.ForwardEntry.{ForwardEntry}
use Rattle.page_codec.specs.declared.page.Page.{Page}
use Rattle.page_codec.specs.declared.page.Page.TheVariants.{Header, Forward, Final, Done}
use Rattle.page_codec.specs.Bounds.{IsCombData, AreForward, IsPage}
use Rattle.page_rows.specs.Written.{AreResidues}
use Rattle.page_rows.proofs.PagePairs.{combination-residues}
use Rattle.page_file.specs.Files.{IsSealed}
use Rattle.page_file.specs.Notes.{Notes, Suits, count_of}
use Rattle.page_file.proofs.Reading.{suits_count}
use Rattle.echelon.specs.Lists.{entries_of, row_at}
use Rattle.echelon.specs.Offers.{used_at}
use Rattle.file_model.specs.Pages.{forward_page, pairs_of}
use Rattle.file_model.specs.Resuming.{combination_in}
use Rattle.file_model.proofs.KeptPages.{Found, found}
use Rattle.file_model.proofs.ListPlaces.{place_of}
use Rattle.table_build.specs.Inner.{AreRising, IsRun, AreKeptEntries, IsKeptPage, AllKept, between, entries_on, sealed_combination}
use Rattle.table_build.proofs.AddedInTurn.{alike_below}
use Rattle.table_build.proofs.KeptBlocks.{between_at, between_length}
use Rattle.table_build.proofs.SealSteps.{told_one}

abbrev first_on : Page → ℕ
first_on (Header p) = 0
first_on (Forward p) = p.first
first_on (Final p) = 0
first_on (Done rows) = 0

abbrev pub no_entry : ForwardEntry
no_entry = record { number = 0; row = []; combination = [] }

-- the combinations of the entries of a page have the bounds of pages
pub entry_data : (low high : ℕ) (es : List ForwardEntry) → AreForward low high es → (i : ℕ) (e : ForwardEntry) → slice_get es i ≡ Some e
    → IsCombData e.combination
entry_data low high [] chain i e at = let none : None ≡ Some e = at in absurd (cc none)
entry_data low high (x ∷ xs) chain zero e at =
    let same : Some x ≡ Some e = at in
    let is : x ≡ e = cc same in
    let first = chain.0 in
    subst (λ (y : ForwardEntry). IsCombData y.combination) is first.combination
entry_data low high (x ∷ xs) chain (suc i) e at = entry_data (x.number + 1) high xs chain.1 i e at

module _ {E : Type 0} (m : ℕ) (zero_element : E) (value : E → ℕ) (block : ℕ) (numbers : List ℕ) (rows : List (List (ℕ × E))) where
  -- a page that begins elsewhere or has other entries is not that of the rows
  pub other_page : (first : ℕ) (es : List ForwardEntry) (page : Page) → page ≡ forward_page first es
      → (first ≢ 64 * block) ⊎ ¬ (AreKeptEntries m zero_element value numbers rows es) → ¬ (IsKeptPage m zero_element value block numbers rows page)
  other_page first es page is other kept =
      let same : forward_page first es ≡ forward_page (64 * block) kept.entries = sym is ∙ kept.page_is in
      elim other [
        | inl ne ↦ ne (ap first_on same)
        | inr others ↦ others (subst (AreKeptEntries m zero_element value numbers rows) (sym (ap (λ p. entries_on (Some p)) same)) kept.are_kept)
      ]

  pub told_other : (told : Option Trace) (place : ℕ) (found : Page) (first : ℕ) (es : List ForwardEntry) → place ≡ 1 + block → found ≡ forward_page first es
      → (first ≢ 64 * block) ⊎ ¬ (AreKeptEntries m zero_element value numbers rows es)
      → IfSome told (λ t. (pages : List Page) → IsSealed pages t.now.contents → slice_get pages place ≡ Some found)
      → IfSome told (λ t. (pages : List Page) → IsSealed pages t.now.contents → (page : Page) → slice_get pages (1 + block) ≡ Some page
      → ¬ (IsKeptPage m zero_element value block numbers rows page))
  told_other told place found first es at is other ok =
      told_one (λ t. (pages : List Page) → IsSealed pages t.now.contents → slice_get pages place ≡ Some found)
      (λ t. (pages : List Page) → IsSealed pages t.now.contents → (page : Page) → slice_get pages (1 + block) ≡ Some page
      → ¬ (IsKeptPage m zero_element value block numbers rows page)) told
      (λ t known pages sealed page there.
      let same : Some page ≡ Some found = sym there ∙ ap (slice_get pages) (sym at) ∙ known pages sealed in
      let page_is : page ≡ found = cc same in
      other_page first es page (page_is ∙ is) other) ok

  -- the combination beside the number of an entry
  pub combination_at : (es : List ForwardEntry) → AreKeptEntries m zero_element value numbers rows es → AreRising numbers → (g : ℕ → ℕ → ℕ)
      → ((i : ℕ) (e : ForwardEntry) → slice_get es i ≡ Some e → (q : ℕ) → g i q ≡ pairs_of e.combination q) → (i : ℕ) → i < length numbers → (q : ℕ)
      → g i q ≡ combination_in es (get_or numbers i 0) q
  combination_at es kept rising g made i l q = go (found es (get_or numbers i 0))
    where
      inside : i < length es
      inside = omega (arith, l, kept.count)

      go : Found es (get_or numbers i 0) → g i q ≡ combination_in es (get_or numbers i 0) q
      go (inr (nowhere, row, none)) =
          let e : ForwardEntry = get_or es i no_entry in
          let own = kept.each i e (slice_get-get_or es i no_entry inside) in
          absurd (nowhere e (Contains-get_or es i no_entry inside) own.number_is)
      go (inl (e, (k, lk, at), is, row, there)) =
          let place : slice_get es k ≡ Some e = place_of es k e lk at in
          let own = kept.each k e place in
          let same : get_or numbers k 0 ≡ get_or numbers i 0 = sym own.number_is ∙ is in
          let k_is : k ≡ i = elim (cases_lt k i) [
            | inl less ↦ absurd (omega (arith, rising k i less l, same))
            | inr late ↦ elim (cases_lt i k) [
              | inl less ↦ absurd (omega (arith, rising i k less (omega (arith, lk, kept.count)), same))
              | inr early ↦ omega (arith, late, early)
            ]
          ] in
          ap (λ j. g j q) (sym k_is) ∙ made k e place q ∙ sym (there q)

  pub told_combinations : (told : Option Trace) (place : ℕ) (found : Page) (first : ℕ) (es : List ForwardEntry) → place ≡ 1 + block
      → found ≡ forward_page first es → AreKeptEntries m zero_element value numbers rows es → AreRising numbers → (g : ℕ → ℕ → ℕ)
      → ((i : ℕ) (e : ForwardEntry) → slice_get es i ≡ Some e → (q : ℕ) → g i q ≡ pairs_of e.combination q)
      → IfSome told (λ t. (pages : List Page) → IsSealed pages t.now.contents → slice_get pages place ≡ Some found)
      → IfSome told (λ t. (pages : List Page) → IsSealed pages t.now.contents → (i : ℕ) → i < length numbers → (q : ℕ)
      → g i q ≡ combination_in (entries_on (slice_get pages (1 + block))) (get_or numbers i 0) q)
  told_combinations told place found first es at is kept rising g made ok =
      told_one (λ t. (pages : List Page) → IsSealed pages t.now.contents → slice_get pages place ≡ Some found)
      (λ t. (pages : List Page) → IsSealed pages t.now.contents → (i : ℕ) → i < length numbers → (q : ℕ)
      → g i q ≡ combination_in (entries_on (slice_get pages (1 + block))) (get_or numbers i 0) q) told
      (λ t known pages sealed i l q.
      let page : slice_get pages (1 + block) ≡ Some (forward_page first es) = ap (slice_get pages) (sym at) ∙ known pages sealed ∙ ap Some is in
      combination_at es kept rising g made i l q ∙ ap (λ p. combination_in (entries_on p) (get_or numbers i 0) q) (sym page)) ok

-- the residues of the combinations of a page whose entries are kept
pub kept_residues : {E : Type 0} (m : ℕ) (zero_element : E) (value : E → ℕ) (numbers : List ℕ) (rows : List (List (ℕ × E))) (first : ℕ) (es : List ForwardEntry)
    (page : Page) → page ≡ forward_page first es → IsPage page → AreKeptEntries m zero_element value numbers rows es
    → (i : ℕ) (e : ForwardEntry) → slice_get es i ≡ Some e → AreResidues (λ k. k) m e.combination
kept_residues m zero_element value numbers rows first es page is is_page kept i e at =
    let p = subst IsPage is is_page in
    let own = kept.each i e at in
    combination-residues (get_or numbers i 0 + 1) m e.combination (entry_data first (first + 64) es p.entries i e at) own.fits

-- where the page of a block with rows is not theirs, not all are kept
pub told_not_all : {E : Type 0} (m : ℕ) (zero_element : E) (value : E → ℕ) (block done end : ℕ) (numbers : List ℕ) (rows : List (List (ℕ × E))) (notes : Notes)
    (told : Option Trace) → IsRun numbers block done end → done < end → 1 + block < count_of notes → IfSome told (λ t. Suits notes t.now.contents)
    → IfSome told (λ t. (pages : List Page) → IsSealed pages t.now.contents → (page : Page) → slice_get pages (1 + block) ≡ Some page
    → ¬ (IsKeptPage m zero_element value block (between done end numbers) (between done end rows) page))
    → IfSome told (λ t. (pages : List Page) → IsSealed pages t.now.contents → (blocks : ℕ) → block < blocks
    → ¬ (AllKept m zero_element value blocks numbers rows pages))
told_not_all m zero_element value block done end numbers rows notes None run some within suits other = tt
told_not_all m zero_element value block done end numbers rows notes (Some t) run some within suits other = λ pages sealed blocks l all.
    let inside : 1 + block < length pages = omega (arith, within, suits_count notes pages t.now.contents suits sealed) in
    let page : Page = get_or pages (1 + block) (Done 0) in
    let at : slice_get pages (1 + block) ≡ Some page = slice_get-get_or pages (1 + block) (Done 0) inside in
    other pages sealed page at (all block done end l run some page at)

module _ {E : Type 0} (m : ℕ) (value : E → ℕ) (block done end : ℕ) (numbers : List ℕ) (run : IsRun numbers block done end) where
  -- what is added of a block, by what is sealed there
  pub block_added : (pages : List Page) (w : List (ℕ × E)) (rows : List (List (ℕ × E))) (start after : ℕ → ℕ)
      → length rows ≡ length (between done end numbers)
      → ((i : ℕ) → i < length (between done end numbers) → (q : ℕ)
      → row_at value rows i q ≡ combination_in (entries_on (slice_get pages (1 + block))) (get_or (between done end numbers) i 0) q)
      → SameRow m after (λ q. start q + combination (length rows) (row_at value rows) (used_at value (between done end numbers) w) q)
      → SameRow m after (λ q. start q + combination (end - done) (λ i. sealed_combination pages (get_or numbers (done + i) 0))
      (λ i. used_at value numbers w (done + i)) q)
  block_added pages w rows start after count are same q =
      let size : length rows ≡ end - done = count ∙ between_length done end numbers run.within in
      let short : length (between done end numbers) ≡ end - done = between_length done end numbers run.within in
      same q
      ∙ ap (λ x. (start q + x) % m) (ap (λ n. combination n (row_at value rows) (used_at value (between done end numbers) w) q) size
      ∙ alike_below (end - done) (λ i. used_at value (between done end numbers) w i * row_at value rows i q)
      (λ i. used_at value numbers w (done + i) * sealed_combination pages (get_or numbers (done + i) 0) q)
      (λ i l.
      let at : get_or (between done end numbers) i 0 ≡ get_or numbers (done + i) 0 = between_at done end numbers i 0 l in
      let in_block : get_or numbers (done + i) 0 / 64 ≡ block = run.inside (done + i) (omega arith) (omega (arith, l)) in
      let row : row_at value rows i q ≡ sealed_combination pages (get_or numbers (done + i) 0) q =
      are i (omega (arith, l, short)) q ∙ (λ z. combination_in (entries_on (slice_get pages (1 + sym in_block z))) (at z) q) in
      λ z. entries_of value w (at z) * row z))
