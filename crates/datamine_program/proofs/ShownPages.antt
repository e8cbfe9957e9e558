-- The pages of a file, one after the other, and what is told of a file whose table is not shown.
use Rattle.std.proofs.Common.{◌≡◌, ℕ, ◌+◌, ◌<◌, ◌≤◌, false, List, [], ◌∷◌, ◌++◌, length, take, Option, Some, None, refl, sym, ap, subst, ◌∙◌, slice_get, append-nil, append_assoc, add-one, take-suc, take_all, inl, inr, zero, suc, rules, arith}
use Rattle.std.proofs.lemmas.List.{nil_from_length}
use Rattle.std.proofs.Math.Nat.{eq-or-lt_of_le}
use Rattle.std.proofs.lemmas.List.Concat.{flat_map-append}
use Rattle.std.proofs.lemmas.Option.{slice_get_within, get_or_from_slice_get}
use Rattle.std.specs.Prelude.{Result, Ok, Err, OnOk, is_err, IfSome}
use Rattle.outside_io.specs.Causes.{Rose}
use Rattle.outside_io.specs.Traces.{Trace}
use Rattle.page_codec.specs.declared.parts.FinalEntry.{FinalEntry}
use Rattle.page_codec.specs.declared.page.Page.{Page}
use Rattle.page_file.specs.Notes.{Notes, Suits, count_of, params_of}
use Rattle.page_codec.specs.Places.{FitsPlace, WalkAt, walk_of}
use Rattle.page_file.specs.Files.{IsForeign, IsBadPage, IsSealed, ReadsAs}
use Rattle.page_file.specs.declared.fault.FileFault.{FileFault}
use Rattle.page_file.specs.declared.fault.FileFault.TheVariants as reading
use Rattle.page_codec.specs.declared.params.Params.{Params}
use Rattle.page_codec.specs.Bounds.{IsParams}
use Rattle.page_file.proofs.Reading.{suits_count}
use Rattle.column_order.specs.Columns.{ColumnList}
use Rattle.file_model.specs.TableOf.{IsTableOf}
use Rattle.relation_list.specs.Listings.{listing_of}
use Rattle.relation_list.proofs.ListingLengths.{listing-small}
use Rattle.zeta_model.proofs.WordListLaws.{length-admissible_within}
use Rattle.zeta_model.specs.declared.Letter.{Letter}
use Rattle.table_model.specs.Faults.{IsFirstWithout}
use Rattle.table_model.specs.ListedSpan.{relation_count}
use Rattle.file_model.specs.FinalRows.{finals_of, finals_of_page}
use Rattle.file_model.specs.Builds.{FitsAt, FitsOwn}
use Rattle.file_model.proofs.CompleteFiles.{finals_of-append}
use Rattle.whole_runs.specs.declared.status.Status.TheVariants as status
use Rattle.whole_runs.specs.FileTexts.{row_line, row_lines, table_lines}
use Rattle.whole_runs.specs.FileWorks.{IsShow}
use Rattle.whole_runs.specs.FileWorks.IsShow.{shown}
use Rattle.whole_runs.specs.Works.Work.{Writes}
use Rattle.datamine_program.specs.declared.table_file.ShowFault.{ShowFault}
use Rattle.datamine_program.specs.declared.table_file.ShowFault.TheVariants as shows
use Rattle.datamine_program.specs.Inner.{reading_fault, IsBehind, IsPageFault, IsShowFault, ShowsAll, without_header}
use Rattle.table_texts.specs.Texts.{head_text}

module _ (before now : ℕ) (told : Option Trace) where
  -- looking at the file failed
  pub not_opened : (fault : FileFault) → (fault ≡ reading.DiskFault → Rose before now)
      → ((n : ℕ) → fault ≡ reading.Foreign n → IfSome told (λ t. IsForeign t.now.contents × (n ≡ length t.now.contents)))
      → ((i : ℕ) → fault ≡ reading.BadPage i → IfSome told (λ t. (¬ (IsForeign t.now.contents)) × IsBadPage i t.now.contents))
      → IsShowFault (Rose before now) told (reading_fault fault)
  not_opened reading.DiskFault disk other bad = disk refl
  not_opened (reading.Foreign n) disk other bad = other n refl
  not_opened (reading.BadPage i) disk other bad = bad i refl
  not_opened (reading.Memory e) disk other bad = tt

  -- reading page i failed
  pub not_read : (walk : WalkAt) (i : ℕ) (fault : FileFault) → (fault ≡ reading.DiskFault → Rose before now) → ((n : ℕ) → ¬ (fault ≡ reading.Foreign n))
      → ((n : ℕ) → fault ≡ reading.BadPage n → told ≡ None) → IsPageFault (Rose before now) told walk i (reading_fault fault)
  not_read walk i reading.DiskFault disk other bad = disk refl
  not_read walk i (reading.Foreign n) disk other bad = other n refl
  not_read walk i (reading.BadPage n) disk other bad = bad n refl
  not_read walk i (reading.Memory e) disk other bad = tt

-- the page at place i does not fit
pub misfit : (before now : ℕ) (told : Option Trace) (walk : WalkAt) (i : ℕ) (page : Page)
    → IfSome told (λ t. (pages : List Page) → IsSealed pages t.now.contents → slice_get pages i ≡ Some page)
    → ((before : List Page) → IsBehind walk before → ¬ (FitsPlace walk.params walk.relations before page))
    → IsPageFault (Rose before now) told walk i (shows.Misplaced i)
misfit before now None walk i page found not = (refl, tt)
misfit before now (Some t) walk i page found not = (refl, (λ pages behind sealed is. (page, found pages sealed, not behind is)))

-- the names of a table are few
pub few_names : (params : Params) → IsParams params → length (listing_of params.weight params.depth) ≤ 1179648
few_names params fits =
    listing-small params.weight params.depth fits.weight_to
    (omega (arith, length-admissible_within params.weight params.depth fits.weight_from, fits.columns))

-- the first i pages were gone over, and the lines of their rows stand behind the head
pub record HasShown (told : Option Trace) (params : Params) (columns : List (List (List Letter))) (head : List ℕ) (i : ℕ) (walk : WalkAt) (lines : List ℕ) :
    Type 0 where
  pub before : List Page
  pub walk_is : walk ≡ walk_of params (relation_count params.weight params.depth) before
  pub lines_are : lines ≡ head ++ row_lines params.modulus columns (finals_of before)
  pub pages_are : IfSome told (λ t. (pages : List Page) → IsSealed pages t.now.contents → (before ≡ take i pages) × ((k : ℕ) → k < i → FitsAt params pages k))

same_params : (p q : Params) → Some p ≡ Some q → p ≡ q
same_params p q e = cc

-- a rise since later is one since earlier
pub rose_since : (a b c : ℕ) → a ≤ b → Rose b c → Rose a c
rose_since a b c early rose = omega arith

map_told : {A : Type 0} (told : Option A) (P Q : A → Type 0) → ((t : A) → P t → Q t) → IfSome told P → IfSome told Q
map_told None P Q goes h = tt
map_told (Some t) P Q goes h = goes t h

pub nothing_shown : (told : Option Trace) (params : Params) (columns : List (List (List Letter))) (head : List ℕ) (walk : WalkAt)
    → walk ≡ walk_of params (relation_count params.weight params.depth) [] → HasShown told params columns head 0 walk head
nothing_shown told params columns head walk is = record {
  before = [];
  walk_is = is;
  lines_are = sym (append-nil head);
  pages_are = first told;
}
  where
    first : (o : Option Trace) → IfSome o (λ t. (pages : List Page) → IsSealed pages t.now.contents → ([] ≡ take 0 pages) × ((k : ℕ) → k < 0 → FitsAt params pages k))
    first None = tt
    first (Some t) = λ pages sealed. (refl, λ k below. absurd (omega arith))

row_lines-append : (m : ℕ) (columns : List (List (List Letter))) (ps : List Page) (page : Page)
    → row_lines m columns (finals_of (ps ++ page ∷ [])) ≡ row_lines m columns (finals_of ps) ++ row_lines m columns (finals_of_page page)
row_lines-append m columns ps page =
    ap (row_lines m columns) (finals_of-append ps (page ∷ []) ∙ ap (λ es. finals_of ps ++ es) (append-nil (finals_of_page page)))
    ∙ flat_map-append (λ (e : FinalEntry). row_line m columns e.row) (finals_of ps) (finals_of_page page)

head-lines : (params : Params) (columns : List (List (List Letter))) (pages : List Page)
    → head_text params (length pages) ++ row_lines params.modulus columns (finals_of pages) ≡ table_lines params columns pages
head-lines params columns pages = search (rules, append_assoc)

same_page : (p q : Page) → Some p ≡ Some q → p ≡ q
same_page p q e = cc

take-at : (pages : List Page) (i : ℕ) (page : Page) → slice_get pages i ≡ Some page → take (i + 1) pages ≡ take i pages ++ page ∷ []
take-at pages i page at =
    ap (λ k. take k pages) (add-one i) ∙ take-suc pages i page (slice_get_within pages i page at)
    ∙ ap (λ p. take i pages ++ p ∷ []) (get_or_from_slice_get pages i page page at)

-- a page that is gone over is the next one
module _ (told : Option Trace) (params : Params) (columns : List (List (List Letter))) (head : List ℕ) (i : ℕ) (walk : WalkAt) (lines : List ℕ)
    (so_far : HasShown told params columns head i walk lines) where
  walk_params : walk.params ≡ params
  walk_params = ap (λ (w : WalkAt). w.params) so_far.walk_is

  walk_relations : walk.relations ≡ relation_count params.weight params.depth
  walk_relations = ap (λ (w : WalkAt). w.relations) so_far.walk_is

  pub stands_behind : IsBehind walk so_far.before
  stands_behind = so_far.walk_is ∙ (λ j. walk_of (sym walk_params j) (sym walk_relations j) so_far.before)

  pub fits_place : (page : Page) → FitsPlace walk.params walk.relations so_far.before page
      → FitsPlace params (relation_count params.weight params.depth) so_far.before page
  fits_place page fits =
      subst (λ n. FitsPlace params n so_far.before page) walk_relations (subst (λ p. FitsPlace p walk.relations so_far.before page) walk_params fits)

  module _ (page : Page) (walk_new : WalkAt) (lines_new : List ℕ)
      (sealed : IfSome told (λ t. (pages : List Page) → IsSealed pages t.now.contents → slice_get pages i ≡ Some page))
      (fits : (before : List Page) → IsBehind walk before
      → FitsPlace walk.params walk.relations before page × (walk_new ≡ walk_of walk.params walk.relations (before ++ page ∷ []))) where
    step : FitsPlace walk.params walk.relations so_far.before page × (walk_new ≡ walk_of walk.params walk.relations (so_far.before ++ page ∷ []))
    step = fits so_far.before stands_behind

    pub fits_there : FitsPlace params (relation_count params.weight params.depth) so_far.before page
    fits_there = fits_place page step.0

    at_place : (pages : List Page) → slice_get pages i ≡ Some page → so_far.before ≡ take i pages → FitsAt params pages i
    at_place pages at same = λ other there.
        subst (λ p. FitsPlace params (relation_count params.weight params.depth) (take i pages) p) (same_page page other (sym at ∙ there))
        (subst (λ ps. FitsPlace params (relation_count params.weight params.depth) ps page) same fits_there)

    each_place : (pages : List Page) → slice_get pages i ≡ Some page → so_far.before ≡ take i pages → ((k : ℕ) → k < i → FitsAt params pages k)
        → (k : ℕ) → k < i + 1 → FitsAt params pages k
    each_place pages at same earlier k below = let upto : k ≤ i = omega arith in elim (eq-or-lt_of_le upto) [
      | inl here ↦ subst (FitsAt params pages) (sym here) (at_place pages at same)
      | inr less ↦ earlier k less
    ]

    pub more_shown : lines_new ≡ lines ++ row_lines params.modulus columns (finals_of_page page) → HasShown told params columns head (i + 1) walk_new lines_new
    more_shown written = record {
      before = so_far.before ++ page ∷ [];
      walk_is = step.1 ∙ (λ j. walk_of (walk_params j) (walk_relations j) (so_far.before ++ page ∷ []));
      lines_are = written ∙ ap (λ text. text ++ row_lines params.modulus columns (finals_of_page page)) so_far.lines_are
          ∙ append_assoc head (row_lines params.modulus columns (finals_of so_far.before)) (row_lines params.modulus columns (finals_of_page page))
          ∙ ap (λ text. head ++ text) (sym (row_lines-append params.modulus columns so_far.before page));
      pages_are = next told sealed so_far.pages_are;
    }
      where
        next : (o : Option Trace) → IfSome o (λ t. (pages : List Page) → IsSealed pages t.now.contents → slice_get pages i ≡ Some page)
            → IfSome o (λ t. (pages : List Page) → IsSealed pages t.now.contents → (so_far.before ≡ take i pages) × ((k : ℕ) → k < i → FitsAt params pages k))
            → IfSome o (λ t. (pages : List Page) → IsSealed pages t.now.contents
            → (so_far.before ++ page ∷ [] ≡ take (i + 1) pages) × ((k : ℕ) → k < i + 1 → FitsAt params pages k))
        next None at earlier = tt
        next (Some t) at earlier = λ pages is.
            let before = earlier pages is in
            (ap (λ ps. ps ++ page ∷ []) before.0 ∙ sym (take-at pages i page (at pages is)), each_place pages (at pages is) before.0 before.1)

  -- all pages were gone over
  pub all_shown : ((t : Trace) (pages : List Page) → told ≡ Some t → IsSealed pages t.now.contents → length pages ≤ i)
      → IfSome told (λ t. (pages : List Page) → IsSealed pages t.now.contents → ShowsAll params columns pages head lines)
  all_shown few = at_end told few so_far.pages_are
    where
      at_end : (o : Option Trace) → ((t : Trace) (pages : List Page) → o ≡ Some t → IsSealed pages t.now.contents → length pages ≤ i)
          → IfSome o (λ t. (pages : List Page) → IsSealed pages t.now.contents → (so_far.before ≡ take i pages) × ((k : ℕ) → k < i → FitsAt params pages k))
          → IfSome o (λ t. (pages : List Page) → IsSealed pages t.now.contents → ShowsAll params columns pages head lines)
      at_end None short earlier = tt
      at_end (Some t) short earlier = λ pages is.
          let before = earlier pages is in
          let all : length pages ≤ i = short t pages refl is in
          record {
            fit = λ k below. before.1 k (omega arith);
            lines_are = so_far.lines_are ∙ ap (λ ps. head ++ row_lines params.modulus columns (finals_of ps)) (before.0 ∙ take_all i pages all);
          }

  moved : (page : Page) → FitsPlace params (relation_count params.weight params.depth) so_far.before page
      → FitsPlace walk.params walk.relations so_far.before page
  moved page fits =
      subst (λ p. FitsPlace p walk.relations so_far.before page) (sym walk_params) (subst (λ n. FitsPlace params n so_far.before page) (sym walk_relations) fits)

  -- a page that is not gone over
  pub not_gone_over : (start before now : ℕ) (notes : Notes) → start ≤ before → IfSome told (λ t. Suits notes t.now.contents) → notes.params ≡ Some params
      → i < count_of notes → (fault : ShowFault) → IsPageFault (Rose before now) told walk i fault → IsShowFault (Rose start now) told fault
  not_gone_over start before now notes early suits header within shows.DiskFault rose = rose_since start before now early rose
  not_gone_over start before now notes early suits header within (shows.Foreign n) none = absurd none
  not_gone_over start before now notes early suits header within (shows.BadPage n) none =
      subst (λ o. IfSome o (λ t. (¬ (IsForeign t.now.contents)) × IsBadPage n t.now.contents)) (sym none) tt
  not_gone_over start before now notes early suits header within (shows.Misplaced n) h =
      subst (λ k. IfSome told (λ t. (pages : List Page) × ReadsAs pages t.now.contents × IsFirstWithout (FitsOwn pages) (length pages) k)) (sym h.0)
      (here told suits h.1 so_far.pages_are)
    where
      here : (o : Option Trace) → IfSome o (λ t. Suits notes t.now.contents)
          → IfSome o (λ t. (pages before : List Page) → IsSealed pages t.now.contents → IsBehind walk before
          → (page : Page) × (slice_get pages i ≡ Some page) × ¬ (FitsPlace walk.params walk.relations before page))
          → IfSome o (λ t. (pages : List Page) → IsSealed pages t.now.contents → (so_far.before ≡ take i pages) × ((k : ℕ) → k < i → FitsAt params pages k))
          → IfSome o (λ t. (pages : List Page) × ReadsAs pages t.now.contents × IsFirstWithout (FitsOwn pages) (length pages) i)
      here None a b d = tt
      here (Some t) suit none gone =
          let pages = suit.pages in
          let reads = suit.reads in
          let own : params_of pages ≡ Some params = sym (suit.are_notes.params) ∙ header in
          let before = gone pages reads.sealed in
          let found = none pages so_far.before reads.sealed stands_behind in (
            pages,
            reads,
            record {
              below = slice_get_within pages i found.0 found.1;
              lacks = λ fits. let same : fits.0 ≡ params = same_params fits.0 params (sym fits.1 ∙ own) in found.2 (moved found.0
                  (subst (λ ps. FitsPlace params (relation_count params.weight params.depth) ps found.0) (sym before.0)
                  (subst (λ p. FitsAt p pages i) same fits.2 found.0 found.1)));
              earlier = λ k below. (params, own, before.1 k below);
            },
          )
  not_gone_over start before now notes early suits header within shows.NoPage none = absurd none
  not_gone_over start before now notes early suits header within shows.Memory h = tt

-- the lines of a table are the work
pub lines_shown : (told : Option Trace) (notes : Notes) (params : Params) (columns : ColumnList) (head lines : List ℕ)
    → IfSome told (λ t. Suits notes t.now.contents) → notes.params ≡ Some params → IsTableOf params columns → head ≡ head_text params (count_of notes)
    → IfSome told (λ t. (pages : List Page) → IsSealed pages t.now.contents → ShowsAll params columns.list pages head lines)
    → IfSome told (λ t. IsShow t.now.contents (Writes lines status.Done))
lines_shown None notes params columns head lines suits header of begins all = tt
lines_shown (Some t) notes params columns head lines suits header of begins all =
    let pages = suits.pages in
    let reads = suits.reads in
    let notes_are = suits.are_notes in
    let shows_all = all pages reads.sealed in
    let count : count_of notes ≡ length pages = suits_count notes pages t.now.contents suits reads.sealed in
    shown params pages (record { reads = reads; header = sym notes_are.params ∙ header; fit = shows_all.fit }) columns of
    (ap (λ text. Writes text status.Done)
    (shows_all.lines_are ∙ ap (λ text. text ++ row_lines params.modulus columns.list (finals_of pages)) (begins ∙ ap (head_text params) count)
    ∙ head-lines params columns.list pages))

-- a file without a header is not shown
pub headless : (before now : ℕ) (told : Option Trace) (notes : Notes) → IfSome told (λ t. Suits notes t.now.contents) → notes.params ≡ None
    → IsShowFault (Rose before now) told (without_header (count_of notes))
headless before now told notes suits none = at_count (count_of notes) refl
  where
    no_page : (o : Option Trace) → IfSome o (λ t. Suits notes t.now.contents) → count_of notes ≡ 0 → IfSome o (λ t. ReadsAs [] t.now.contents)
    no_page None s e = tt
    no_page (Some t) s e =
        let reads = s.reads in
        let count : count_of notes ≡ length s.pages = suits_count notes s.pages t.now.contents s reads.sealed in
        subst (λ ps. ReadsAs ps t.now.contents) (nil_from_length s.pages (sym count ∙ e)) reads

    first : (n : ℕ) (o : Option Trace) → IfSome o (λ t. Suits notes t.now.contents) → count_of notes ≡ suc n
        → IfSome o (λ t. (pages : List Page) × ReadsAs pages t.now.contents × IsFirstWithout (FitsOwn pages) (length pages) 0)
    first n None s e = tt
    first n (Some t) s e =
        let reads = s.reads in
        let notes_are = s.are_notes in
        let count : count_of notes ≡ length s.pages = suits_count notes s.pages t.now.contents s reads.sealed in (
          s.pages,
          reads,
          record {
            below = omega (arith, count, e);
            lacks = λ fits. let bad : None ≡ Some fits.0 = sym none ∙ notes_are.params ∙ fits.1 in absurd cc;
            earlier = λ k below. absurd (omega arith);
          },
        )

    at_count : (n : ℕ) → count_of notes ≡ n → IsShowFault (Rose before now) told (without_header n)
    at_count zero e = no_page told suits e
    at_count (suc n) e = first n told suits e

-- so many pages are sealed at most
pub few_pages : (told : Option Trace) (notes : Notes) (i : ℕ) → IfSome told (λ t. Suits notes t.now.contents) → count_of notes ≤ i
    → (t : Trace) (pages : List Page) → told ≡ Some t → IsSealed pages t.now.contents → length pages ≤ i
few_pages told notes i suits enough t pages is sealed =
    let here : Suits notes t.now.contents = subst (λ o. IfSome o (λ (u : Trace). Suits notes u.now.contents)) is suits in
    let count : count_of notes ≡ length pages = suits_count notes pages t.now.contents here sealed in
    omega (arith, count, enough)

-- what holds after Ok, where there was no error
pub without_error : {T E : Type 0} (r : Result T E) (P : Type 0) → is_err r ≡ false → OnOk r P → P
without_error (Ok x) P none h = h
without_error (Err x) P none h = absurd cc
