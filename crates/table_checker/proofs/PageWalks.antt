-- The pages of a file, gone over one after the other.
use Rattle.std.proofs.Common.{◌≡◌, ℕ, zero, suc, ◌+◌, ◌<◌, ◌≤◌, Bool, List, [], ◌∷◌, ◌++◌, length, take, Option, Some, None, refl, sym, ap, subst, ◌∙◌, slice_get, add-one, take-suc, take_all, inl, inr, arith}
use Rattle.std.specs.Prelude.{IfSome}
use Rattle.std.specs.List.{AllByRecursion}
use Rattle.std.proofs.Math.Nat.{eq-or-lt_of_le}
use Rattle.std.proofs.lemmas.Option.{slice_get_within, get_or_from_slice_get}
use Rattle.std.proofs.lemmas.List.{append-nil}
use Rattle.zeta_model.proofs.WordListLaws.{length-admissible_within}
use Rattle.outside_io.specs.Causes.{Rose}
use Rattle.outside_io.specs.Traces.{Trace}
use Rattle.column_order.specs.Columns.{column_count}
use Rattle.page_codec.specs.declared.params.Params.{Params}
use Rattle.page_codec.specs.declared.parts.FinalEntry.{FinalEntry}
use Rattle.page_codec.specs.declared.page.Page.{Page}
use Rattle.page_codec.specs.declared.page.Page.TheVariants.{Header, Forward, Final, Done}
use Rattle.page_codec.specs.declared.walk.Last.TheVariants.{DonePage}
use Rattle.page_codec.specs.Bounds.{IsParams}
use Rattle.page_codec.specs.Places.{FitsPlace, WalkAt, walk_of, last_of}
use Rattle.page_codec.proofs.Walking.{last_of-push}
use Rattle.page_file.specs.Files.{IsSealed}
use Rattle.page_file.specs.Notes.{Notes, Suits, count_of, params_of}
use Rattle.page_file.specs.declared.fault.FileFault.{FileFault}
use Rattle.page_file.specs.declared.fault.FileFault.TheVariants as reading
use Rattle.page_file.proofs.Reading.{suits_count, suits_params}
use Rattle.relation_list.specs.Listings.{listing_of}
use Rattle.relation_list.proofs.ListingLengths.{listing-small}
use Rattle.table_model.specs.ListedSpan.{relation_count}
use Rattle.file_model.specs.Builds.{FitsAt, FitsOwn}
use Rattle.file_model.specs.FinalRows.{finals_of, finals_of_page, EndsDone}
use Rattle.file_model.proofs.CompleteFiles.{finals_of-append}
use Rattle.file_model.proofs.ListPlaces.{all_append}
use Rattle.table_checker.specs.Checks.{Finds, Misfits, Unfinished, IsRefusal}
use Rattle.table_checker.specs.Inner.{IsBehind, IsPageFault, ClosesWith, IsReadable, AreRowsOf, reading_fault, without_header}
use Rattle.table_checker.specs.declared.fault.CheckFault.{CheckFault}
use Rattle.table_checker.specs.declared.fault.CheckFault.TheVariants as checks
use Rattle.table_checker.proofs.RowsRead.{no_rows, as_many_rows, finals_counted}

-- the names of a table are few
pub few_listed : (params : Params) → IsParams params → length (listing_of params.weight params.depth) ≤ 1179648
few_listed params fits =
    listing-small params.weight params.depth fits.weight_to
    (omega (arith, length-admissible_within params.weight params.depth fits.weight_from, fits.columns))

module _ (before now : ℕ) (told : Option Trace) (walk : WalkAt) (i : ℕ) where
  -- reading page i failed
  pub not_read : (fault : FileFault) → (fault ≡ reading.DiskFault → Rose before now) → ((n : ℕ) → ¬ (fault ≡ reading.Foreign n))
      → ((n : ℕ) → fault ≡ reading.BadPage n → told ≡ None) → IsPageFault (Rose before now) told walk i (reading_fault fault)
  not_read reading.DiskFault disk other bad = disk refl
  not_read (reading.Foreign n) disk other bad = absurd (other n refl)
  not_read (reading.BadPage n) disk other bad = bad n refl
  not_read (reading.Memory e) disk other bad = tt

  -- the page at place i does not fit
  pub misfit : (page : Page) → IfSome told (λ t. (pages : List Page) → IsSealed pages t.now.contents → slice_get pages i ≡ Some page)
      → ((before : List Page) → IsBehind walk before → ¬ (FitsPlace walk.params walk.relations before page))
      → IsPageFault (Rose before now) told walk i (checks.Misfit i)
  misfit page found not = (refl, by told found)
    where
      by : (o : Option Trace) → IfSome o (λ t. (pages : List Page) → IsSealed pages t.now.contents → slice_get pages i ≡ Some page)
          → IfSome o (λ t. (pages before : List Page) → IsSealed pages t.now.contents → IsBehind walk before
          → (page : Page) × (slice_get pages i ≡ Some page) × ¬ (FitsPlace walk.params walk.relations before page))
      by None found = tt
      by (Some t) found = λ pages behind sealed is. (page, found pages sealed, not behind is)

same_params : (p q : Params) → Some p ≡ Some q → p ≡ q
same_params p q e = cc

same_page : (p q : Page) → Some p ≡ Some q → p ≡ q
same_page p q e = cc

take-at : (pages : List Page) (i : ℕ) (page : Page) → slice_get pages i ≡ Some page → take (i + 1) pages ≡ take i pages ++ page ∷ []
take-at pages i page at =
    ap (λ k. take k pages) (add-one i) ∙ take-suc pages i page (slice_get_within pages i page at)
    ∙ ap (λ p. take i pages ++ p ∷ []) (get_or_from_slice_get pages i page page at)

-- the last page is Done exactly where a walk keeps so
done_last : (pages : List Page) → last_of pages ≡ DonePage → EndsDone pages
done_last [] e = absurd (cc e)
done_last (Header p ∷ []) e = absurd (cc e)
done_last (Forward p ∷ []) e = absurd (cc e)
done_last (Final p ∷ []) e = absurd (cc e)
done_last (Done rows ∷ []) e = (rows, [], refl)
done_last (a ∷ b ∷ pages) e = let found = done_last (b ∷ pages) e in (found.0, a ∷ found.1, ap (λ ps. a ∷ ps) found.2)

last_done : (pages : List Page) → EndsDone pages → last_of pages ≡ DonePage
last_done pages ends = ap last_of ends.2 ∙ last_of-push ends.1 (Done ends.0)

-- the first i pages were gone over
pub record HasWalked (told : Option Trace) (params : Params) (i : ℕ) (walk : WalkAt) (before : List Page) : Type 0 where
  pub walk_is : walk ≡ walk_of params (relation_count params.weight params.depth) before
  pub pages_are : IfSome told (λ t. (pages : List Page) → IsSealed pages t.now.contents → (before ≡ take i pages) × ((k : ℕ) → k < i → FitsAt params pages k))

pub nothing_walked : (told : Option Trace) (params : Params) (walk : WalkAt) → walk ≡ walk_of params (relation_count params.weight params.depth) []
    → HasWalked told params 0 walk []
nothing_walked told params walk is = record { walk_is = is; pages_are = first told }
  where
    first : (o : Option Trace) → IfSome o (λ t. (pages : List Page) → IsSealed pages t.now.contents
        → ([] ≡ take 0 pages) × ((k : ℕ) → k < 0 → FitsAt params pages k))
    first None = tt
    first (Some t) = λ pages sealed. (refl, λ k below. absurd (omega arith))

-- a file without a header is refused
pub headless : (before now : ℕ) (told : Option Trace) (header : Option Params) (notes : Notes) → IfSome told (λ t. Suits notes t.now.contents)
    → notes.params ≡ None → IsRefusal (Rose before now) told header (without_header (count_of notes))
headless before now told header notes suits none = at_count (count_of notes) refl
  where
    bare : (t : Trace) (pages : List Page) (i : ℕ) → Suits notes t.now.contents → IsSealed pages t.now.contents → ¬ (FitsOwn pages i)
    bare t pages i s sealed fits =
        let bad : None ≡ Some fits.0 = sym none ∙ suits_params notes pages t.now.contents s sealed ∙ fits.1 in absurd cc

    empty : (pages : List Page) → length pages ≡ 0 → ¬ (EndsDone pages)
    empty [] e ends = let bad : last_of [] ≡ DonePage = last_done [] ends in absurd (cc bad)
    empty (p ∷ ps) e ends = omega (arith, e)

    no_page : (o : Option Trace) → IfSome o (λ t. Suits notes t.now.contents) → count_of notes ≡ 0 → Finds o (Unfinished 0)
    no_page None s e = tt
    no_page (Some t) s e = λ pages sealed.
        let size : length pages ≡ 0 = sym (suits_count notes pages t.now.contents s sealed) ∙ e in
        (sym size, (λ i l. absurd (omega (arith, l, size))), empty pages size)

    first : (n : ℕ) (o : Option Trace) → IfSome o (λ t. Suits notes t.now.contents) → count_of notes ≡ suc n → Finds o (Misfits 0)
    first n None s e = tt
    first n (Some t) s e = λ pages sealed. record {
      below = omega (arith, suits_count notes pages t.now.contents s sealed, e);
      lacks = bare t pages 0 s sealed;
      earlier = λ k below. absurd (omega arith);
    }

    at_count : (n : ℕ) → count_of notes ≡ n → IsRefusal (Rose before now) told header (without_header n)
    at_count zero e = no_page told suits e
    at_count (suc n) e = first n told suits e

module _ (told : Option Trace) (params : Params) (i : ℕ) (walk : WalkAt) (before : List Page) (so_far : HasWalked told params i walk before) where
  walk_params : walk.params ≡ params
  walk_params = ap (λ (w : WalkAt). w.params) so_far.walk_is

  walk_relations : walk.relations ≡ relation_count params.weight params.depth
  walk_relations = ap (λ (w : WalkAt). w.relations) so_far.walk_is

  pub stands_behind : IsBehind walk before
  stands_behind = so_far.walk_is ∙ (λ j. walk_of (sym walk_params j) (sym walk_relations j) before)

  pub fits_place : (page : Page) → FitsPlace walk.params walk.relations before page
      → FitsPlace params (relation_count params.weight params.depth) before page
  fits_place page fits =
      subst (λ n. FitsPlace params n before page) walk_relations (subst (λ p. FitsPlace p walk.relations before page) walk_params fits)

  moved : (page : Page) → FitsPlace params (relation_count params.weight params.depth) before page
      → FitsPlace walk.params walk.relations before page
  moved page fits =
      subst (λ p. FitsPlace p walk.relations before page) (sym walk_params) (subst (λ n. FitsPlace params n before page) (sym walk_relations) fits)

  -- a page that is gone over is the next one
  module _ (page : Page) (walk_new : WalkAt)
      (sealed : IfSome told (λ t. (pages : List Page) → IsSealed pages t.now.contents → slice_get pages i ≡ Some page))
      (fits : (before : List Page) → IsBehind walk before
      → FitsPlace walk.params walk.relations before page × (walk_new ≡ walk_of walk.params walk.relations (before ++ page ∷ []))) where
    step : FitsPlace walk.params walk.relations before page × (walk_new ≡ walk_of walk.params walk.relations (before ++ page ∷ []))
    step = fits before stands_behind

    pub fits_there : FitsPlace params (relation_count params.weight params.depth) before page
    fits_there = fits_place page step.0

    at_place : (pages : List Page) → slice_get pages i ≡ Some page → before ≡ take i pages → FitsAt params pages i
    at_place pages at same = λ other there.
        subst (λ p. FitsPlace params (relation_count params.weight params.depth) (take i pages) p) (same_page page other (sym at ∙ there))
        (subst (λ ps. FitsPlace params (relation_count params.weight params.depth) ps page) same fits_there)

    each_place : (pages : List Page) → slice_get pages i ≡ Some page → before ≡ take i pages → ((k : ℕ) → k < i → FitsAt params pages k)
        → (k : ℕ) → k < i + 1 → FitsAt params pages k
    each_place pages at same earlier k below = let upto : k ≤ i = omega arith in elim (eq-or-lt_of_le upto) [
      | inl here ↦ subst (FitsAt params pages) (sym here) (at_place pages at same)
      | inr less ↦ earlier k less
    ]

    pub walks_on : HasWalked told params (i + 1) walk_new (before ++ page ∷ [])
    walks_on = record {
      walk_is = step.1 ∙ (λ j. walk_of (walk_params j) (walk_relations j) (before ++ page ∷ []));
      pages_are = next told sealed so_far.pages_are;
    }
      where
        next : (o : Option Trace) → IfSome o (λ t. (pages : List Page) → IsSealed pages t.now.contents → slice_get pages i ≡ Some page)
            → IfSome o (λ t. (pages : List Page) → IsSealed pages t.now.contents → (before ≡ take i pages) × ((k : ℕ) → k < i → FitsAt params pages k))
            → IfSome o (λ t. (pages : List Page) → IsSealed pages t.now.contents
            → (before ++ page ∷ [] ≡ take (i + 1) pages) × ((k : ℕ) → k < i + 1 → FitsAt params pages k))
        next None at earlier = tt
        next (Some t) at earlier = λ pages is.
            let first = earlier pages is in
            (ap (λ ps. ps ++ page ∷ []) first.0 ∙ sym (take-at pages i page (at pages is)), each_place pages (at pages is) first.0 first.1)

  module _ (notes : Notes) (suits : IfSome told (λ t. Suits notes t.now.contents)) (header : notes.params ≡ Some params) where
    own : (t : Trace) (pages : List Page) → Suits notes t.now.contents → IsSealed pages t.now.contents → params_of pages ≡ Some params
    own t pages s sealed = sym (suits_params notes pages t.now.contents s sealed) ∙ header

    -- a page that is not gone over
    pub not_gone_over : (start before_read now : ℕ) (asked : Option Params) → start ≤ before_read
        → (fault : CheckFault) → IsPageFault (Rose before_read now) told walk i fault → IsRefusal (Rose start now) told asked fault
    not_gone_over start before_read now asked early checks.DiskFault rose = omega (arith, rose, early)
    not_gone_over start before_read now asked early (checks.BadPage n) none = none
    not_gone_over start before_read now asked early (checks.Misfit n) h =
        subst (λ k. Finds told (Misfits k)) (sym h.0) (here told suits h.1 so_far.pages_are)
      where
        here : (o : Option Trace) → IfSome o (λ t. Suits notes t.now.contents)
            → IfSome o (λ t. (pages before : List Page) → IsSealed pages t.now.contents → IsBehind walk before
            → (page : Page) × (slice_get pages i ≡ Some page) × ¬ (FitsPlace walk.params walk.relations before page))
            → IfSome o (λ t. (pages : List Page) → IsSealed pages t.now.contents → (before ≡ take i pages) × ((k : ℕ) → k < i → FitsAt params pages k))
            → Finds o (Misfits i)
        here None s none gone = tt
        here (Some t) s none gone = λ pages sealed.
            let mine = own t pages s sealed in
            let first = gone pages sealed in
            let found = none pages before sealed stands_behind in
            record {
              below = slice_get_within pages i found.0 found.1;
              lacks = λ fits. let same : fits.0 ≡ params = same_params fits.0 params (sym fits.1 ∙ mine) in found.2 (moved found.0
                  (subst (λ ps. FitsPlace params (relation_count params.weight params.depth) ps found.0) (sym first.0)
                  (subst (λ p. FitsAt p pages i) same fits.2 found.0 found.1)));
              earlier = λ k below. (params, mine, first.1 k below);
            }
    not_gone_over start before_read now asked early (checks.NotDone n) none = absurd none
    not_gone_over start before_read now asked early (checks.NoInverse value word) none = absurd none
    not_gone_over start before_read now asked early (checks.BadRow n) none = absurd none
    not_gone_over start before_read now asked early (checks.NotReduced n) none = absurd none
    not_gone_over start before_read now asked early (checks.Missing n rest) none = absurd none
    not_gone_over start before_read now asked early (checks.Memory e) h = tt

    module _ (enough : count_of notes ≤ i) where
      all_walked : (t : Trace) → Suits notes t.now.contents
          → ((pages : List Page) → IsSealed pages t.now.contents → (before ≡ take i pages) × ((k : ℕ) → k < i → FitsAt params pages k))
          → (pages : List Page) → IsSealed pages t.now.contents → (before ≡ pages) × ((k : ℕ) → k < length pages → FitsAt params pages k)
      all_walked t s gone pages sealed =
          let first = gone pages sealed in
          let size : count_of notes ≡ length pages = suits_count notes pages t.now.contents s sealed in
          let few : length pages ≤ i = omega (arith, size, enough) in
          (first.0 ∙ take_all i pages few, λ k l. first.1 k (omega (arith, l, few)))

      -- all pages were gone over, and the last is not Done
      pub not_done : ¬ (walk.last ≡ DonePage) → Finds told (Unfinished (count_of notes))
      not_done unfinished = by told suits so_far.pages_are
        where
          by : (o : Option Trace) → IfSome o (λ t. Suits notes t.now.contents)
              → IfSome o (λ t. (pages : List Page) → IsSealed pages t.now.contents → (before ≡ take i pages) × ((k : ℕ) → k < i → FitsAt params pages k))
              → Finds o (Unfinished (count_of notes))
          by None s gone = tt
          by (Some t) s gone = λ pages sealed.
              let all = all_walked t s gone pages sealed in (
                suits_count notes pages t.now.contents s sealed,
                (λ k l. (params, own t pages s sealed, all.1 k l)),
                λ ends. unfinished (ap (λ (w : WalkAt). w.last) so_far.walk_is ∙ ap last_of all.0 ∙ last_done pages ends),
              )

      -- or it is
      pub closes : walk.last ≡ DonePage → ClosesWith told params (finals_of before)
      closes done = by told suits so_far.pages_are
        where
          by : (o : Option Trace) → IfSome o (λ t. Suits notes t.now.contents)
              → IfSome o (λ t. (pages : List Page) → IsSealed pages t.now.contents → (before ≡ take i pages) × ((k : ℕ) → k < i → FitsAt params pages k))
              → ClosesWith o params (finals_of before)
          by None s gone = tt
          by (Some t) s gone = λ pages sealed.
              let all = all_walked t s gone pages sealed in (
                record {
                  header = own t pages s sealed;
                  fit = all.1;
                  done = done_last pages (ap last_of (sym all.0) ∙ sym (ap (λ (w : WalkAt). w.last) so_far.walk_is) ∙ done);
                },
                ap finals_of (sym all.0),
              )

-- the first i pages were gone over, and the final rows of these were read
module _ {E : Type 0} (nought : E) (has : E → Bool) (value : E → ℕ) (told : Option Trace) (params : Params) where
  abbrev Readable : FinalEntry → Type 0
  Readable = IsReadable (column_count params.weight params.depth) (relation_count params.weight params.depth) params.modulus

  pub record HasRead (i : ℕ) (walk : WalkAt) (rows combinations : List (List (ℕ × E))) : Type 0 where
    pub before : List Page
    pub walked : HasWalked told params i walk before
    pub are_rows : AreRowsOf nought has value (finals_of before) rows combinations
    pub readable : AllByRecursion Readable (finals_of before)

  pub nothing_read : (walk : WalkAt) (rows combinations : List (List (ℕ × E))) → walk ≡ walk_of params (relation_count params.weight params.depth) []
      → rows ≡ [] → combinations ≡ [] → HasRead 0 walk rows combinations
  nothing_read walk rows combinations is none nor = record {
    before = [];
    walked = nothing_walked told params walk is;
    are_rows = subst (AreRowsOf nought has value [] rows) (sym nor) (subst (λ xs. AreRowsOf nought has value [] xs []) (sym none) (no_rows nought has value));
    readable = tt;
  }

  -- the walk counts them
  pub rows_counted : (i : ℕ) (walk : WalkAt) (rows combinations : List (List (ℕ × E))) → HasRead i walk rows combinations → length rows ≡ walk.rows
  rows_counted i walk rows combinations read =
      let walked = read.walked in
      as_many_rows nought has value (finals_of read.before) rows combinations read.are_rows ∙ finals_counted read.before
      ∙ sym (ap (λ (w : WalkAt). w.rows) walked.walk_is)

  finals-more : (ps : List Page) (page : Page) → finals_of (ps ++ page ∷ []) ≡ finals_of ps ++ finals_of_page page
  finals-more ps page = finals_of-append ps (page ∷ []) ∙ ap (λ es. finals_of ps ++ es) (append-nil (finals_of_page page))

  pub reads_page : (i : ℕ) (walk walk_new : WalkAt) (rows combinations new others : List (List (ℕ × E))) (read : HasRead i walk rows combinations)
      (page : Page) → AllByRecursion Readable (finals_of_page page)
      → ((before : List FinalEntry) → AreRowsOf nought has value before rows combinations
      → AreRowsOf nought has value (before ++ finals_of_page page) new others)
      → HasWalked told params (i + 1) walk_new (read.before ++ page ∷ []) → HasRead (i + 1) walk_new new others
  reads_page i walk walk_new rows combinations new others read page can pushed walked = record {
    before = read.before ++ page ∷ [];
    walked = walked;
    are_rows = subst (λ es. AreRowsOf nought has value es new others) (sym (finals-more read.before page)) (pushed (finals_of read.before) read.are_rows);
    readable = subst (AllByRecursion Readable) (sym (finals-more read.before page))
        (all_append Readable (finals_of read.before) (finals_of_page page) read.readable can);
  }
