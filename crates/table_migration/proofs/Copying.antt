-- Pages that are copied from a source onto a disk, one by one.
use Rattle.std.proofs.Common.{◌≡◌, ℕ, ◌+◌, ◌-◌, ◌≤◌, ◌<◌, ◌^◌, List, [], ◌∷◌, ◌++◌, length, Option, Some, None, refl, sym, ap, subst, ◌∙◌, arith, length-append}
use Rattle.std.specs.Prelude.{IfSome, IfErr, Result, Ok, Err}
use Rattle.std.specs.Result.{IsErrAnd}
use Rattle.std.specs.List.{AllByRecursion}
use Rattle.zeta_model.proofs.WordListLaws.{length-admissible_within}
use Rattle.outside_io.specs.Told.{before_told}
use Rattle.outside_io.specs.Traces.{Trace}
use Rattle.page_codec.specs.declared.params.Params.{Params}
use Rattle.page_codec.specs.declared.page.Page.{Page}
use Rattle.page_codec.specs.declared.page.Page.TheVariants.{Header}
use Rattle.page_codec.specs.declared.walk.Last.TheVariants.{DonePage}
use Rattle.page_codec.specs.Bounds.{IsParams, IsOldParams}
use Rattle.page_codec.specs.Spelling.{spelling_of}
use Rattle.page_codec.specs.Places.{FitsPlace, AllFit, WalkAt, walk_of, block_count}
use Rattle.page_codec.proofs.Files.{few_pages}
use Rattle.page_file.specs.Files.{IsSealed, ReadsBeforeOrAfter, Stops, file_of}
use Rattle.page_file.specs.Stays.{Passes, Leaves, IsSettled}
use Rattle.page_file.specs.Notes.{Notes, Suits, count_of, end_of, params_of, with_page}
use Rattle.page_file.specs.declared.fault.FileFault.{FileFault}
use Rattle.page_file.specs.declared.fault.FileFault.TheVariants as file
use Rattle.relation_list.specs.Listings.{listing_of}
use Rattle.relation_list.proofs.ListingLengths.{listing-small}
use Rattle.table_model.specs.ListedSpan.{relation_count}
use Rattle.file_model.specs.FinalRows.{EndsDone}
use Rattle.file_model.proofs.ListPlaces.{all_append}
use Rattle.table_migration.specs.OldFiles.{IsOldPage, old_spelling, old_opened, AreFit, IsUnread}
use Rattle.table_migration.specs.Migrations.{Answer, BadPage, Misfit, NotDone, ArePassed, EndsAt, IsReading, Climbs}
use Rattle.table_migration.specs.Answers.{fault_answer}
use Rattle.table_migration.specs.Inner.{IsReadCause, Stands, IsReady, AreCopied, IsStopped, file_fault}
use Rattle.table_migration.specs.declared.fault.MigrateFault.{MigrateFault}
use Rattle.table_migration.specs.declared.fault.MigrateFault.TheVariants as fault
use Rattle.table_migration.proofs.Taking.{taken_on}
use Rattle.table_migration.proofs.Places.{old_opened-append, old_opened-one, all_pages, fit_push, fit_last, fit_in, are_fit, params_push, params_old, last_done}
use Rattle.table_migration.proofs.Keeping.{climbs_none, climbs_on, sealed_stands}

-- the names of a table are few
pub few_listed : (params : Params) → IsParams params → length (listing_of params.weight params.depth) ≤ 1179648
few_listed params fits =
    listing-small params.weight params.depth fits.weight_to
    (omega (arith, length-admissible_within params.weight params.depth fits.weight_from, fits.columns))

counted : (w d : ℕ) → length (listing_of w d) ≡ relation_count w d
unfolding relation_count
counted w d = refl

few_relations : (params : Params) → IsParams params → relation_count params.weight params.depth ≤ 1179648
few_relations params fits = omega (arith, few_listed params fits, counted params.weight params.depth)

-- what is told, with some bytes in front
pub told_parts : (bytes front : List ℕ) (told : Option (List ℕ)) → Some bytes ≡ before_told front told
    → (rest : List ℕ) × (told ≡ Some rest) × (bytes ≡ front ++ rest)
told_parts bytes front None e = absurd (cc e)
told_parts bytes front (Some rest) e = (rest, refl, cc e)

-- a source that failed says nothing of its bytes
pub read_says_nothing : (rose : Type 0) (e : MigrateFault) → IsReadCause rose e → fault_answer e ≡ None
read_says_nothing rose fault.DiskFault cause = absurd cause
read_says_nothing rose fault.ReadFault cause = refl
read_says_nothing rose (fault.Exists n) cause = absurd cause
read_says_nothing rose (fault.BadPage i) cause = absurd cause
read_says_nothing rose (fault.Misfit i) cause = absurd cause
read_says_nothing rose (fault.NotDone n) cause = absurd cause
read_says_nothing rose (fault.Memory e) cause = refl

-- nor does a file that was not sealed
pub file_says_nothing : (f : FileFault) → fault_answer (file_fault f) ≡ None
file_says_nothing file.DiskFault = refl
file_says_nothing (file.Foreign n) = refl
file_says_nothing (file.BadPage i) = refl
file_says_nothing (file.Memory e) = refl

-- what is told of a fault that another call had
pub err_is : {T E : Type 0} (r : Result T E) (P : E → Type 0) (e : E) → IsErrAnd r (λ x. x ≡ e) → P e → IfErr r P
err_is (Ok x) P e is there = absurd is
err_is (Err x) P e is there = subst P (sym is) there

-- ---- how copying stops

module _ (pages : List Page) (first left : Option (List ℕ)) (old new : Option Trace) (each : AllByRecursion IsOldPage pages) (fit : AreFit pages)
    (taken : first ≡ before_told (old_opened pages) left) (keeps : Climbs pages old new) where
  pub were_passed : IfSome first (λ bytes. (rest : List ℕ) × ArePassed bytes pages rest)
  were_passed = at first taken
    where
      at : (o : Option (List ℕ)) → o ≡ before_told (old_opened pages) left → IfSome o (λ bytes. (rest : List ℕ) × ArePassed bytes pages rest)
      at None e = tt
      at (Some bytes) e = let parts = told_parts bytes (old_opened pages) left e in (parts.0, record { each = each; fit = fit; bytes_are = parts.2 })

  pub were_read : (answer : Answer) → ((rest : List ℕ) → left ≡ Some rest → EndsAt pages rest answer) → IfSome first (λ bytes. IsReading bytes pages answer)
  were_read answer ends = at first taken
    where
      at : (o : Option (List ℕ)) → o ≡ before_told (old_opened pages) left → IfSome o (λ bytes. IsReading bytes pages answer)
      at None e = tt
      at (Some bytes) e =
          let parts = told_parts bytes (old_opened pages) left e in
          record { rest = parts.0; passed = record { each = each; fit = fit; bytes_are = parts.2 }; ends = ends parts.0 parts.1 }

  -- nothing is said of the bytes
  pub stops_untold : (e : MigrateFault) → fault_answer e ≡ None → IsStopped first old new e
  stops_untold e none = record {
    pages = pages;
    passed = were_passed;
    keeps = keeps;
    ends = subst (λ o. IfSome o (λ answer. IfSome first (λ bytes. IsReading bytes pages answer) × Stands pages new)) (sym none) tt;
  }

  pub stops_told : (e : MigrateFault) (answer : Answer) → fault_answer e ≡ Some answer → Stands pages new
      → ((rest : List ℕ) → left ≡ Some rest → EndsAt pages rest answer) → IsStopped first old new e
  stops_told e answer says stands ends = record {
    pages = pages;
    passed = were_passed;
    keeps = keeps;
    ends = subst (λ o. IfSome o (λ answer. IfSome first (λ bytes. IsReading bytes pages answer) × Stands pages new)) (sym says) (were_read answer ends, stands);
  }

  -- what stands next is no page, or none that fits
  pub stops_end : (n : ℕ) → ¬ (EndsDone pages) → n ≡ length pages → Stands pages new → IfSome left Stops → IsStopped first old new (fault.NotDone n)
  stops_end n open_yet count stands next =
      stops_told (fault.NotDone n) (NotDone n) refl stands (λ rest is. (open_yet, count, subst (λ o. IfSome o Stops) is next))

  pub stops_unread : (n : ℕ) → ¬ (EndsDone pages) → n ≡ length pages → Stands pages new → IfSome left IsUnread → IsStopped first old new (fault.BadPage n)
  stops_unread n open_yet count stands next =
      stops_told (fault.BadPage n) (BadPage n) refl stands (λ rest is. (open_yet, count, subst (λ o. IfSome o IsUnread) is next))

  pub stops_misfit : (n : ℕ) (page : Page) (behind : Option (List ℕ)) → ¬ (EndsDone pages) → n ≡ length pages → Stands pages new → IsOldPage page
      → left ≡ before_told (1 ∷ old_spelling page) behind → ¬ (AreFit (pages ++ page ∷ [])) → IsStopped first old new (fault.Misfit n)
  stops_misfit n page behind open_yet count stands is next not =
      stops_told (fault.Misfit n) (Misfit n) refl stands (λ rest there.
      let parts = told_parts rest (1 ∷ old_spelling page) behind (sym there ∙ next) in
      (open_yet, count, record { page = page; is_page = is; rest = parts.0; bytes_are = parts.2; misfit = not }))

-- ---- the next page

module _ (params : Params) (pages : List Page) (walk : WalkAt) (notes : Notes) (first left : Option (List ℕ)) (old new : Option Trace)
    (copied : AreCopied params pages walk notes first left old new) where
  n : ℕ
  n = relation_count params.weight params.depth

  pub their_places : AreFit pages
  their_places = are_fit params pages copied.header copied.fit

  pub their_params : IsParams params
  their_params = at pages copied.each copied.header
    where
      at : (ps : List Page) → AllByRecursion IsOldPage ps → params_of ps ≡ Some params → IsParams params
      at [] each header = absurd (cc header)
      at (p ∷ ps) each header = params_old params p each.0 header

  pub few_copied : length pages ≤ block_count (relation_count params.weight params.depth) + 35
  few_copied = few_pages params (relation_count params.weight params.depth) pages their_params copied.fit

  pub not_many : count_of notes < 2 ^ 40
  not_many = let ready = copied.is_ready in let gates = ready.gates in omega (arith, few_copied, few_relations params their_params, gates)

  walk_params : walk.params ≡ params
  walk_params = ap (λ (w : WalkAt). w.params) copied.walk_is

  walk_relations : walk.relations ≡ relation_count params.weight params.depth
  walk_relations = ap (λ (w : WalkAt). w.relations) copied.walk_is

  pub stands_behind : walk ≡ walk_of walk.params walk.relations pages
  stands_behind = copied.walk_is ∙ (λ j. walk_of (sym walk_params j) (sym walk_relations j) pages)

  pub open_yet : ¬ (walk.last ≡ DonePage) → ¬ (EndsDone pages)
  open_yet not ends = not (ap (λ (w : WalkAt). w.last) copied.walk_is ∙ last_done pages ends)

  pub no_place : (page : Page) → ¬ (FitsPlace walk.params walk.relations pages page) → ¬ (AreFit (pages ++ page ∷ []))
  no_place page not fit =
      let here = fit_last params (relation_count params.weight params.depth) pages page
      (fit_in params (pages ++ page ∷ []) (params_push params pages page copied.header) fit) in
      not (subst (λ p. FitsPlace p walk.relations pages page) (sym walk_params)
      (subst (λ k. FitsPlace params k pages page) (sym walk_relations) here))

  -- a page that fits and is taken
  module _ (page : Page) (behind : Option (List ℕ)) (is : IsOldPage page) (next : left ≡ before_told (1 ∷ old_spelling page) behind)
      (fits : FitsPlace walk.params walk.relations pages page) where
    place : FitsPlace params (relation_count params.weight params.depth) pages page
    place = subst (λ k. FitsPlace params k pages page) walk_relations (subst (λ p. FitsPlace p walk.relations pages page) walk_params fits)

    pub header_more : params_of (pages ++ page ∷ []) ≡ Some params
    header_more = params_push params pages page copied.header

    pub each_more : AllByRecursion IsOldPage (pages ++ page ∷ [])
    each_more = all_append IsOldPage pages (page ∷ []) copied.each (is, tt)

    pub fit_more : AllFit params (relation_count params.weight params.depth) (pages ++ page ∷ [])
    fit_more = fit_push params (relation_count params.weight params.depth) pages page copied.fit place

    pub taken_more : first ≡ before_told (old_opened (pages ++ page ∷ [])) behind
    taken_more = taken_on (old_opened pages) (1 ∷ old_spelling page) first left behind copied.taken next
        ∙ ap (λ l. before_told l behind) (ap (λ l. old_opened pages ++ l) (sym (old_opened-one page)) ∙ sym (old_opened-append pages (page ∷ [])))

    module _ (now : Option Trace)
        (passes : Passes (λ t image. IsSettled t.now → (ps : List Page) → IsSealed ps t.now.contents → ReadsBeforeOrAfter ps page image) new now) where
      pub keeps_on : Climbs (pages ++ page ∷ []) old now
      keeps_on = climbs_on pages page old new now (all_pages pages copied.each) copied.keeps copied.stands passes

      -- where it was not sealed
      pub not_sealed : (e : MigrateFault) → fault_answer e ≡ None → IsStopped first old now e
      not_sealed e none = stops_untold (pages ++ page ∷ []) first behind old now each_more
          (are_fit params (pages ++ page ∷ []) header_more fit_more) taken_more keeps_on e none

      pub one_more : (walk_new : WalkAt) (notes_new : Notes) → walk_new ≡ walk_of walk.params walk.relations (pages ++ page ∷ [])
          → notes_new ≡ with_page notes page → IfSome now (λ t. Suits notes_new t.now.contents)
          → Leaves (λ t bytes. (ps : List Page) → IsSealed ps t.now.contents → bytes ≡ file_of (ps ++ page ∷ [])) new now
          → AreCopied params (pages ++ page ∷ []) walk_new notes_new first behind old now
      one_more walk_new notes_new walked noted suits left_there = record {
        header = header_more;
        each = each_more;
        fit = fit_more;
        walk_is = walked ∙ (λ j. walk_of (walk_params j) (walk_relations j) (pages ++ page ∷ []));
        taken = taken_more;
        is_ready = let ready = copied.is_ready in let gates = ready.gates in record {
          gates = ap (λ (m : Notes). length m.gates) noted ∙ omega (
            arith,
            gates,
            length-append pages (page ∷ []),
            length-append notes.gates ((end_of notes + (1 + length (spelling_of page))) ∷ []),
          );
          ready = ap (λ (m : Notes). m.is_ready) noted ∙ ready.ready;
          live = ap (λ (m : Notes). m.is_live) noted ∙ ready.live;
          suits = suits;
        };
        stands = sealed_stands pages page new now (all_pages pages copied.each) copied.stands left_there;
        keeps = keeps_on;
      }

-- ---- the first page

pub own_walk : (walk : WalkAt) (params : Params) (relations : ℕ) (before : List Page) → walk ≡ walk_of params relations before
    → walk ≡ walk_of walk.params walk.relations before
own_walk walk params relations before is =
    is ∙ (λ j. walk_of (sym (ap (λ (w : WalkAt). w.params) is) j) (sym (ap (λ (w : WalkAt). w.relations) is) j) before)

pub walk_on : (walk new : WalkAt) (params : Params) (relations : ℕ) (before pages : List Page) → walk ≡ walk_of params relations before
    → new ≡ walk_of walk.params walk.relations pages → new ≡ walk_of params relations pages
walk_on walk new params relations before pages is next =
    next ∙ (λ j. walk_of (ap (λ (w : WalkAt). w.params) is j) (ap (λ (w : WalkAt). w.relations) is j) pages)

module _ (params : Params) (is : IsOldParams params) (first left : Option (List ℕ)) (old new : Option Trace)
    (taken : first ≡ before_told (old_opened (Header params ∷ [])) left) (stands : Stands [] old)
    (passes : Passes (λ t image. IsSettled t.now → (ps : List Page) → IsSealed ps t.now.contents → ReadsBeforeOrAfter ps (Header params) image) old new) where
  first_keeps : Climbs (Header params ∷ []) old new
  first_keeps = climbs_on [] (Header params) old old new tt (climbs_none old) stands passes

  pub first_not_sealed : (e : MigrateFault) → fault_answer e ≡ None → IsStopped first old new e
  first_not_sealed e none = stops_untold (Header params ∷ []) first left old new (is, tt) (params, refl, ((refl, refl), tt)) taken first_keeps e none

  pub first_copied : (relations : ℕ) (walk : WalkAt) (notes notes_new : Notes) → relations ≡ relation_count params.weight params.depth
      → walk ≡ walk_of params relations (Header params ∷ []) → IsReady 0 notes old → notes_new ≡ with_page notes (Header params)
      → IfSome new (λ t. Suits notes_new t.now.contents)
      → Leaves (λ t bytes. (ps : List Page) → IsSealed ps t.now.contents → bytes ≡ file_of (ps ++ Header params ∷ [])) old new
      → AreCopied params (Header params ∷ []) walk notes_new first left old new
  first_copied relations walk notes notes_new listed walked ready noted suits left_there = record {
    header = refl;
    each = (is, tt);
    fit = ((refl, refl), tt);
    walk_is = walked ∙ ap (λ k. walk_of params k (Header params ∷ [])) listed;
    taken = taken;
    is_ready = let gates = ready.gates in record {
      gates = ap (λ (m : Notes). length m.gates) noted ∙ omega (
        arith,
        gates,
        length-append notes.gates ((end_of notes + (1 + length (spelling_of (Header params)))) ∷ []),
      );
      ready = ap (λ (m : Notes). m.is_ready) noted ∙ ready.ready;
      live = ap (λ (m : Notes). m.is_live) noted ∙ ready.live;
      suits = suits;
    };
    stands = sealed_stands [] (Header params) old new tt stands left_there;
    keeps = first_keeps;
  }

-- the pages that may still come grow fewer
pub fewer : (before after most gates gates_new count count_new : ℕ) → before ≡ most → after ≡ most → gates ≡ count + 1 → gates_new ≡ count_new + 1
    → count_new ≡ count + 1 → count_new ≤ most + 35 → (after + 40) - gates_new < (before + 40) - gates
fewer before after most gates gates_new count count_new a b c d e f = omega arith
