-- The pages of a file, gone over one after the other before a build goes on with them.
use Rattle.std.proofs.Common.{◌≡◌, ℕ, zero, suc, ◌+◌, ◌<◌, ◌≤◌, List, [], ◌∷◌, ◌++◌, length, take, Option, Some, None, refl, sym, ap, subst, ◌∙◌, slice_get, append_assoc, add-one, take-suc, inl, inr, arith}
use Rattle.std.specs.Prelude.{IfSome}
use Rattle.std.proofs.Math.Nat.{eq-or-lt_of_le}
use Rattle.std.proofs.lemmas.Option.{slice_get_within, get_or_from_slice_get}
use Rattle.std.proofs.lemmas.List.{append-nil, length-append}
use Rattle.outside_io.specs.Traces.{Trace}
use Rattle.page_codec.specs.declared.params.Params.{Params}
use Rattle.page_codec.specs.declared.page.Page.{Page}
use Rattle.page_codec.specs.Bounds.{IsParams}
use Rattle.page_codec.specs.Places.{FitsPlace, FitBehind, AllFit, WalkAt, walk_of, block_count}
use Rattle.page_codec.proofs.Files.{few_pages}
use Rattle.page_file.specs.Files.{IsForeign, IsBadPage}
use Rattle.page_file.specs.Notes.{Notes, Suits, count_of}
use Rattle.page_file.specs.declared.fault.FileFault.{FileFault}
use Rattle.page_file.specs.declared.fault.FileFault.TheVariants as reading
use Rattle.page_file.proofs.Reading.{suits_count, suits_params}
use Rattle.table_model.specs.ListedSpan.{relation_count}
use Rattle.file_model.specs.Builds.{Answer, FitsAt, HasParams, IsOurs}
use Rattle.file_model.specs.Builds.Answer.{Other as SaysOther, Misfit as SaysMisfit}
use Rattle.table_build.specs.declared.fault.ResumeFault.{ResumeFault}
use Rattle.table_build.specs.declared.fault.ResumeFault.TheVariants as resumed
use Rattle.table_build.specs.Faults.{look_fault}
use Rattle.table_build.specs.Inner.{IsBehind, IfSealed, IsReadFault}
use Rattle.table_build.specs.Resumes.{Tells, fault_says, CanTell}

-- a page was not read
pub not_read : (rose : Type 0) (told : Option Trace) (fault : FileFault) → (fault ≡ reading.DiskFault → rose) → ((n : ℕ) → ¬ (fault ≡ reading.Foreign n))
    → ((n : ℕ) → fault ≡ reading.BadPage n → told ≡ None) → IsReadFault rose (told ≡ None) (look_fault fault)
not_read rose told reading.DiskFault disk other bad = disk refl
not_read rose told (reading.Foreign n) disk other bad = other n refl
not_read rose told (reading.BadPage n) disk other bad = bad n refl
not_read rose told (reading.Memory e) disk other bad = tt

-- nothing is said over a disk that does not tell
pub nothing_told : (params : Params) (told : Option Trace) (said : Option Answer) → told ≡ None → Tells params told said
nothing_told params told None e = tt
nothing_told params told (Some answer) e = at told e
  where
    at : (o : Option Trace) → o ≡ None → IfSome o (λ t. IfSome (Some answer) (λ a. Tells params (Some t) (Some a)))
    at None e = tt
    at (Some t) e = absurd (let bad : Some t ≡ None = e in cc)

module _ (rose : Type 0) (told : Option Trace) where
  -- what is told of a page that was not read
  pub read_tells : (params : Params) (fault : ResumeFault) → IsReadFault rose (told ≡ None) fault → Tells params told (fault_says fault)
  read_tells params resumed.DiskFault h = tt
  read_tells params (resumed.Foreign n) h = absurd h
  read_tells params (resumed.BadPage i) h = nothing_told params told (fault_says (resumed.BadPage i)) h
  read_tells params (resumed.Other q) h = absurd h
  read_tells params (resumed.Misfit i) h = absurd h
  read_tells params (resumed.NoInverseWord value word) h = absurd h
  read_tells params (resumed.NotForward i) h = absurd h
  read_tells params (resumed.NoInverseRelation value n) h = absurd h
  read_tells params (resumed.Differs i) h = nothing_told params told (fault_says (resumed.Differs i)) h
  read_tells params (resumed.Memory e) h = tt

  pub read_can_tell : (fault : ResumeFault) → IsReadFault rose (told ≡ None) fault → CanTell fault
  read_can_tell resumed.DiskFault h = tt
  read_can_tell (resumed.Foreign n) h = tt
  read_can_tell (resumed.BadPage i) h = tt
  read_can_tell (resumed.Other q) h = absurd h
  read_can_tell (resumed.Misfit i) h = tt
  read_can_tell (resumed.NoInverseWord value word) h = absurd h
  read_can_tell (resumed.NotForward i) h = tt
  read_can_tell (resumed.NoInverseRelation value n) h = tt
  read_can_tell (resumed.Differs i) h = tt
  read_can_tell (resumed.Memory e) h = tt

  pub read_rose : (fault : ResumeFault) → IsReadFault rose (told ≡ None) fault → fault ≡ resumed.DiskFault → rose
  read_rose fault h e = subst (IsReadFault rose (told ≡ None)) e h

same_page : (p q : Page) → Some p ≡ Some q → p ≡ q
same_page p q e = cc

pub take-at : (pages : List Page) (i : ℕ) (page : Page) → slice_get pages i ≡ Some page → take (i + 1) pages ≡ take i pages ++ page ∷ []
take-at pages i page at =
    ap (λ k. take k pages) (add-one i) ∙ take-suc pages i page (slice_get_within pages i page at)
    ∙ ap (λ p. take i pages ++ p ∷ []) (get_or_from_slice_get pages i page page at)

pub page_at : (ps : List Page) (k : ℕ) → k < length ps → (page : Page) × (slice_get ps k ≡ Some page)
page_at [] k below = absurd (omega arith)
page_at (p ∷ ps) zero below = (p, refl)
page_at (p ∷ ps) (suc k) below = page_at ps k (omega arith)

-- one page more fits
fit_push : (p : Params) (n : ℕ) (before pages : List Page) (page : Page) → FitBehind p n before pages → FitsPlace p n (before ++ pages) page
    → FitBehind p n before (pages ++ page ∷ [])
fit_push p n before [] page fit fits = (subst (λ ps. FitsPlace p n ps page) (append-nil before) fits, tt)
fit_push p n before (q ∷ qs) page fit fits =
    (fit.0, fit_push p n (before ++ q ∷ []) qs page fit.1 (subst (λ ps. FitsPlace p n ps page) (sym (append_assoc before (q ∷ []) qs)) fits))

-- the first i pages were gone over, and fit
pub record HasWalked (told : Option Trace) (params : Params) (i : ℕ) (walk : WalkAt) (before : List Page) : Type 0 where
  pub walk_is : walk ≡ walk_of params (relation_count params.weight params.depth) before
  pub size : length before ≡ i
  pub fit : AllFit params (relation_count params.weight params.depth) before
  pub pages_are : IfSealed (λ pages. (before ≡ take i pages) × ((k : ℕ) → k < i → FitsAt params pages k)) told

pub nothing_walked : (told : Option Trace) (params : Params) (walk : WalkAt) → walk ≡ walk_of params (relation_count params.weight params.depth) []
    → HasWalked told params 0 walk []
nothing_walked told params walk is = record { walk_is = is; size = refl; fit = tt; pages_are = first told }
  where
    first : (o : Option Trace) → IfSealed (λ pages. ([] ≡ take 0 pages) × ((k : ℕ) → k < 0 → FitsAt params pages k)) o
    first None = tt
    first (Some t) = λ pages sealed. (refl, λ k below. absurd (omega arith))

module _ (told : Option Trace) (params : Params) (i : ℕ) (walk : WalkAt) (before : List Page) (so_far : HasWalked told params i walk before) where
  walk_params : walk.params ≡ params
  walk_params = ap (λ (w : WalkAt). w.params) so_far.walk_is

  walk_relations : walk.relations ≡ relation_count params.weight params.depth
  walk_relations = ap (λ (w : WalkAt). w.relations) so_far.walk_is

  pub stands_behind : IsBehind walk before
  stands_behind = so_far.walk_is ∙ (λ j. walk_of (sym walk_params j) (sym walk_relations j) before)

  fits_place : (page : Page) → FitsPlace walk.params walk.relations before page
      → FitsPlace params (relation_count params.weight params.depth) before page
  fits_place page fits =
      subst (λ n. FitsPlace params n before page) walk_relations (subst (λ p. FitsPlace p walk.relations before page) walk_params fits)

  pub moved : (page : Page) → FitsPlace params (relation_count params.weight params.depth) before page
      → FitsPlace walk.params walk.relations before page
  moved page fits =
      subst (λ p. FitsPlace p walk.relations before page) (sym walk_params) (subst (λ n. FitsPlace params n before page) (sym walk_relations) fits)

  -- a page that is gone over is the next one
  module _ (page : Page) (walk_new : WalkAt) (sealed : IfSealed (λ pages. slice_get pages i ≡ Some page) told)
      (fits : (before : List Page) → IsBehind walk before
      → FitsPlace walk.params walk.relations before page × (walk_new ≡ walk_of walk.params walk.relations (before ++ page ∷ []))) where
    step : FitsPlace walk.params walk.relations before page × (walk_new ≡ walk_of walk.params walk.relations (before ++ page ∷ []))
    step = fits before stands_behind

    pub fits_there : FitsPlace params (relation_count params.weight params.depth) before page
    fits_there = fits_place page step.0

    at_place : (pages : List Page) → slice_get pages i ≡ Some page → before ≡ take i pages → FitsAt params pages i
    at_place pages at same = λ other there.
        subst (λ p. FitsPlace params (relation_count params.weight params.depth) (take i pages) p) (same_page page other (sym at ∙ there))
        (subst (λ ps. FitsPlace params (relation_count params.weight params.depth) ps page) same fits_there)

    each_place : (pages : List Page) → slice_get pages i ≡ Some page → before ≡ take i pages → ((k : ℕ) → k < i → FitsAt params pages k)
        → (k : ℕ) → k < i + 1 → FitsAt params pages k
    each_place pages at same earlier k below = let upto : k ≤ i = omega arith in elim (eq-or-lt_of_le upto) [
      | inl here ↦ subst (FitsAt params pages) (sym here) (at_place pages at same)
      | inr less ↦ earlier k less
    ]

    pub walks_on : HasWalked told params (i + 1) walk_new (before ++ page ∷ [])
    walks_on = record {
      walk_is = step.1 ∙ (λ j. walk_of (walk_params j) (walk_relations j) (before ++ page ∷ []));
      size = let size = so_far.size in omega (arith, length-append before (page ∷ []), size);
      fit = fit_push params (relation_count params.weight params.depth) [] before page so_far.fit fits_there;
      pages_are = next told sealed so_far.pages_are;
    }
      where
        next : (o : Option Trace) → IfSealed (λ pages. slice_get pages i ≡ Some page) o
            → IfSealed (λ pages. (before ≡ take i pages) × ((k : ℕ) → k < i → FitsAt params pages k)) o
            → IfSealed (λ pages. (before ++ page ∷ [] ≡ take (i + 1) pages) × ((k : ℕ) → k < i + 1 → FitsAt params pages k)) o
        next None at earlier = tt
        next (Some t) at earlier = λ pages is.
            let first = earlier pages is in
            (ap (λ ps. ps ++ page ∷ []) first.0 ∙ sym (take-at pages i page (at pages is)), each_place pages (at pages is) first.0 first.1)

  module _ (notes : Notes) (suits : IfSome told (λ t. Suits notes t.now.contents)) where
    -- page i does not fit its place
    pub misfit_tells : i < count_of notes → IfSealed (HasParams params) told
        → IfSealed (λ pages. (before : List Page) → IsBehind walk before → (page : Page) → slice_get pages i ≡ Some page
        → ¬ (FitsPlace walk.params walk.relations before page)) told → Tells params told (Some (SaysMisfit i))
    misfit_tells within header none = at told suits header none so_far.pages_are
      where
        at : (o : Option Trace) → IfSome o (λ t. Suits notes t.now.contents) → IfSealed (HasParams params) o
            → IfSealed (λ pages. (before : List Page) → IsBehind walk before → (page : Page) → slice_get pages i ≡ Some page
            → ¬ (FitsPlace walk.params walk.relations before page)) o
            → IfSealed (λ pages. (before ≡ take i pages) × ((k : ℕ) → k < i → FitsAt params pages k)) o → Tells params o (Some (SaysMisfit i))
        at None s own none gone = tt
        at (Some t) s own none gone =
            let pages = s.pages in
            let sealed = s.reads.sealed in
            let below : i < length pages = omega (arith, within, suits_count notes pages t.now.contents s sealed) in
            let first = gone pages sealed in
            let found = page_at pages i below in (
              pages,
              s.reads,
              own pages sealed,
              record {
                below = below;
                lacks = λ fits. none pages sealed before stands_behind found.0 found.1 (moved found.0
                    (subst (λ ps. FitsPlace params (relation_count params.weight params.depth) ps found.0) (sym first.0) (fits found.0 found.1)));
                earlier = first.1;
              },
            )

    -- all pages were gone over
    module _ (enough : count_of notes ≤ i) where
      pub all_fit : IfSealed (λ sealed. (k : ℕ) → k < length sealed → FitsAt params sealed k) told
      all_fit = at told suits so_far.pages_are
        where
          at : (o : Option Trace) → IfSome o (λ t. Suits notes t.now.contents)
              → IfSealed (λ pages. (before ≡ take i pages) × ((k : ℕ) → k < i → FitsAt params pages k)) o
              → IfSealed (λ sealed. (k : ℕ) → k < length sealed → FitsAt params sealed k) o
          at None s gone = tt
          at (Some t) s gone = λ pages sealed k below.
              (gone pages sealed).1 k (omega (arith, below, enough, suits_count notes pages t.now.contents s sealed))

      pub few_there : IsParams params → count_of notes ≤ block_count (relation_count params.weight params.depth) + 35
      few_there fits =
          let few = few_pages params (relation_count params.weight params.depth) before fits so_far.fit in
          let size = so_far.size in omega (arith, few, size, enough)

-- what is told where the disk was not looked at
pub look_tells : (params : Params) (told : Option Trace) (fault : FileFault)
    → ((n : ℕ) → fault ≡ reading.Foreign n → IfSome told (λ t. IsForeign t.now.contents × (n ≡ length t.now.contents)))
    → ((i : ℕ) → fault ≡ reading.BadPage i → IfSome told (λ t. (¬ (IsForeign t.now.contents)) × IsBadPage i t.now.contents))
    → Tells params told (fault_says (look_fault fault))
look_tells params told reading.DiskFault other bad = tt
look_tells params told (reading.Foreign n) other bad = at told (other n refl)
  where
    at : (o : Option Trace) → IfSome o (λ t. IsForeign t.now.contents × (n ≡ length t.now.contents))
        → Tells params o (fault_says (resumed.Foreign n))
    at None h = tt
    at (Some t) h = (h.0, sym h.1)
look_tells params told (reading.BadPage i) other bad = at told (bad i refl)
  where
    at : (o : Option Trace) → IfSome o (λ t. (¬ (IsForeign t.now.contents)) × IsBadPage i t.now.contents) → Tells params o (fault_says (resumed.BadPage i))
    at None h = tt
    at (Some t) h = h
look_tells params told (reading.Memory e) other bad = tt

module _ (params : Params) (told : Option Trace) (notes : Notes) (suits : IfSome told (λ t. Suits notes t.now.contents)) where
  -- a header that is noted is that of the pages
  pub own_header : ((q : Params) → notes.params ≡ Some q → q ≡ params) → IfSealed (HasParams params) told
  own_header own = at told suits
    where
      at : (o : Option Trace) → IfSome o (λ t. Suits notes t.now.contents) → IfSealed (HasParams params) o
      at None s = tt
      at (Some t) s = λ pages sealed q is. own q (suits_params notes pages t.now.contents s sealed ∙ is)

  pub other_tells : (q : Params) → notes.params ≡ Some q → ¬ (q ≡ params) → Tells params told (Some (SaysOther q))
  other_tells q noted other = at told suits
    where
      at : (o : Option Trace) → IfSome o (λ t. Suits notes t.now.contents) → Tells params o (Some (SaysOther q))
      at None s = tt
      at (Some t) s = (s.pages, s.reads, sym (suits_params notes s.pages t.now.contents s s.reads.sealed) ∙ noted, other)

  -- a file whose pages all fit is one to go on with
  pub ours_of : IfSealed (HasParams params) told → IfSealed (λ sealed. (k : ℕ) → k < length sealed → FitsAt params sealed k) told
      → IfSome told (λ t. (sealed : List Page) × IsOurs params t.now.contents sealed × (count_of notes ≡ length sealed))
  ours_of own fit = at told suits own fit
    where
      at : (o : Option Trace) → IfSome o (λ t. Suits notes t.now.contents) → IfSealed (HasParams params) o
          → IfSealed (λ sealed. (k : ℕ) → k < length sealed → FitsAt params sealed k) o
          → IfSome o (λ t. (sealed : List Page) × IsOurs params t.now.contents sealed × (count_of notes ≡ length sealed))
      at None s own fit = tt
      at (Some t) s own fit =
          let sealed = s.reads.sealed in (
            s.pages,
            record { reads = s.reads; params_are = own s.pages sealed; fit = fit s.pages sealed },
            suits_count notes s.pages t.now.contents s sealed,
          )
