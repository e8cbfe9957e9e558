-- Pages that are sealed over a disk that may tell its moments.
use Rattle.std.specs.Prelude.{◌≡◌, ℕ, zero, suc, ◌+◌, Option, Some, None, List, [], ◌∷◌, ◌++◌, length, take, slice_get, get_or, IfSome, IfErr, OnOk, Result, Ok, Err}
use Rattle.std.specs.List.{AllByRecursion}
use Rattle.std.proofs.Common.{refl, sym, ◌∙◌, ap, subst, inl, inr, arith}
use Rattle.std.proofs.lemmas.List.{length-append}
use Rattle.std.proofs.lemmas.Option.{slice_get_within}
use Rattle.outside_io.specs.Moments.{Moment, settled}
use Rattle.outside_io.specs.Traces.{Trace}
use Rattle.page_codec.specs.declared.page.Page.{Page}
use Rattle.page_codec.specs.Bounds.{IsPage}
use Rattle.page_codec.specs.Spelling.{spelling_of}
use Rattle.page_file.specs.Files.{IsSealed, ReadsAs, ReadsBeforeOrAfter, file_of}
use Rattle.page_file.specs.Notes.{Notes, with_page, end_of}
use Rattle.page_file.specs.Stays.{Passes, Leaves, IsSettled}
use Rattle.page_file.proofs.Passing.{weaker}
use Rattle.page_file.proofs.Reading.{file_reads}
use Rattle.file_model.proofs.ListPlaces.{all_append, all_contains, contained_at}
use Rattle.table_build.specs.declared.fault.WorkFault.{WorkFault}
use Rattle.table_build.specs.Faults.{HasCauseIn}
use Rattle.table_build.proofs.CauseSteps.{cause_more}
use Rattle.table_build.specs.Inner.{ReadsFrom, StandsAt, IsReadyAt, Holds, Keeps}

-- the page at some place of some pages
pub page_at : (page : Page) (k : ℕ) → (pages : List Page) × (slice_get pages k ≡ Some page)
page_at page zero = (page ∷ [], refl)
page_at page (suc k) = let (pages, at) = page_at page k in (page ∷ pages, at)

-- what holds where the disk tells, by two facts that do
pub told_both : (P Q R : Trace → Type 0) (o : Option Trace) → ((t : Trace) → P t → Q t → R t) → IfSome o P → IfSome o Q → IfSome o R
told_both P Q R None f p q = tt
told_both P Q R (Some t) f p q = f t p q

pub told_one : (P R : Trace → Type 0) (o : Option Trace) → ((t : Trace) → P t → R t) → IfSome o P → IfSome o R
told_one P R None f p = tt
told_one P R (Some t) f p = f t p

-- where it does not hold the disk does not tell
pub untold : (P Q : Trace → Type 0) (o : Option Trace) → ((t : Trace) → P t → Q t → ⊥) → IfSome o P → IfSome o Q → o ≡ None
untold P Q None f p q = refl
untold P Q (Some t) f p q = absurd (f t p q)

-- the pages that stand there are sealed there
pub held_sealed : (pages : List Page) (k : ℕ) (t : Trace) → StandsAt pages k t.now → IsSealed (take k pages) t.now.contents
held_sealed pages k t holds = let r = holds.reads in
    subst (IsSealed (take k pages)) (sym (ap (λ (m : Moment). m.contents) holds.stands)) r.sealed

pub holds_told : (pages : List Page) (k : ℕ) (o : Option Trace) → Holds pages k o → IfSome o (λ t. StandsAt pages k t.now)
holds_told pages k None holds = tt
holds_told pages k (Some t) holds = holds

module _ (pages : List Page) (k : ℕ) (page : Page) (old new : Option Trace)
    (keeps : (ps : List Page) (i : ℕ) → slice_get ps i ≡ Some page → Holds ps i old → Keeps ps i old new) (holds : Holds pages k old) where
  -- what sealing keeps, where the page is the next one over a disk that tells
  pub keeps_next : IfSome old (λ t. slice_get pages k ≡ Some page) → Keeps pages k old new
  keeps_next = go old refl
    where
      go : (o : Option Trace) → old ≡ o → IfSome old (λ t. slice_get pages k ≡ Some page) → Keeps pages k old new
      go None is next =
          let (ps, at) = page_at page k in
          subst (λ x. Keeps pages k x new) (sym is)
          (subst (λ x. Keeps ps k x new) is (keeps ps k at (subst (Holds ps k) (sym is) tt)))
      go (Some t) is next = keeps pages k (subst (λ x. IfSome x (λ t. slice_get pages k ≡ Some page)) is next) holds

  -- and what then stands there
  pub holds_next : ((ps : List Page) (i : ℕ) → slice_get ps i ≡ Some page → Holds ps i old → Holds ps (suc i) new)
      → IfSome old (λ t. slice_get pages k ≡ Some page) → Holds pages (suc k) new
  holds_next done next = go old refl
    where
      go : (o : Option Trace) → old ≡ o → Holds pages (suc k) new
      go None is =
          let gone : new ≡ None = subst (λ x. Keeps pages k x new) is (keeps_next next) in
          subst (Holds pages (suc k)) (sym gone) tt
      go (Some t) is = done pages k (subst (λ x. IfSome x (λ t. slice_get pages k ≡ Some page)) is next) holds

-- a page that stands among pages is one
pub page_among : (pages : List Page) (k : ℕ) (page : Page) → AllByRecursion IsPage pages → slice_get pages k ≡ Some page → IsPage page
page_among pages k page each at = all_contains IsPage pages each page (contained_at pages k page at)

pub no_page_untold : (pages : List Page) (k : ℕ) (page : Page) (o : Option Trace) → AllByRecursion IsPage pages
    → IfSome o (λ t. slice_get pages k ≡ Some page) → ¬ (IsPage page) → o ≡ None
no_page_untold pages k page None each next isnt = refl
no_page_untold pages k page (Some t) each next isnt = absurd (isnt (page_among pages k page each next))

-- the first pages and the next one
pub take_next : (k : ℕ) (pages : List Page) (page : Page) → slice_get pages k ≡ Some page → take (suc k) pages ≡ take k pages ++ page ∷ []
take_next k [] page at = let none : None ≡ Some page = at in absurd (cc none)
take_next zero (x ∷ xs) page at = let same : Some x ≡ Some page = at in let is : x ≡ page = cc same in ap (λ y. y ∷ []) is
take_next (suc k) (x ∷ xs) page at = ap (λ ps. x ∷ ps) (take_next k xs page at)

pub ready_more : (k : ℕ) (notes new : Notes) (page : Page) → new ≡ with_page notes page → IsReadyAt k notes → IsReadyAt (suc k) new
ready_more k notes new page is ready = subst (IsReadyAt (suc k)) (sym is) (record {
  ready = ready.ready;
  live = ready.live;
  count = omega (arith, ready.count, length-append notes.gates ((end_of notes + (1 + length (spelling_of page))) ∷ []));
})

-- a crash while the next page is sealed leaves the first pages, or these and that one
pub sealing_keeps : (pages : List Page) (k : ℕ) (page : Page) (old new : Option Trace) → slice_get pages k ≡ Some page → Holds pages k old
    → Passes (λ t image. IsSettled t.now → (ps : List Page) → IsSealed ps t.now.contents → ReadsBeforeOrAfter ps page image) old new → Keeps pages k old new
sealing_keeps pages k page None new at holds passes = passes
sealing_keeps pages k page (Some t) None at holds passes = absurd passes
sealing_keeps pages k page (Some t) (Some u) at holds passes =
    weaker (λ image. IsSettled t.now → (ps : List Page) → IsSealed ps t.now.contents → ReadsBeforeOrAfter ps page image) (ReadsFrom pages k) t u
    (λ image h. either image (h settled_now (take k pages) (held_sealed pages k t holds))) passes
  where
    settled_now : IsSettled t.now
    settled_now = holds.stands ∙ ap settled (sym (ap (λ (m : Moment). m.contents) holds.stands))

    either : (image : List ℕ) → ReadsBeforeOrAfter (take k pages) page image → ReadsFrom pages k image
    either image (inl before) = record { count = k; from = omega arith; within = holds.within; reads = before }
    either image (inr after) = record {
      count = suc k;
      from = omega arith;
      within = slice_get_within pages k page at;
      reads = subst (λ ps. ReadsAs ps image) (sym (take_next k pages page at)) after;
    }

-- the page is sealed
pub sealing_holds : (pages : List Page) (k : ℕ) (page : Page) (old new : Option Trace) → IsPage page → slice_get pages k ≡ Some page → Holds pages k old
    → Leaves (λ t bytes. (ps : List Page) → IsSealed ps t.now.contents → bytes ≡ file_of (ps ++ page ∷ [])) old new → Holds pages (suc k) new
sealing_holds pages k page None new is at holds left = subst (Holds pages (suc k)) (sym left) tt
sealing_holds pages k page (Some t) None is at holds left = absurd left
sealing_holds pages k page (Some t) (Some u) is at holds left =
    let now : List Page = take k pages ++ page ∷ [] in
    let next : take (suc k) pages ≡ now = take_next k pages page at in
    let bytes : u.now.contents ≡ file_of now = left.0 (take k pages) (held_sealed pages k t holds) in
    let reads = holds.reads in
    let sealed = reads.sealed in
    record {
      within = slice_get_within pages k page at;
      stands = left.1 ∙ ap settled (bytes ∙ ap file_of (sym next));
      reads = subst (λ ps. ReadsAs ps (file_of ps)) (sym next) (file_reads now (all_append IsPage (take k pages) (page ∷ []) sealed.each (is, tt)));
    }

pub told_always : (X : Type 0) (o : Option Trace) → X → IfSome o (λ t. X)
told_always X None x = tt
told_always X (Some t) x = x

-- what is known where a disk tells is known where it still does
pub told_on : (X : Type 0) (old new : Option Trace) → (old ≡ None → new ≡ None) → IfSome old (λ t. X) → IfSome new (λ t. X)
told_on X None new silent x = subst (λ o. IfSome o (λ t. X)) (sym (silent refl)) tt
told_on X (Some t) new silent x = told_always X new x

-- what stands there where a call that seals the next page is done
pub holds_where_done : {T F : Type 0} (pages : List Page) (k : ℕ) (page : Page) (old new : Option Trace) (r : Result T F)
    → ((ps : List Page) (i : ℕ) → slice_get ps i ≡ Some page → Holds ps i old → Keeps ps i old new) → Holds pages k old
    → ((ps : List Page) (i : ℕ) → slice_get ps i ≡ Some page → Holds ps i old → OnOk r (Holds ps (suc i) new))
    → IfSome old (λ t. slice_get pages k ≡ Some page) → OnOk r (Holds pages (suc k) new)
holds_where_done pages k page old new (Ok x) keeps holds done next = holds_next pages k page old new keeps holds done next
holds_where_done pages k page old new (Err e) keeps holds done next = tt

-- the cause of a fault where a call failed, told in other words
pub cause_where_failed : {T : Type 0} (rose silent other_rose other_silent : Type 0) (r : Result T WorkFault) → (rose → other_rose) → (silent → other_silent)
    → IfErr r (HasCauseIn rose silent (λ _ _. ⊥)) → IfErr r (HasCauseIn other_rose other_silent (λ _ _. ⊥))
cause_where_failed rose silent other_rose other_silent (Ok x) f g cause = tt
cause_where_failed rose silent other_rose other_silent (Err e) f g cause =
    cause_more rose silent other_rose other_silent (λ _ _. ⊥) (λ _ _. ⊥) f g (λ _ _ never. never) e cause

pub zeros_more : {E : Type 0} (xs : List (List E)) → ((i : ℕ) → get_or xs i [] ≡ []) → (i : ℕ) → get_or (xs ++ [] ∷ []) i [] ≡ []
zeros_more [] h zero = refl
zeros_more [] h (suc i) = refl
zeros_more (x ∷ xs) h zero = h 0
zeros_more (x ∷ xs) h (suc i) = zeros_more xs (λ k. h (suc k)) i
