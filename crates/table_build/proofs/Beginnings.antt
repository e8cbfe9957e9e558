-- A disk that is empty is looked at, and made ready for the header.
use Rattle.std.specs.Prelude.{◌≡◌, ℕ, ◌+◌, ◌<◌, ◌≤◌, Option, Some, None, List, [], ◌∷◌, ◌++◌, length, take, IfSome, IsErrOf, Err}
use Rattle.std.proofs.Common.{refl, sym, ◌∙◌, ap, subst, arith}
use Rattle.std.proofs.lemmas.List.{length-take}
use Rattle.outside_io.specs.Moments.{settled}
use Rattle.outside_io.specs.Traces.{Trace}
use Rattle.page_codec.specs.declared.page.Page.{Page}
use Rattle.page_file.specs.declared.fault.FileFault.{FileFault}
use Rattle.page_file.specs.declared.fault.FileFault.TheVariants as file
use Rattle.page_file.specs.Files.{IsForeign, IsBadPage, IsSealed, ReadsAs, file_of, opened}
use Rattle.page_file.specs.Notes.{Notes, Suits, count_of}
use Rattle.page_file.specs.Stays.{Passes, Leaves}
use Rattle.page_file.proofs.Passing.{weaker}
use Rattle.page_file.proofs.Reading.{file_reads}
use Rattle.table_build.specs.Faults.{HasCauseIn, work_fault}
use Rattle.table_build.specs.Inner.{AreFirst, ReadsFrom, Holds, Keeps}

abbrev IsEmpty : Option Trace → Type 0
IsEmpty told = IfSome told (λ t. t.now.contents ≡ [])

-- nothing stands in front of an open gate and more
none_opened : (before : List Page) (rest : List ℕ) → ¬ ([] ≡ opened before ++ 1 ∷ rest)
none_opened [] rest e = cc e
none_opened (p ∷ before) rest e = cc e

all_opened : (pages : List Page) (rest : List ℕ) → [] ≡ opened pages ++ rest → pages ≡ []
all_opened [] rest e = refl
all_opened (p ∷ pages) rest e = absurd (cc e)

-- an empty disk is refused only where it does not tell
pub foreign_silent : (told : Option Trace) (n : ℕ) → IsEmpty told → IfSome told (λ t. IsForeign t.now.contents × (n ≡ length t.now.contents)) → told ≡ None
foreign_silent None n empty h = refl
foreign_silent (Some t) n empty (foreign, is) = let long = foreign.long in absurd (omega (arith, long, ap length empty))

pub bad_silent : (told : Option Trace) (i : ℕ) → IsEmpty told → IfSome told (λ t. (¬ (IsForeign t.now.contents)) × IsBadPage i t.now.contents) → told ≡ None
bad_silent None i empty h = refl
bad_silent (Some t) i empty (known, bad) = absurd (none_opened bad.before bad.rest (sym empty ∙ bad.bytes_are))

-- the cause of a fault of looking
pub look_cause : {T : Type 0} (told : Option Trace) (rose : Type 0) (fault : FileFault) → IsEmpty told
    → ((n : ℕ) → IsErrOf {T = T} (Err fault) (file.Foreign n) → IfSome told (λ t. IsForeign t.now.contents × (n ≡ length t.now.contents)))
    → ((i : ℕ) → IsErrOf {T = T} (Err fault) (file.BadPage i) → IfSome told (λ t. (¬ (IsForeign t.now.contents)) × IsBadPage i t.now.contents))
    → (IsErrOf {T = T} (Err fault) file.DiskFault → rose) → HasCauseIn rose (told ≡ None) (λ _ _. ⊥) (work_fault fault)
look_cause told rose file.DiskFault empty foreign bad disk = disk refl
look_cause told rose (file.Foreign n) empty foreign bad disk = foreign_silent told n empty (foreign n refl)
look_cause told rose (file.BadPage i) empty foreign bad disk = bad_silent told i empty (bad i refl)
look_cause told rose (file.Memory fault) empty foreign bad disk = tt

-- no page is noted of it
pub none_noted : (told : Option Trace) (notes : Notes) → IsEmpty told → IfSome told (λ t. Suits notes t.now.contents) → 0 < count_of notes → told ≡ None
none_noted None notes empty suits some = refl
none_noted (Some t) notes empty suits some =
    let reads = suits.reads in
    let sealed = reads.sealed in
    let none : suits.pages ≡ [] = all_opened suits.pages sealed.rest (sym empty ∙ sealed.bytes_are) in
    let are = suits.are_notes in
    let one : length notes.gates ≡ 0 + 1 = are.count ∙ ap (λ ps. length ps + 1) none in
    absurd (omega (arith, some, one))

-- so no pages are the first ones of any
pub none_first : (pages : List Page) (old mid : Option Trace) → IsEmpty old → mid ≡ old → AreFirst pages mid
none_first pages old mid empty same = subst (AreFirst pages) (sym same) (first old empty)
  where
    first : (o : Option Trace) → IsEmpty o → AreFirst pages o
    first None e = tt
    first (Some t) e = λ sealed is.
        let none : sealed ≡ [] = all_opened sealed is.rest (sym e ∙ is.bytes_are) in
        ap (λ ps. take (length ps) pages) none ∙ sym none

-- ---- sealed pages that are the first ones of some, made ready for the next

length_within : {A : Type 0} (xs ys : List A) → take (length xs) ys ≡ xs → length xs ≤ length ys
length_within xs ys e = omega (arith, ap length e, length-take (length xs) ys)

module _ (pages : List Page) (notes : Notes) where
  abbrev SamePages : Trace → List ℕ → Type 0
  SamePages t image = (sealed : List Page) → IsSealed sealed t.now.contents → ReadsAs sealed image

  abbrev SameFile : Trace → List ℕ → Type 0
  SameFile t bytes = (sealed : List Page) → IsSealed sealed t.now.contents → bytes ≡ file_of sealed

  counted : (t : Trace) (s : Suits notes t.now.contents) → count_of notes ≡ length s.pages
  counted t s = let are = s.are_notes in omega (arith, are.count)

  pub first_keeps : (old new : Option Trace) → IfSome old (λ t. Suits notes t.now.contents) → AreFirst pages old → Passes SamePages old new
      → Keeps pages (count_of notes) old new
  first_keeps None new suits first passes = passes
  first_keeps (Some t) None suits first passes = absurd passes
  first_keeps (Some t) (Some u) suits first passes =
      let reads = suits.reads in
      let are : take (length suits.pages) pages ≡ suits.pages = first suits.pages reads.sealed in
      weaker (SamePages t) (ReadsFrom pages (count_of notes)) t u
      (λ image h. record {
        count = length suits.pages;
        from = omega (arith, counted t suits);
        within = length_within suits.pages pages are;
        reads = subst (λ ps. ReadsAs ps image) (sym are) (h suits.pages reads.sealed);
      }) passes

  pub first_holds : (old new : Option Trace) → IfSome old (λ t. Suits notes t.now.contents) → AreFirst pages old → Leaves SameFile old new
      → Holds pages (count_of notes) new
  first_holds None new suits first leaves = subst (Holds pages (count_of notes)) (sym leaves) tt
  first_holds (Some t) None suits first leaves = absurd leaves
  first_holds (Some t) (Some u) suits first (are, still) =
      let reads = suits.reads in
      let sealed = reads.sealed in
      let same : take (length suits.pages) pages ≡ suits.pages = first suits.pages sealed in
      let here : take (count_of notes) pages ≡ suits.pages = ap (λ k. take k pages) (counted t suits) ∙ same in
      record {
        within = omega (arith, counted t suits, length_within suits.pages pages same);
        stands = still ∙ ap settled (are suits.pages sealed ∙ ap file_of (sym here));
        reads = subst (λ ps. ReadsAs ps (file_of ps)) (sym here) (file_reads suits.pages sealed.each);
      }

  -- where nothing was done before
  pub first_keeps_behind : (old mid new : Option Trace) → mid ≡ old → IfSome old (λ t. Suits notes t.now.contents) → AreFirst pages old
      → Passes SamePages mid new → Keeps pages (count_of notes) old new
  first_keeps_behind old mid new same suits first passes = first_keeps old new suits first (subst (λ o. Passes SamePages o new) same passes)

  pub first_holds_behind : (old mid new : Option Trace) → mid ≡ old → IfSome old (λ t. Suits notes t.now.contents) → AreFirst pages old
      → Leaves SameFile mid new → Holds pages (count_of notes) new
  first_holds_behind old mid new same suits first leaves = first_holds old new suits first (subst (λ o. Leaves SameFile o new) same leaves)
