-- What stands on a disk, and stays, while pages are sealed.
use Rattle.std.proofs.Common.{◌≡◌, ◌⊎◌, inl, inr, ℕ, suc, ◌≤◌, take, append_assoc, List, [], ◌∷◌, ◌++◌, length, Option, Some, None, refl, sym, ap, subst, ◌∙◌, arith, length-append}
use Rattle.std.specs.Prelude.{IfSome, IsErrOf, Err}
use Rattle.std.specs.List.{AllByRecursion}
use Rattle.std.proofs.lemmas.List.{take_all, take_at, take-append-le}
use Rattle.std.proofs.Math.Nat.{eq-or-lt_of_le}
use Rattle.outside_io.specs.Moments.{Moment, settled}
use Rattle.outside_io.specs.Traces.{Trace, moments}
use Rattle.page_codec.specs.declared.page.Page.{Page}
use Rattle.page_codec.specs.Bounds.{IsPage}
use Rattle.page_file.specs.Files.{IsSealed, IsForeign, IsBadPage, ReadsAs, ReadsBeforeOrAfter, file_of, opened}
use Rattle.page_file.specs.Stays.{AllImages, Passes, Leaves, IsSettled}
use Rattle.page_file.specs.declared.fault.FileFault.{FileFault}
use Rattle.page_file.specs.declared.fault.FileFault.TheVariants as file
use Rattle.page_file.proofs.Passing.{weaker}
use Rattle.page_file.proofs.Reading.{file_sealed}
use Rattle.table_migration.specs.Migrations.{HasSealed, Rises, Climbs}
use Rattle.table_migration.specs.Inner.{Stands, IsDiskCause, file_fault}

-- ---- moments at which pages are sealed, never fewer than before

rises_weaker : (pages : List Page) (low high : ℕ) (ms : List Moment) → low ≤ high → Rises pages low ms → Rises pages high ms
rises_weaker pages low high [] le rises = tt
rises_weaker pages low high (m ∷ past) le rises = let under = rises.1 in (rises.0, omega (arith, under, le), rises.2, rises.3)

-- behind moments at which none is
rises_from : (pages : List Page) (most : ℕ) (ms before : List Moment) → Rises pages most ms → Rises pages 0 before → Rises pages most (ms ++ before)
rises_from pages most [] before rises none = rises_weaker pages 0 most before (omega arith) none
rises_from pages most (m ∷ past) before rises none = (rises.0, rises.1, rises.2, rises_from pages rises.0 past before rises.3 none)

sealed_more : (pages more : List Page) (count : ℕ) (m : Moment) → count ≤ length pages → HasSealed pages count m → HasSealed (pages ++ more) count m
sealed_more pages more count m within has = λ image is. at image (has image is)
  where
    at : (image : List ℕ) → ReadsAs (take count pages) image ⊎ ReadsAs (take (suc count) pages) image
        → ReadsAs (take count (pages ++ more)) image ⊎ ReadsAs (take (suc count) (pages ++ more)) image
    at image (inl r) = inl (subst (λ l. ReadsAs l image) (sym (take-append-le count pages more within)) r)
    at image (inr r) = elim (eq-or-lt_of_le within) [
      | inl all ↦
          let whole : take (suc count) pages ≡ take count (pages ++ more) =
          take_all (suc count) pages (omega (arith, all)) ∙ sym (take_all count pages (omega (arith, all))) ∙ sym (take-append-le count pages more within) in
          inl (subst (λ l. ReadsAs l image) whole r)
      | inr less ↦ inr (subst (λ l. ReadsAs l image) (sym (take-append-le (suc count) pages more (omega (arith, less)))) r)
    ]

rises_more : (pages more : List Page) (most : ℕ) (ms : List Moment) → most ≤ length pages → Rises pages most ms → Rises (pages ++ more) most ms
rises_more pages more most [] within rises = tt
rises_more pages more most (m ∷ past) within rises =
    let under = rises.1 in
    let below : rises.0 ≤ length pages = omega (arith, under, within) in
    (rises.0, under, sealed_more pages more rises.0 m below rises.2, rises_more pages more rises.0 past below rises.3)

before_or_after : (ps : List Page) (page : Page) (image : List ℕ) → ReadsBeforeOrAfter ps page image
    → ReadsAs (take (length ps) (ps ++ page ∷ [])) image ⊎ ReadsAs (take (suc (length ps)) (ps ++ page ∷ [])) image
before_or_after ps page image (inl before) = inl (subst (λ l. ReadsAs l image) (sym (take_at ps (page ∷ []) (length ps) refl)) before)
before_or_after ps page image (inr after) =
    inr (subst (λ l. ReadsAs l image) (sym (take_all (suc (length ps)) (ps ++ page ∷ []) (omega (arith, length-append ps (page ∷ []))))) after)

-- and then moments at which a page is being sealed behind them
rises_on : (ps : List Page) (page : Page) (ms before : List Moment) → AllByRecursion (AllImages (ReadsBeforeOrAfter ps page)) ms
    → Rises (ps ++ page ∷ []) (length ps) before → Rises (ps ++ page ∷ []) (length ps) (ms ++ before)
rises_on ps page [] before each rises = rises
rises_on ps page (m ∷ past) before each rises =
    (length ps, omega arith, (λ image is. before_or_after ps page image (each.0 image is)), rises_on ps page past before each.1 rises)

-- ---- over what is told

pub climbs_none : (told : Option Trace) → Climbs [] told told
climbs_none None = refl
climbs_none (Some t) = ([], refl, tt)

pub climbs_more : (ps more : List Page) (old new : Option Trace) → Climbs ps old new → Climbs (ps ++ more) old new
climbs_more ps more None new climbs = climbs
climbs_more ps more (Some t) None climbs = absurd climbs
climbs_more ps more (Some t) (Some u) climbs = (
  climbs.0,
  climbs.1,
  rises_weaker (ps ++ more) (length ps) (length (ps ++ more)) climbs.0 (omega (arith, length-append ps more))
      (rises_more ps more (length ps) climbs.0 (omega arith) climbs.2),
)

pub climbs_from : (ps : List Page) (start old new : Option Trace) → Climbs [] start old → Climbs ps old new → Climbs ps start new
climbs_from ps None old new first next = subst (λ o. Climbs ps o new) first next
climbs_from ps (Some t) None new first next = absurd first
climbs_from ps (Some t) (Some u) None first next = absurd next
climbs_from ps (Some t) (Some u) (Some v) first next = (
  next.0 ++ first.0,
  next.1 ∙ ap (λ l. next.0 ++ l) first.1 ∙ sym (append_assoc next.0 first.0 (moments t)),
  rises_from ps (length ps) next.0 first.0 next.2 (rises_more [] ps 0 first.0 (omega arith) first.2),
)

-- ---- an empty disk

nothing_sealed : IsSealed [] []
nothing_sealed = record { each = tt; rest = []; bytes_are = refl; stops = tt }

all_none : (ms : List Moment) → AllByRecursion (AllImages (ReadsAs [])) ms → Rises [] 0 ms
all_none [] each = tt
all_none (m ∷ past) each = (0, omega arith, (λ image is. inl (each.0 image is)), all_none past each.1)

pub renewed : (old mid new : Option Trace) → IfSome old (λ t. t.now.contents ≡ []) → mid ≡ old
    → Passes (λ t image. (pages : List Page) → IsSealed pages t.now.contents → ReadsAs pages image) mid new → Climbs [] old new
renewed old mid new empty same passes =
    go old new empty (subst (λ o. Passes (λ t image. (pages : List Page) → IsSealed pages t.now.contents → ReadsAs pages image) o new) same passes)
  where
    go : (o n : Option Trace) → IfSome o (λ t. t.now.contents ≡ [])
        → Passes (λ t image. (pages : List Page) → IsSealed pages t.now.contents → ReadsAs pages image) o n → Climbs [] o n
    go None n empty passes = passes
    go (Some t) None empty passes = absurd passes
    go (Some t) (Some u) empty passes =
        let through = weaker (λ image. (pages : List Page) → IsSealed pages t.now.contents → ReadsAs pages image) (ReadsAs []) t u
        (λ image reads. reads [] (subst (IsSealed []) (sym empty) nothing_sealed)) passes in
        (through.since, through.goes_on, all_none through.since through.each)

pub renewed_stands : (old mid new : Option Trace) → IfSome old (λ t. t.now.contents ≡ []) → mid ≡ old
    → Leaves (λ t bytes. (pages : List Page) → IsSealed pages t.now.contents → bytes ≡ file_of pages) mid new → Stands [] new
renewed_stands old mid new empty same left =
    go old new empty (subst (λ o. Leaves (λ t bytes. (pages : List Page) → IsSealed pages t.now.contents → bytes ≡ file_of pages) o new) same left)
  where
    go : (o n : Option Trace) → IfSome o (λ t. t.now.contents ≡ [])
        → Leaves (λ t bytes. (pages : List Page) → IsSealed pages t.now.contents → bytes ≡ file_of pages) o n → Stands [] n
    go None n empty left = subst (Stands []) (sym left) tt
    go (Some t) None empty left = absurd left
    go (Some t) (Some u) empty left = left.1 ∙ ap settled (left.0 [] (subst (IsSealed []) (sym empty) nothing_sealed))

-- an empty disk is neither foreign nor has a bad page
pub look_cause : {T : Type 0} (told : Option Trace) (rose : Type 0) (fault : FileFault) → IfSome told (λ t. t.now.contents ≡ [])
    → ((n : ℕ) → IsErrOf {T = T} (Err fault) (file.Foreign n) → IfSome told (λ t. IsForeign t.now.contents × (n ≡ length t.now.contents)))
    → ((i : ℕ) → IsErrOf {T = T} (Err fault) (file.BadPage i) → IfSome told (λ t. (¬ (IsForeign t.now.contents)) × IsBadPage i t.now.contents))
    → (IsErrOf {T = T} (Err fault) file.DiskFault → rose) → IsDiskCause rose (told ≡ None) (file_fault fault)
look_cause told rose file.DiskFault empty foreign bad failed = failed refl
look_cause told rose (file.Foreign n) empty foreign bad failed = at told empty (foreign n refl)
  where
    at : (o : Option Trace) → IfSome o (λ t. t.now.contents ≡ []) → IfSome o (λ t. IsForeign t.now.contents × (n ≡ length t.now.contents)) → o ≡ None
    at None empty is = refl
    at (Some t) empty is = let long = is.0.long in let none : length t.now.contents ≡ 0 = ap length empty in absurd (omega arith)
look_cause told rose (file.BadPage i) empty foreign bad failed = at told empty (bad i refl)
  where
    at : (o : Option Trace) → IfSome o (λ t. t.now.contents ≡ []) → IfSome o (λ t. (¬ (IsForeign t.now.contents)) × IsBadPage i t.now.contents) → o ≡ None
    at None empty is = refl
    at (Some t) empty is =
        let unread = is.1 in
        let none : length t.now.contents ≡ 0 = ap length empty in
        let some = ap length unread.bytes_are in
        absurd (omega (arith, none, some, length-append (opened unread.before) (1 ∷ unread.rest)))
look_cause told rose (file.Memory e) empty foreign bad failed = tt

-- ---- a page that is sealed behind others

stands_settled : (ps : List Page) (m : Moment) → m ≡ settled (file_of ps) → IsSettled m
stands_settled ps m is = is ∙ ap settled (sym (ap (λ (x : Moment). x.contents) is))

stands_sealed : (ps : List Page) (m : Moment) → AllByRecursion IsPage ps → m ≡ settled (file_of ps) → IsSealed ps m.contents
stands_sealed ps m each is = subst (IsSealed ps) (sym (ap (λ (x : Moment). x.contents) is)) (file_sealed ps each)

pub climbs_on : (ps : List Page) (page : Page) (start old new : Option Trace) → AllByRecursion IsPage ps → Climbs ps start old → Stands ps old
    → Passes (λ t image. IsSettled t.now → (pages : List Page) → IsSealed pages t.now.contents → ReadsBeforeOrAfter pages page image) old new
    → Climbs (ps ++ page ∷ []) start new
climbs_on ps page None old new each climbs stands passes =
    subst (λ o. Passes (λ t image. IsSettled t.now → (pages : List Page) → IsSealed pages t.now.contents → ReadsBeforeOrAfter pages page image) o new)
    climbs passes
climbs_on ps page (Some t) None new each climbs stands passes = absurd climbs
climbs_on ps page (Some t) (Some u) None each climbs stands passes = absurd passes
climbs_on ps page (Some t) (Some u) (Some v) each climbs stands passes =
    let through = weaker (λ image. IsSettled u.now → (pages : List Page) → IsSealed pages u.now.contents → ReadsBeforeOrAfter pages page image)
    (ReadsBeforeOrAfter ps page) u v (λ image reads. reads (stands_settled ps u.now stands) ps (stands_sealed ps u.now each stands)) passes in (
      through.since ++ climbs.0,
      through.goes_on ∙ ap (λ l. through.since ++ l) climbs.1 ∙ sym (append_assoc through.since climbs.0 (moments t)),
      rises_weaker (ps ++ page ∷ []) (length ps) (length (ps ++ page ∷ [])) (through.since ++ climbs.0) (omega (arith, length-append ps (page ∷ [])))
          (rises_on ps page through.since climbs.0 through.each (rises_more ps (page ∷ []) (length ps) climbs.0 (omega arith) climbs.2)),
    )

pub sealed_stands : (ps : List Page) (page : Page) (old new : Option Trace) → AllByRecursion IsPage ps → Stands ps old
    → Leaves (λ t bytes. (pages : List Page) → IsSealed pages t.now.contents → bytes ≡ file_of (pages ++ page ∷ [])) old new
    → Stands (ps ++ page ∷ []) new
sealed_stands ps page None new each stands left = subst (Stands (ps ++ page ∷ [])) (sym left) tt
sealed_stands ps page (Some t) None each stands left = absurd left
sealed_stands ps page (Some t) (Some u) each stands left = left.1 ∙ ap settled (left.0 ps (stands_sealed ps t.now each stands))
