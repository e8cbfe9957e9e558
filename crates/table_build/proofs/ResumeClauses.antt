-- What going on says and leaves, over every disk, from what its parts answer.
use Rattle.std.specs.Prelude.{◌≡◌, ℕ, ◌+◌, ◌-◌, ◌*◌, ◌/◌, ◌<◌, ◌≤◌, Bool, Option, Some, None, IfSome, List, length}
use Rattle.std.proofs.Common.{refl}
use Rattle.outside_io.specs.Moments.{IsImage}
use Rattle.outside_io.specs.Traces.{Trace}
use Rattle.column_order.specs.Columns.{ColumnList}
use Rattle.table_model.specs.Conversion.{Converts}
use Rattle.table_model.specs.ListedSpan.{count_of}
use Rattle.table_model.specs.ReducedRows.{BreaksFirst}
use Rattle.page_codec.specs.declared.params.Params.{Params}
use Rattle.page_codec.specs.Bounds.{IsParams}
use Rattle.page_codec.specs.Places.{block_count}
use Rattle.page_file.specs.Stays.{Leaves}
use Rattle.file_model.specs.TableOf.{IsTableOf}
use Rattle.file_model.specs.Prefixes.{HasPages}
use Rattle.file_model.specs.Resuming.{blocks_of, Differs}
use Rattle.file_model.specs.Builds.{Figures, Answer, IsLeft}
use Rattle.file_model.specs.Builds.Answer.{Built}
use Rattle.file_model.specs.Stays.{Stays}
use Rattle.table_build.specs.declared.fault.WorkFault.{WorkFault}
use Rattle.table_build.specs.Faults.{HasCauseIn, resume_fault}
use Rattle.table_build.specs.Resumes.{Tells, fault_says, IsWorkedFault, IsRefusal}
use Rattle.table_build.specs.Inner.{Course, HasOffered, IsStarted, IsEnd, IsGoneFault, IfSealed, AreFirst, AreFirstUpTo, Holds, Keeps}
use Rattle.table_build.proofs.ResumeEndings.{IsPutBack, course, is_started, all_offered, first_up_to, offered_front, offered_behind, gone_ends, gone_left, gone_moments, broken_says, broken_left, broken_not_refused, differing_says, differing_not_worked, differing_refused}

-- a disk that does not tell its bytes is told nothing of them
pub untold_says : (params : Params) (said : Option Answer) → Tells params None said
untold_says params None = tt
untold_says params (Some answer) = tt

module _ (params : Params) (fits : IsParams params) (columns : ColumnList) (of : IsTableOf params columns) (converts : Converts params.modulus columns) (m : ℕ)
    (modulus : m ≡ params.modulus) {E : Type 0} (zero_element : E) (has : E → Bool) (value : E → ℕ) (count : ℕ) (numbers : List ℕ)
    (rows : List (List (ℕ × E))) where
  abbrev blocks : ℕ
  blocks = block_count (count_of columns)

  abbrev pub Back : List ℕ → Type 0
  Back = IsPutBack params fits columns of converts m modulus value count numbers rows

  abbrev pub IfBack : Option Trace → Type 0
  IfBack old = IfSome old (λ t. Back t.now.contents)

  abbrev pub Untold : Option Trace → Option Trace → Type 0
  Untold old new = old ≡ None → new ≡ None

  pub the_course : (t : Trace) → Back t.now.contents → Course
  the_course = course params fits columns of converts m modulus zero_element has value count numbers rows

  -- what the parts are given of a course: no page behind the forward ones is sealed, or all forward ones are
  abbrev pub InFront : Option Trace → Course → Type 0
  InFront old course = IsStarted m value columns params course (count - 1) numbers rows old

  abbrev pub Behind : Option Trace → Course → Type 0
  Behind old course = HasOffered m value columns course (count_of columns) numbers rows × AreFirstUpTo course.pages (1 + blocks) old

  pub in_front : count ≤ 1 + blocks → (t : Trace) (back : Back t.now.contents) → InFront (Some t) (the_course t back)
  unfolding the_course
  in_front few t back = is_started params fits columns of converts m modulus zero_element has value count numbers rows t back few

  pub behind : 1 + blocks ≤ count → (t : Trace) (back : Back t.now.contents) → Behind (Some t) (the_course t back)
  unfolding the_course
  behind all t back = (
    all_offered params fits columns of converts m modulus zero_element has value count numbers rows t back all,
    first_up_to params fits columns of converts m modulus zero_element has value count numbers rows t back all,
  )

  pub figure_front : count ≤ 1 + blocks → (x : ℕ) → x ≡ count_of columns - 64 * (count - 1) → (t : Trace) (back : Back t.now.contents)
      → x ≡ count_of columns - 64 * blocks_of back.sealed
  figure_front few x is t back = offered_front params fits columns of converts m modulus zero_element has value count numbers rows t back few x is

  pub figure_behind : 1 + blocks ≤ count → (x : ℕ) → x ≡ 0 → (t : Trace) (back : Back t.now.contents)
      → x ≡ count_of columns - 64 * blocks_of back.sealed
  figure_behind all x is t back = offered_behind params fits columns of converts m modulus zero_element has value count numbers rows t back all x is

  module _ (P : Option Trace → Course → Type 0) (given : (t : Trace) (back : Back t.now.contents) → P (Some t) (the_course t back)) where
    abbrev pub KeptBy : Option Trace → Option Trace → Type 0
    KeptBy old new = (course : Course) → P old course → Keeps course.pages count old new

    abbrev pub EndedBy : ℕ → ℕ → Option Trace → Option Trace → Type 0
    EndedBy last pages old new = (course : Course) → P old course → IsEnd m columns course last new × (pages ≡ length course.pages)

    abbrev pub FirstBy : Option Trace → Type 0
    FirstBy old = (course : Course) → P old course → AreFirst course.pages old

    pub resume_moments : (old new : Option Trace) → IfBack old → Untold old new → IfSome old (λ t. IsImage t.now t.now.contents) → KeptBy old new → (k : ℕ)
        → Stays (HasPages params k) old new
    unfolding the_course
    resume_moments None new back untold image keeps k = untold refl
    resume_moments (Some t) new back untold image keeps k =
        gone_moments params fits columns of converts m modulus zero_element has value count numbers rows t back image new
        (keeps (the_course t back) (given t back)) k

    pub resume_ends : (figures : Figures) (old new : Option Trace) → IfBack old → FirstBy old → EndedBy figures.rows figures.pages old new
        → figures.relations ≡ count_of columns
        → ((t : Trace) (back : Back t.now.contents) → figures.offered ≡ count_of columns - 64 * blocks_of back.sealed)
        → Tells params old (Some (Built figures))
    unfolding the_course
    resume_ends figures None new back first ended relations offered = tt
    resume_ends figures (Some t) new back first ended relations offered =
        let end = ended (the_course t back) (given t back) in
        gone_ends params fits columns of converts m modulus zero_element has value count numbers rows t back figures new
        (first (the_course t back) (given t back)) end.0 relations (offered t back) end.1

    pub resume_left : (last pages : ℕ) (old new : Option Trace) → IfBack old → Untold old new → KeptBy old new → EndedBy last pages old new
        → Leaves (λ t bytes. IsLeft params t.now.contents bytes) old new
    unfolding the_course
    resume_left last pages None new back untold keeps ended = untold refl
    resume_left last pages (Some t) new back untold keeps ended =
        let end = ended (the_course t back) (given t back) in
        gone_left params fits columns of converts m modulus zero_element has value count numbers rows t back count last new
        (keeps (the_course t back) (given t back)) end.0

    module _ (rose : Type 0) (fault : WorkFault) where
      -- the work broke, or a call failed
      abbrev pub BrokenBy : Option Trace → Option Trace → Type 0
      BrokenBy old new = (course : Course) → P old course → HasCauseIn rose (old ≡ None)
          (λ value n. (n < count_of columns) × BreaksFirst m columns course.work.sums n value × Holds course.pages (1 + n / 64) new) fault

      pub broken_ends : (old new : Option Trace) → IfBack old → BrokenBy old new → Tells params old (fault_says (resume_fault fault))
      unfolding the_course
      broken_ends None new back broken = untold_says params (fault_says (resume_fault fault))
      broken_ends (Some t) new back broken =
          broken_says params fits columns of converts m modulus zero_element has value count numbers rows t back rose new fault
          (broken (the_course t back) (given t back))

      pub broken_leaves : (old new : Option Trace) → IfBack old → Untold old new → KeptBy old new → BrokenBy old new
          → IsWorkedFault (resume_fault fault) → Leaves (λ t bytes. IsLeft params t.now.contents bytes) old new
      unfolding the_course
      broken_leaves None new back untold keeps broken worked = untold refl
      broken_leaves (Some t) new back untold keeps broken worked =
          broken_left params fits columns of converts m modulus zero_element has value count numbers rows t back rose new count
          (keeps (the_course t back) (given t back)) fault (broken (the_course t back) (given t back)) worked

      pub broken_refused : (old new : Option Trace) → IfBack old → Untold old new → BrokenBy old new → IsRefusal (resume_fault fault) → new ≡ old
      unfolding the_course
      broken_refused None new back untold broken refused = untold refl
      broken_refused (Some t) new back untold broken refused =
          absurd (broken_not_refused params fits columns of converts m modulus zero_element has value count numbers rows t back rose new fault
          (broken (the_course t back) (given t back)) refused)

  module _ (all : 1 + blocks ≤ count) (rose : Type 0) (fault : WorkFault) where
    -- a sealed page is not that of the work, or a call failed
    abbrev pub DifferingBy : Option Trace → Option Trace → Type 0
    DifferingBy old new = (course : Course) → Behind old course → IsGoneFault rose (old ≡ None)
        (λ i. IfSealed (λ sealed. Differs sealed course.pages i) old × (new ≡ old)) fault

    pub differing_ends : (old new : Option Trace) → IfBack old → DifferingBy old new → Tells params old (fault_says (resume_fault fault))
    unfolding the_course
    differing_ends None new back differing = untold_says params (fault_says (resume_fault fault))
    differing_ends (Some t) new back differing =
        let is = behind all t back in
        differing_says params fits columns of converts m modulus zero_element has value count numbers rows t back rose new is.0 fault
        (differing (the_course t back) is)

    pub differing_leaves : (old new : Option Trace) → IfBack old → Untold old new → DifferingBy old new → IsWorkedFault (resume_fault fault)
        → Leaves (λ t bytes. IsLeft params t.now.contents bytes) old new
    unfolding the_course
    differing_leaves None new back untold differing worked = untold refl
    differing_leaves (Some t) new back untold differing worked =
        absurd (differing_not_worked params fits columns of converts m modulus zero_element has value count numbers rows t back rose new fault
        (differing (the_course t back) (behind all t back)) worked)

    pub differing_refuses : (old new : Option Trace) → IfBack old → Untold old new → DifferingBy old new → IsRefusal (resume_fault fault) → new ≡ old
    unfolding the_course
    differing_refuses None new back untold differing refused = untold refl
    differing_refuses (Some t) new back untold differing refused =
        differing_refused params fits columns of converts m modulus zero_element has value count numbers rows t back rose new fault
        (differing (the_course t back) (behind all t back)) refused
