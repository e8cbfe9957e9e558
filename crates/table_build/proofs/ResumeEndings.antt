-- What going on says of the bytes that stood there, and what it leaves, over what the work on the pages answers.
use Rattle.std.specs.Prelude.{◌≡◌, ℕ, ◌+◌, ◌-◌, ◌*◌, ◌/◌, ◌<◌, ◌≤◌, min, Bool, Option, Some, None, IfSome, List, length, take}
use Rattle.std.proofs.Common.{refl, sym, ◌∙◌, ap, subst, arith}
use Rattle.std.proofs.lemmas.List.{length-take-le}
use Rattle.outside_io.specs.Moments.{IsImage}
use Rattle.outside_io.specs.Traces.{Trace}
use Rattle.column_order.specs.Columns.{ColumnList}
use Rattle.table_model.specs.Conversion.{Converts}
use Rattle.table_model.specs.ListedSpan.{count_of}
use Rattle.table_model.specs.ReducedRows.{IsUnbroken, BreaksFirst}
use Rattle.page_codec.specs.declared.params.Params.{Params}
use Rattle.page_codec.specs.declared.page.Page.{Page}
use Rattle.page_codec.specs.Bounds.{IsParams}
use Rattle.page_codec.specs.Places.{block_count}
use Rattle.page_file.specs.Files.{ReadsAs}
use Rattle.page_file.specs.Stays.{AllImages, Leaves}
use Rattle.page_file.proofs.Passing.{weaker}
use Rattle.page_file.proofs.Reading.{sealed_unique}
use Rattle.file_model.specs.TableOf.{IsTableOf}
use Rattle.file_model.specs.Prefixes.{HasPages}
use Rattle.file_model.specs.Resuming.{entries_of, blocks_of, AllSuit, Differs, IsResumed}
use Rattle.file_model.specs.Builds.{Figures, ResumeEnds, IsLeft, IsOurs}
use Rattle.file_model.specs.Builds.Answer.{Built}
use Rattle.file_model.specs.Stays.{Stays}
use Rattle.file_model.proofs.ParamColumns.{relations_are}
use Rattle.file_model.proofs.Keeping.{resumed_is}
use Rattle.file_model.proofs.SealedStay.{our_blocks}
use Rattle.table_build.specs.declared.fault.WorkFault.{WorkFault}
use Rattle.table_build.specs.declared.fault.WorkFault.TheVariants.{DiskFault, BadPage, NoInverse, Differs as DiffersFault, Memory}
use Rattle.table_build.specs.Faults.{HasCauseIn, resume_fault}
use Rattle.table_build.specs.Resumes.{fault_says, IsWorkedFault, IsRefusal}
use Rattle.table_build.specs.Inner.{Course, HasOffered, IsGoingOn, IsStarted, IsEnd, IsGoneFault, IfSealed, AreFirst, AreFirstUpTo, AreRowsOn, ReadsFrom, Holds, Keeps}
use Rattle.table_build.proofs.Resumptions.{going_on, going_on_course, started, first_pages, forward_first}
use Rattle.table_build.proofs.WorkEndings.{pages_left, built_ends, broken_ends, broken_count, differing_ends}

-- ---- a disk that tells

module _ (params : Params) (fits : IsParams params) (columns : ColumnList) (of : IsTableOf params columns) (converts : Converts params.modulus columns) (m : ℕ)
    (modulus : m ≡ params.modulus) where
  -- the sealed pages are ours, so many, and suit, and these are their rows
  pub record IsPutBack {E : Type 0} (value : E → ℕ) (count : ℕ) (numbers : List ℕ) (rows : List (List (ℕ × E))) (bytes : List ℕ) : Type 0 where
    pub sealed : List Page
    pub ours : IsOurs params bytes sealed
    pub suit : AllSuit params.modulus (entries_of sealed)
    pub taken : AreRowsOn value sealed numbers rows
    pub counted : count ≡ length sealed

  pub put_back : {E : Type 0} (value : E → ℕ) (count : ℕ) (numbers : List ℕ) (rows : List (List (ℕ × E))) (old : Option Trace)
      → IfSome old (λ t. (sealed : List Page) × IsOurs params t.now.contents sealed)
      → IfSealed (λ sealed. AreRowsOn value sealed numbers rows × AllSuit params.modulus (entries_of sealed)) old
      → IfSealed (λ sealed. count ≡ length sealed) old → IfSome old (λ t. IsPutBack value count numbers rows t.now.contents)
  put_back value count numbers rows None ours taken counted = tt
  put_back value count numbers rows (Some t) (sealed, ours) taken counted =
      let reads = ours.reads in
      let both = taken sealed reads.sealed in
      record { sealed = sealed; ours = ours; suit = both.1; taken = both.0; counted = counted sealed reads.sealed }

  module _ {E : Type 0} (zero_element : E) (has : E → Bool) (value : E → ℕ) (count : ℕ) (numbers : List ℕ) (rows : List (List (ℕ × E))) (t : Trace)
      (back : IsPutBack value count numbers rows t.now.contents) where
    abbrev bytes : List ℕ
    bytes = t.now.contents

    abbrev blocks : ℕ
    blocks = block_count (count_of columns)

    pages : List Page
    pages = (going_on_course params columns of converts bytes back.sealed back.ours back.suit fits).0

    resumed : IsResumed params back.sealed pages
    unfolding pages
    resumed = (going_on_course params columns of converts bytes back.sealed back.ours back.suit fits).1

    pub course : Course
    course = going_on params columns of converts bytes back.sealed back.ours back.suit pages

    going : IsGoingOn params.modulus columns params back.sealed course
    unfolding pages course
    going = (going_on_course params columns of converts bytes back.sealed back.ours back.suit fits).2

    blocks_sealed : blocks_of back.sealed ≡ min (count - 1) blocks
    blocks_sealed = our_blocks params columns of bytes back.sealed back.ours back.suit
        ∙ (λ i. min (sym back.counted i - 1) (block_count (sym (relations_are params columns of) i)))

    offered : HasOffered m value columns course (min (64 * blocks_of back.sealed) (count_of columns)) numbers rows
    unfolding course
    offered = subst (λ x. HasOffered x value columns course (min (64 * blocks_of back.sealed) (count_of columns)) numbers rows) (sym modulus)
        (started params columns of converts bytes back.sealed back.ours back.suit zero_element has value numbers rows back.taken pages going)

    -- where no page behind the forward ones is sealed
    pub is_started : count ≤ 1 + blocks → IsStarted m value columns params course (count - 1) numbers rows (Some t)
    unfolding course
    is_started few = record {
      offered = subst (λ b. HasOffered m value columns course (min (64 * b) (count_of columns)) numbers rows)
          (blocks_sealed ∙ (let e : min (count - 1) blocks ≡ count - 1 = omega (arith, few) in e)) offered;
      header = going.header;
      first = λ others is. first_pages params columns of converts bytes back.sealed back.ours back.suit pages going
          (omega (arith, few, back.counted)) others is;
    }

    -- where all forward pages are sealed
    pub all_offered : 1 + blocks ≤ count → HasOffered m value columns course (count_of columns) numbers rows
    all_offered all = subst (λ n. HasOffered m value columns course n numbers rows)
        (let e : min (64 * blocks_of back.sealed) (count_of columns) ≡ count_of columns = omega (arith, blocks_sealed, all) in e) offered

    pub first_up_to : 1 + blocks ≤ count → AreFirstUpTo course.pages (1 + blocks) (Some t)
    unfolding course
    first_up_to all others is i l =
        forward_first params columns of converts bytes back.sealed back.ours back.suit pages going (omega (arith, all, back.counted)) others is i l

    pub offered_front : count ≤ 1 + blocks → (x : ℕ) → x ≡ count_of columns - 64 * (count - 1) → x ≡ count_of columns - 64 * blocks_of back.sealed
    offered_front few x is = omega (arith, few, is, blocks_sealed)

    pub offered_behind : 1 + blocks ≤ count → (x : ℕ) → x ≡ 0 → x ≡ count_of columns - 64 * blocks_of back.sealed
    offered_behind all x is = omega (arith, all, is, blocks_sealed)

    -- what is said where the work came to its end
    pub gone_ends : (figures : Figures) (new : Option Trace) → AreFirst course.pages (Some t) → IsEnd m columns course figures.rows new
        → figures.relations ≡ count_of columns → figures.offered ≡ count_of columns - 64 * blocks_of back.sealed → figures.pages ≡ length course.pages
        → ResumeEnds params t.now.contents (Built figures)
    unfolding course
    gone_ends figures new first end relations offered made =
        let the = going.is_course in let ours = back.ours in let reads = ours.reads in
        built_ends params columns of converts course the.are_pages bytes back.sealed back.ours back.suit refl resumed the.fit
        (first back.sealed reads.sealed) figures.rows figures new (subst (λ x. IsEnd x columns course figures.rows new) modulus end) relations offered refl made

    -- what is left there
    pub gone_left : (j rows : ℕ) (new : Option Trace) → Keeps course.pages j (Some t) new → IsEnd m columns course rows new
        → Leaves (λ t bytes. IsLeft params t.now.contents bytes) (Some t) new
    unfolding course
    gone_left j rows new keeps end = let ours = back.ours in let reads = ours.reads in
        pages_left params back.sealed pages resumed j (length pages) refl (Some t) new reads.sealed keeps end.holds

    -- the first pages of the parameters stay
    pub gone_moments : IsImage t.now t.now.contents → (new : Option Trace) → Keeps course.pages count (Some t) new → (k : ℕ)
        → Stays (HasPages params k) (Some t) new
    unfolding course
    gone_moments image None keeps k = keeps
    gone_moments image (Some u) keeps k =
        weaker (ReadsFrom pages count) (λ bytes. AllImages (HasPages params k) t.now → HasPages params k bytes) t u
        (λ bytes r begins. kept bytes r (begins t.now.contents image)) keeps
      where
        kept : (image : List ℕ) → ReadsFrom pages count image → HasPages params k bytes → HasPages params k image
        kept image r (i, low, p) =
            let ours = back.ours in let reads = ours.reads in let there = p.reads in
            let same : back.sealed ≡ take i p.pages = sealed_unique back.sealed (take i p.pages) bytes reads.sealed there.sealed in
            let are : pages ≡ p.pages = resumed_is params p.pages pages i p.are_pages (subst (λ ps. IsResumed params ps pages) same resumed) in
            let long : length back.sealed ≡ i = ap length same ∙ length-take-le i p.pages p.within in (
              r.count,
              omega (arith, low, r.from, long, back.counted),
              record {
                pages = p.pages;
                are_pages = p.are_pages;
                within = omega (arith, r.within, ap length are);
                reads = subst (λ ps. ReadsAs (take r.count ps) image) are r.reads;
              },
            )

    module _ (rose : Type 0) (new : Option Trace) where
      -- the work broke, or a call failed
      abbrev pub Caused : WorkFault → Type 0
      Caused = HasCauseIn rose (Some t ≡ None)
          (λ value n. (n < count_of columns) × BreaksFirst m columns course.work.sums n value × Holds course.pages (1 + n / 64) new)

      breaks_first : (n value : ℕ) → BreaksFirst m columns course.work.sums n value → BreaksFirst params.modulus columns course.work.sums n value
      breaks_first n value b = subst (λ x. BreaksFirst x columns course.work.sums n value) modulus b

      pub broken_says : (fault : WorkFault) → Caused fault
          → IfSome (fault_says (resume_fault fault)) (λ answer. ResumeEnds params t.now.contents answer)
      unfolding course
      broken_says DiskFault cause = tt
      broken_says (BadPage i) cause = absurd (cc cause)
      broken_says (NoInverse value n) cause = let the = going.is_course in
          broken_ends params columns of converts course the.are_pages bytes back.sealed back.ours back.suit refl resumed n value cause.0
          (breaks_first n value cause.1)
      broken_says (DiffersFault i) cause = absurd (cc cause)
      broken_says (Memory e) cause = tt

      pub broken_left : (j : ℕ) → Keeps course.pages j (Some t) new → (fault : WorkFault) → Caused fault → IsWorkedFault (resume_fault fault)
          → Leaves (λ t bytes. IsLeft params t.now.contents bytes) (Some t) new
      unfolding course
      broken_left j keeps DiskFault cause worked = absurd worked
      broken_left j keeps (BadPage i) cause worked = absurd worked
      broken_left j keeps (NoInverse value n) cause worked =
          let the = going.is_course in let ours = back.ours in let reads = ours.reads in
          pages_left params back.sealed pages resumed j (1 + n / 64)
          (broken_count params columns of converts course the.are_pages the.is_work n value cause.0 (breaks_first n value cause.1)) (Some t) new reads.sealed
          keeps cause.2
      broken_left j keeps (DiffersFault i) cause worked = absurd worked
      broken_left j keeps (Memory e) cause worked = absurd worked

      pub broken_not_refused : (fault : WorkFault) → Caused fault → ¬ (IsRefusal (resume_fault fault))
      broken_not_refused DiskFault cause refused = refused
      broken_not_refused (BadPage i) cause refused = cc cause
      broken_not_refused (NoInverse value n) cause refused = refused
      broken_not_refused (DiffersFault i) cause refused = cc cause
      broken_not_refused (Memory e) cause refused = refused

      -- a sealed page is not that of the work, or a call failed
      abbrev pub Differing : WorkFault → Type 0
      Differing = IsGoneFault rose (Some t ≡ None) (λ i. IfSealed (λ sealed. Differs sealed course.pages i) (Some t) × (new ≡ Some t))

      pub differing_says : HasOffered m value columns course (count_of columns) numbers rows → (fault : WorkFault) → Differing fault
          → IfSome (fault_says (resume_fault fault)) (λ answer. ResumeEnds params t.now.contents answer)
      unfolding course
      differing_says all DiskFault cause = tt
      differing_says all (BadPage i) cause = absurd (cc cause)
      differing_says all (NoInverse value n) cause = absurd cause
      differing_says all (DiffersFault i) cause =
          let the = going.is_course in let ours = back.ours in let reads = ours.reads in
          differing_ends params columns of converts course the.are_pages bytes back.sealed back.ours back.suit refl resumed
          (subst (λ x. IsUnbroken x columns course.work.sums (count_of columns)) modulus all.unbroken) i (cause.0 back.sealed reads.sealed)
      differing_says all (Memory e) cause = tt

      pub differing_not_worked : (fault : WorkFault) → Differing fault → ¬ (IsWorkedFault (resume_fault fault))
      differing_not_worked DiskFault cause worked = worked
      differing_not_worked (BadPage i) cause worked = worked
      differing_not_worked (NoInverse value n) cause worked = cause
      differing_not_worked (DiffersFault i) cause worked = worked
      differing_not_worked (Memory e) cause worked = worked

      pub differing_refused : (fault : WorkFault) → Differing fault → IsRefusal (resume_fault fault) → new ≡ Some t
      differing_refused DiskFault cause refused = absurd refused
      differing_refused (BadPage i) cause refused = absurd (cc cause)
      differing_refused (NoInverse value n) cause refused = absurd refused
      differing_refused (DiffersFault i) cause refused = cause.1
      differing_refused (Memory e) cause refused = absurd refused
