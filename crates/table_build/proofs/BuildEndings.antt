-- What a build says of an empty disk, and what it leaves there.
use Rattle.std.specs.Prelude.{◌≡◌, ◌⊎◌, ℕ, ◌+◌, ◌/◌, ◌<◌, ◌≤◌, Option, Some, None, List, [], length, ◌∷◌, Err, IsErrOf, IfSome}
use Rattle.std.proofs.Common.{refl, sym, ◌∙◌, subst, inl, inr, arith}
use Rattle.outside_io.specs.Moments.{IsImage}
use Rattle.outside_io.specs.Traces.{Trace}
use Rattle.column_order.specs.Columns.{ColumnList}
use Rattle.table_model.specs.Conversion.{Converts}
use Rattle.table_model.specs.ListedSpan.{values_of, count_of}
use Rattle.table_model.specs.ReducedRows.{BreaksFirst}
use Rattle.page_codec.specs.declared.params.Params.{Params}
use Rattle.page_codec.specs.declared.page.Page.{Page}
use Rattle.page_codec.specs.Bounds.{IsParams}
use Rattle.outside_io.specs.Causes.{Rose}
use Rattle.page_file.specs.Stays.{Leaves}
use Rattle.file_model.specs.TableOf.{IsTableOf}
use Rattle.file_model.specs.Pages.{ArePages, listed_work}
use Rattle.file_model.specs.Prefixes.{IsPages, HasPages}
use Rattle.file_model.specs.Builds.{Figures, Answer, BuildEnds, IsLeft}
use Rattle.file_model.specs.Builds.Answer.{Built}
use Rattle.file_model.specs.Stays.{Stays}
use Rattle.table_build.specs.declared.fault.WorkFault.{WorkFault}
use Rattle.table_build.specs.declared.fault.WorkFault.TheVariants.{DiskFault, BadPage, NoInverse, Differs, Memory}
use Rattle.table_build.specs.declared.fault.BuildFault.{BuildFault}
use Rattle.table_build.specs.declared.fault.BuildFault.TheVariants as built
use Rattle.table_build.specs.Faults.{HasCauseIn, build_fault, IsTableFault}
use Rattle.table_build.specs.Answers.{fault_answer, IsWorkedFault}
use Rattle.table_build.specs.Inner.{Course, IsBegun, IsEnd, Holds, Keeps}
use Rattle.table_build.proofs.Courses.{build_course, some_course, stays_begun, left, ends_built, ends_broken, broken_pages, ends_refused}

abbrev IsEmpty : Option Trace → Type 0
IsEmpty told = IfSome told (λ t. t.now.contents ≡ [])

none_there : (bytes : List ℕ) → 0 ≡ length bytes → bytes ≡ []
none_there [] e = refl
none_there (b ∷ bytes) e = absurd (omega (arith, e))

-- a length of 0 was told
pub empty_there : (told : Option Trace) (n : ℕ) → n ≡ 0 → IfSome told (λ t. n ≡ length t.now.contents) → IsEmpty told
empty_there None n e h = tt
empty_there (Some t) n e h = none_there t.now.contents (sym e ∙ h)

pub empty_image : (told : Option Trace) → IsEmpty told → IfSome told (λ t. IsImage t.now t.now.contents)
    → IfSome told (λ t. (t.now.contents ≡ []) × IsImage t.now t.now.contents)
empty_image None e h = tt
empty_image (Some t) e h = (e, h)

pub ends_there : (params : Params) (told : Option Trace) (answer : Answer) → IsEmpty told → BuildEnds params [] answer
    → IfSome told (λ t. BuildEnds params t.now.contents answer)
ends_there params None answer e ends = tt
ends_there params (Some t) answer e ends = subst (λ bytes. BuildEnds params bytes answer) (sym e) ends

-- where the table does not convert
pub refused_ends : (params : Params) (told : Option Trace) → IsEmpty told → (fault : BuildFault) → IsTableFault params fault
    → IfSome (fault_answer fault) (λ answer. IfSome told (λ t. BuildEnds params t.now.contents answer))
refused_ends params told e built.DiskFault is = tt
refused_ends params told e (built.Exists n) is = absurd is
refused_ends params told e (built.BadPage i) is = tt
refused_ends params told e (built.NoInverseWord value word) (columns, of, is) =
    ends_there params told _ e (ends_refused params columns of word value is)
refused_ends params told e (built.NoInverseRelation value n) is = absurd is
refused_ends params told e (built.Differs i) is = tt
refused_ends params told e (built.Memory fault) is = tt

module _ (params : Params) (columns : ColumnList) (of : IsTableOf params columns) (converts : Converts params.modulus columns) (pages : List Page)
    (is : IsPages params pages) (are : ArePages params columns (listed_work params.modulus columns) pages) (old new : Option Trace)
    (empty : IsEmpty old) (rose : Type 0) where
  abbrev Caused : WorkFault → Type 0
  Caused = HasCauseIn rose (old ≡ None) (λ value n. (n < count_of columns)
      × BreaksFirst params.modulus columns (values_of params.modulus columns) n value × Holds pages (1 + n / 64) new)

  pub fault_ends : (fault : WorkFault) → Caused fault
      → IfSome (fault_answer (build_fault fault)) (λ answer. IfSome old (λ t. BuildEnds params t.now.contents answer))
  fault_ends DiskFault cause = tt
  fault_ends (BadPage i) cause = tt
  fault_ends (NoInverse value n) cause = ends_there params old _ empty (ends_broken params columns of converts pages is are n value cause.0 cause.1)
  fault_ends (Differs i) cause = tt
  fault_ends (Memory e) cause = tt

  pub fault_left : Keeps pages 0 old new → (fault : WorkFault) → Caused fault → IsWorkedFault (build_fault fault)
      → Leaves (λ t bytes. IsLeft params t.now.contents bytes) old new
  fault_left keeps DiskFault cause worked = absurd worked
  fault_left keeps (BadPage i) cause worked = absurd worked
  fault_left keeps (NoInverse value n) cause worked = left params columns of converts pages is (1 + n / 64)
      (broken_pages params columns of converts pages is are n value cause.0 cause.1) old new empty keeps cause.2
  fault_left keeps (Differs i) cause worked = absurd worked
  fault_left keeps (Memory e) cause worked = absurd worked

  pub fault_told : {T : Type 0} (fault : WorkFault) → Caused fault → (i : ℕ)
      → (IsErrOf {T = T} (Err (build_fault fault)) (built.BadPage i) ⊎ IsErrOf {T = T} (Err (build_fault fault)) (built.Differs i)) → old ≡ None
  fault_told DiskFault cause i (inl e) = absurd (cc e)
  fault_told DiskFault cause i (inr e) = absurd (cc e)
  fault_told (BadPage k) cause i e = cause
  fault_told (NoInverse value n) cause i (inl e) = absurd (cc e)
  fault_told (NoInverse value n) cause i (inr e) = absurd (cc e)
  fault_told (Differs k) cause i e = cause
  fault_told (Memory fault) cause i (inl e) = absurd (cc e)
  fault_told (Memory fault) cause i (inr e) = absurd (cc e)

  pub fault_rose : {T : Type 0} (fault : WorkFault) → Caused fault → IsErrOf {T = T} (Err (build_fault fault)) built.DiskFault → rose
  fault_rose DiskFault cause e = cause
  fault_rose (BadPage k) cause e = absurd (cc e)
  fault_rose (NoInverse value n) cause e = absurd (cc e)
  fault_rose (Differs k) cause e = absurd (cc e)
  fault_rose (Memory fault) cause e = absurd (cc e)

-- the whole build, over what the work on the pages answers

module _ (params : Params) (fits : IsParams params) (columns : ColumnList) (of : IsTableOf params columns) (converts : Converts params.modulus columns) (m : ℕ)
    (modulus : m ≡ params.modulus) (old mid new : Option Trace) (same : mid ≡ old) (empty : IsEmpty old) where
  abbrev Begins : Course → Type 0
  Begins course = IsBegun m columns params course

  pages : List Page
  pages = (some_course params fits columns of converts).0

  are_pages : IsPages params pages
  unfolding pages
  are_pages = (some_course params fits columns of converts).1

  course : Course
  course = build_course params columns pages

  begun : IsBegun params.modulus columns params course
  unfolding pages course
  begun = (some_course params fits columns of converts).2

  arranged : ArePages params columns (listed_work params.modulus columns) pages
  unfolding course
  arranged = let is = begun in let the = is.is_course in the.are_pages

  begins : Begins course
  begins = subst (λ x. IsBegun x columns params course) (sym modulus) begun

  kept : ((course : Course) → Begins course → Keeps course.pages 0 mid new) → Keeps pages 0 old new
  unfolding course
  kept keeps = subst (λ t. Keeps pages 0 t new) same (keeps course begins)

  pub build_moments : ((course : Course) → Begins course → Keeps course.pages 0 mid new) → IfSome old (λ t. IsImage t.now t.now.contents)
      → (k : ℕ) → Stays (HasPages params k) old new
  build_moments keeps image k = stays_begun params k pages are_pages old new (empty_image old empty image) (kept keeps)

  abbrev Ended : ℕ → ℕ → Type 0
  Ended rows made = (course : Course) → Begins course → IsEnd m columns course rows new × (made ≡ length course.pages)

  pub build_ends : (figures : Figures) → figures.relations ≡ count_of columns → figures.offered ≡ figures.relations → Ended figures.rows figures.pages
      → IfSome old (λ t. BuildEnds params t.now.contents (Built figures))
  unfolding course
  build_ends figures relations offered ended =
      let end = ended course begins in
      let is = begun in
      let the = is.is_course in
      ends_there params old (Built figures) empty
      (ends_built params columns of converts pages are_pages the.are_pages the.fit figures.rows figures new
      (subst (λ x. IsEnd x columns course figures.rows new) modulus end.0) relations offered refl end.1)

  pub build_left : (rows made : ℕ) → ((course : Course) → Begins course → Keeps course.pages 0 mid new) → Ended rows made
      → Leaves (λ t bytes. IsLeft params t.now.contents bytes) old new
  unfolding course
  build_left rows made keeps ended =
      let end = (ended course begins).0 in
      left params columns of converts pages are_pages (length pages) refl old new empty (kept keeps) end.holds

  module _ (rose : Type 0) (fault : WorkFault) (cause : (course : Course) → Begins course → HasCauseIn rose (mid ≡ None)
      (λ value n. (n < count_of columns) × BreaksFirst m columns course.work.sums n value × Holds course.pages (1 + n / 64) new) fault) where
    caused : Caused params columns of converts pages are_pages arranged old new empty rose fault
    unfolding course
    caused = subst (λ t. HasCauseIn rose (t ≡ None) (λ value n. (n < count_of columns)
        × BreaksFirst params.modulus columns (values_of params.modulus columns) n value × Holds pages (1 + n / 64) new) fault) same
        (subst (λ x. HasCauseIn rose (mid ≡ None) (λ value n. (n < count_of columns)
        × BreaksFirst x columns (values_of params.modulus columns) n value × Holds pages (1 + n / 64) new) fault) modulus (cause course begins))

    pub broken_ends : (told : BuildFault) → told ≡ build_fault fault
        → IfSome (fault_answer told) (λ answer. IfSome old (λ t. BuildEnds params t.now.contents answer))
    unfolding course
    broken_ends told is = subst (λ f. IfSome (fault_answer f) (λ answer. IfSome old (λ t. BuildEnds params t.now.contents answer))) (sym is)
        (fault_ends params columns of converts pages are_pages arranged old new empty rose fault caused)

    pub broken_left : ((course : Course) → Begins course → Keeps course.pages 0 mid new) → (told : BuildFault) → told ≡ build_fault fault → IsWorkedFault told
        → Leaves (λ t bytes. IsLeft params t.now.contents bytes) old new
    unfolding course
    broken_left keeps told is worked =
        fault_left params columns of converts pages are_pages arranged old new empty rose (kept keeps) fault caused
        (subst IsWorkedFault is worked)

    pub broken_told : {T : Type 0} (told : BuildFault) → told ≡ build_fault fault → (i : ℕ)
        → (IsErrOf {T = T} (Err told) (built.BadPage i) ⊎ IsErrOf {T = T} (Err told) (built.Differs i)) → old ≡ None
    broken_told {T} told is i e =
        fault_told params columns of converts pages are_pages arranged old new empty rose {T = T} fault caused i
        (subst (λ f. IsErrOf {T = T} (Err f) (built.BadPage i) ⊎ IsErrOf {T = T} (Err f) (built.Differs i)) is e)

    pub broken_rose : {T : Type 0} (told : BuildFault) → told ≡ build_fault fault → IsErrOf {T = T} (Err told) built.DiskFault → rose
    broken_rose {T} told is e =
        fault_rose params columns of converts pages are_pages arranged old new empty rose {T = T} fault caused
        (subst (λ f. IsErrOf {T = T} (Err f) built.DiskFault) is e)

-- a count that rose since a later time rose since an earlier one
pub rose_since : (a b c : ℕ) → a ≤ b → Rose b c → Rose a c
rose_since a b c le rose = omega (arith, le, rose)
