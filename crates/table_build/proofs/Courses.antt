-- The course of a build, and what it says of an empty disk.
use Rattle.std.specs.Prelude.{◌≡◌, ℕ, ◌+◌, ◌*◌, ◌/◌, ◌<◌, Option, Some, None, nat_lt, false, if◌then◌else◌, List, [], ◌∷◌, ◌++◌, length, take, slice_get, IfSome}
use Rattle.std.proofs.Common.{refl, sym, ◌∙◌, ap, subst, arith}
use Rattle.std.proofs.lemmas.Bool.{le-ltb}
use Rattle.std.proofs.lemmas.List.{length-take-le}
use Rattle.zeta_model.specs.declared.Letter.{Letter}
use Rattle.outside_io.specs.Moments.{IsImage}
use Rattle.outside_io.specs.Traces.{Trace}
use Rattle.column_order.specs.Columns.{ColumnList}
use Rattle.table_model.specs.MonomialWords.{words_of_row}
use Rattle.table_model.specs.Conversion.{Converts}
use Rattle.table_model.specs.ListedSpan.{values_of, count_of, relation_count}
use Rattle.table_model.specs.ReducedRows.{BreaksFirst}
use Rattle.table_model.specs.Faults.{IsNotInvertible}
use Rattle.page_codec.specs.declared.params.Params.{Params}
use Rattle.page_codec.specs.declared.page.Page.{Page}
use Rattle.page_codec.specs.declared.page.Page.TheVariants.{Header}
use Rattle.page_codec.specs.Bounds.{IsParams}
use Rattle.page_codec.specs.Places.{AllFit}
use Rattle.page_file.specs.Files.{IsSealed, ReadsAs, opened}
use Rattle.page_file.specs.Stays.{AllImages, Leaves}
use Rattle.page_file.proofs.Passing.{weaker}
use Rattle.file_model.specs.TableOf.{IsTableOf}
use Rattle.file_model.specs.Pages.{Work, ArePages, listed_work}
use Rattle.file_model.specs.Pages.ArePages.{none, begun, whole}
use Rattle.file_model.specs.Prefixes.{IsPages, HasPages}
use Rattle.file_model.specs.Resuming.{AllSuit, IsResumed}
use Rattle.file_model.specs.Builds.{Figures, BuildEnds, IsLeft, IsOurs, work_from}
use Rattle.file_model.specs.Builds.Answer.{Built, NoInverseWord, NoInverseRelation}
use Rattle.file_model.specs.Stays.{Stays}
use Rattle.file_model.proofs.WritableWork.{is_listed_work}
use Rattle.file_model.proofs.PagesExist.{pages_exist}
use Rattle.file_model.proofs.PlacedPages.{pages_placed}
use Rattle.file_model.proofs.ParamColumns.{same_columns}
use Rattle.file_model.proofs.Keeping.{resumed_pages}
use Rattle.table_build.specs.Inner.{Course, IsBegun, IsEnd, ReadsFrom, Holds, Keeps}
use Rattle.table_build.proofs.WorkEndings.{pages_left, built_ends, broken_ends, broken_count}

-- the course of a build
abbrev pub build_course : Params → ColumnList → List Page → Course
build_course params columns pages = record { params = params; work = listed_work params.modulus columns; from = 0; pages = pages }

-- the first page of work on a table that converts
pub header_first : (params : Params) (columns : ColumnList) (work : Work) (pages : List Page) → Converts params.modulus columns
    → ArePages params columns work pages → slice_get pages 0 ≡ Some (Header params)
header_first params columns work pages converts (none fails e) = absurd (fails converts)
header_first params columns work pages converts (begun c n r l b forward f e) = ap (λ ps. slice_get ps 0) e
header_first params columns work pages converts (whole c un count lead rows h forward final f g e) = ap (λ ps. slice_get ps 0) e

-- parameters in range whose table converts have one
pub some_course : (params : Params) → IsParams params → (columns : ColumnList) → IsTableOf params columns → Converts params.modulus columns
    → (pages : List Page) × IsPages params pages × IsBegun params.modulus columns params (build_course params columns pages)
some_course params fits columns of converts =
    let (pages, is) = pages_exist params fits in
    let placed = pages_placed params fits pages is in
    let are : ArePages params columns (listed_work params.modulus columns) pages =
    subst (λ c. ArePages params c (listed_work params.modulus c) pages) (same_columns params is.columns columns is.are_columns of) is.are_pages in (
      pages,
      is,
      record {
        is_course = record {
          modulus = refl;
          are_columns = of;
          converts = converts;
          is_work = is_listed_work params.modulus columns of.table;
          are_pages = are;
          each = placed.0;
          fit = placed.1;
          offers = λ n from few. refl;
          writes = λ n from few q. refl;
        };
        from = refl;
        header = header_first params columns (listed_work params.modulus columns) pages converts are;
      },
    )

-- ---- an empty disk

no_bytes : ReadsAs [] []
no_bytes = record { sealed = record { each = tt; rest = []; bytes_are = refl; stops = tt }; known = λ f. let long = f.long in omega (arith, long) }

none_opened : (pages : List Page) (rest : List ℕ) → [] ≡ opened pages ++ rest → pages ≡ []
none_opened [] rest e = refl
none_opened (p ∷ pages) rest e = absurd (cc e)

-- what stands in a prefix that is empty
nothing_kept : (params : Params) (k : ℕ) → HasPages params k [] → k ≡ 0
nothing_kept params k (j, le, p) =
    let r = p.reads in
    let sealed = r.sealed in
    let none : take j p.pages ≡ [] = none_opened (take j p.pages) sealed.rest sealed.bytes_are in
    omega (arith, le, sym (length-take-le j p.pages p.within) ∙ ap length none)

-- what is kept from an empty disk on
pub stays_begun : (params : Params) (k : ℕ) (pages : List Page) → IsPages params pages → (old new : Option Trace)
    → IfSome old (λ t. (t.now.contents ≡ []) × IsImage t.now t.now.contents) → Keeps pages 0 old new → Stays (HasPages params k) old new
stays_begun params k pages are None new e keeps = keeps
stays_begun params k pages are (Some t) None e keeps = keeps
stays_begun params k pages are (Some t) (Some u) e keeps =
    weaker (ReadsFrom pages 0) (λ image. AllImages (HasPages params k) t.now → HasPages params k image) t u
    (λ image r start.
    let none : k ≡ 0 = nothing_kept params k (subst (HasPages params k) e.0 (start t.now.contents e.1)) in (
      r.count,
      omega (arith, none),
      record { pages = pages; are_pages = are; within = r.within; reads = r.reads },
    )) keeps

-- the course as work that goes on from nothing
module _ (params : Params) (columns : ColumnList) (of : IsTableOf params columns) (converts : Converts params.modulus columns) (pages : List Page)
    (are : IsPages params pages) where
  resumed : IsResumed params [] pages
  resumed = resumed_pages params pages are 0

  none_sealed : (old : Option Trace) → IfSome old (λ t. t.now.contents ≡ []) → IfSome old (λ t. IsSealed [] t.now.contents)
  none_sealed None empty = tt
  none_sealed (Some t) empty = record { each = tt; rest = []; bytes_are = empty; stops = tt }

  -- all its pages are left
  pub left : (k : ℕ) → k ≡ length pages → (old new : Option Trace) → IfSome old (λ t. t.now.contents ≡ []) → Keeps pages 0 old new → Holds pages k new
      → Leaves (λ t bytes. IsLeft params t.now.contents bytes) old new
  left k all old new empty keeps holds = pages_left params [] pages resumed 0 k all old new (none_sealed old empty) keeps holds

  not_below : (n : ℕ) → nat_lt n (64 * 0) ≡ false
  not_below n = le-ltb n (64 * 0) (omega arith)

  sums_at : (n : ℕ) → (work_from params columns []).sums n ≡ values_of params.modulus columns n
  sums_at n = ap (λ b. if b then words_of_row columns.list (λ _. 0) else values_of params.modulus columns n) (not_below n)

  sums_are : (work_from params columns []).sums ≡ values_of params.modulus columns
  sums_are = λ i n. (sums_at n i)

  ours : IsOurs params [] []
  ours = record { reads = no_bytes; params_are = λ q e. let no : None ≡ Some q = e in absurd (cc no); fit = λ i l. absurd (omega arith) }

  suit : AllSuit params.modulus []
  suit i e at = let no : None ≡ Some e = at in absurd (cc no)

  module _ (arranged : ArePages params columns (listed_work params.modulus columns) pages) where
    -- what is said where the work came to its end
    pub ends_built : AllFit params (relation_count params.weight params.depth) pages → (count : ℕ) (figures : Figures) (new : Option Trace)
        → IsEnd params.modulus columns (build_course params columns pages) count new
        → figures.relations ≡ count_of columns → figures.offered ≡ figures.relations → figures.rows ≡ count → figures.pages ≡ length pages
        → BuildEnds params [] (Built figures)
    ends_built fit count figures new end relations offered rows made =
        built_ends params columns of converts (build_course params columns pages) arranged [] [] ours suit sums_are resumed fit refl count figures new end
        relations (omega (arith, offered, relations)) rows made

    -- and where it broke
    pub ends_broken : (n residue : ℕ) → n < count_of columns → BreaksFirst params.modulus columns (values_of params.modulus columns) n residue
        → BuildEnds params [] (NoInverseRelation residue n)
    ends_broken = broken_ends params columns of converts (build_course params columns pages) arranged [] [] ours suit sums_are resumed

    pub broken_pages : (n residue : ℕ) → n < count_of columns → BreaksFirst params.modulus columns (values_of params.modulus columns) n residue
        → 1 + n / 64 ≡ length pages
    broken_pages = broken_count params columns of converts (build_course params columns pages) arranged (is_listed_work params.modulus columns of.table)

-- where the table does not convert
pub ends_refused : (params : Params) (columns : ColumnList) → IsTableOf params columns → (u : List Letter) (residue : ℕ)
    → IsNotInvertible params.modulus columns u residue → BuildEnds params [] (NoInverseWord residue u)
ends_refused params columns of u residue is = (
  [],
  columns,
  record { reads = no_bytes; params_are = λ q e. let no : None ≡ Some q = e in absurd (cc no); fit = λ i l. absurd (omega arith) },
  of,
  is,
)
