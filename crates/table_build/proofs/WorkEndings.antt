-- What is said of the bytes that stood there where work came to its end or broke, and what it leaves.
use Rattle.std.specs.Prelude.{◌≡◌, ℕ, ◌+◌, ◌-◌, ◌*◌, ◌/◌, ◌<◌, Option, Some, None, IfSome, List, [], ◌∷◌, ◌++◌, length, take}
use Rattle.std.proofs.Common.{sym, ◌∙◌, ap, subst, arith}
use Rattle.std.proofs.lemmas.List.{take_all, append-nil, append_assoc}
use Rattle.outside_io.specs.Moments.{Moment, settled}
use Rattle.outside_io.specs.Traces.{Trace}
use Rattle.column_order.specs.Columns.{ColumnList}
use Rattle.table_model.specs.Conversion.{Converts}
use Rattle.table_model.specs.ListedSpan.{count_of, relation_count}
use Rattle.table_model.specs.ReducedRows.{IsUnbroken, BreaksFirst}
use Rattle.table_model.proofs.FirstFaults.{first_break}
use Rattle.table_model.proofs.ReducedRowsLaws.{reduced_rows_counts}
use Rattle.page_codec.specs.declared.params.Params.{Params}
use Rattle.page_codec.specs.declared.page.Page.{Page}
use Rattle.page_codec.specs.declared.page.Page.TheVariants.{Header, Done}
use Rattle.page_codec.specs.Places.{row_count, FitBehind, AllFit}
use Rattle.page_codec.proofs.Walking.{row_count-push}
use Rattle.page_file.specs.Files.{IsSealed, file_of}
use Rattle.page_file.specs.Stays.{Leaves}
use Rattle.file_model.specs.TableOf.{IsTableOf}
use Rattle.file_model.specs.Pages.{IsWork, ArePages}
use Rattle.file_model.specs.Pages.ArePages.{none, begun, whole}
use Rattle.file_model.specs.Resuming.{entries_of, blocks_of, AllSuit, Differs, IsResumed}
use Rattle.file_model.specs.Builds.{Figures, ResumeEnds, IsLeft, IsOurs, IsWorked, GoesOn, work_from}
use Rattle.file_model.specs.Builds.Answer.{Built, DiffersAt, NoInverseRelation}
use Rattle.table_build.specs.Inner.{Course, IsEnd, Holds, Keeps}

-- all pages of work that goes on from the sealed ones are left
pub pages_left : (params : Params) (sealed pages : List Page) → IsResumed params sealed pages → (j k : ℕ) → k ≡ length pages → (old new : Option Trace)
    → IfSome old (λ t. IsSealed sealed t.now.contents) → Keeps pages j old new → Holds pages k new
    → Leaves (λ t bytes. IsLeft params t.now.contents bytes) old new
pages_left params sealed pages resumed j k all None new there keeps holds = keeps
pages_left params sealed pages resumed j k all (Some t) None there keeps holds = absurd keeps
pages_left params sealed pages resumed j k all (Some t) (Some u) there keeps holds =
    let is : u.now.contents ≡ file_of (take k pages) = ap (λ (m : Moment). m.contents) holds.stands in (
      record {
        sealed = sealed;
        are_sealed = there;
        pages = pages;
        are_pages = resumed;
        contents_are = is ∙ ap file_of (take_all k pages (omega (arith, all)));
      },
      holds.stands ∙ ap settled (sym is),
    )

done_counts : (p : Params) (n : ℕ) (before front : List Page) (count : ℕ) → FitBehind p n before (front ++ Done count ∷ [])
    → count ≡ row_count (before ++ front)
done_counts p n before [] count fit = let d = fit.0 in d.counted ∙ ap row_count (sym (append-nil before))
done_counts p n before (page ∷ front) count fit = done_counts p n (before ++ page ∷ []) front count fit.1
    ∙ ap row_count (append_assoc before (page ∷ []) front)

module _ (params : Params) (columns : ColumnList) (of : IsTableOf params columns) (converts : Converts params.modulus columns) (course : Course)
    (arranged : ArePages params columns course.work course.pages) where
  rows_counted : AllFit params (relation_count params.weight params.depth) course.pages → (count : ℕ) (new : Option Trace)
      → IsEnd params.modulus columns course count new → count ≡ row_count course.pages
  rows_counted fit count new end = counted arranged
    where
      counted : ArePages params columns course.work course.pages → count ≡ row_count course.pages
      counted (none fails e) = absurd (fails converts)
      counted (begun c n r l b forward f e) = absurd (end.unbroken n l r b.0)
      counted (whole c un k lead rows h forward final f g e) =
          let same : count ≡ k = reduced_rows_counts params.modulus columns of.table course.work.sums (count_of columns) count k end.lead lead
          end.rows rows end.reduced h in
          let front : List Page = Header params ∷ (forward ++ final) in
          let is : course.pages ≡ front ++ Done k ∷ [] = e ∙ ap (λ ps. Header params ∷ ps) (sym (append_assoc forward final (Done k ∷ []))) in
          let n : ℕ = relation_count params.weight params.depth in
          let counts : k ≡ row_count front = done_counts params n [] front k (subst (AllFit params n) is fit) in
          same ∙ counts ∙ (let z : row_count front ≡ row_count front + 0 = omega arith in z) ∙ sym (row_count-push front (Done k)) ∙ ap row_count (sym is)

  -- where the work breaks, its pages are those before the block of that number
  pub broken_count : IsWork params.modulus columns course.work → (n residue : ℕ) → n < count_of columns
      → BreaksFirst params.modulus columns course.work.sums n residue → 1 + n / 64 ≡ length course.pages
  broken_count is n residue few breaks = counted arranged
    where
      counted : ArePages params columns course.work course.pages → 1 + n / 64 ≡ length course.pages
      counted (none fails e) = absurd (fails converts)
      counted (begun c k r l b forward f e) =
          let same : (n ≡ k) × (residue ≡ r) = first_break params.modulus columns of.table course.work.sums is.sums converts n k residue r breaks b in
          omega (arith, ap length e, f.as_many, ap (λ x. x / 64) same.0)
      counted (whole c un count lead rows h forward final f g e) = absurd (un n few residue breaks.0)

  module _ (bytes : List ℕ) (sealed : List Page) (ours : IsOurs params bytes sealed) (suit : AllSuit params.modulus (entries_of sealed))
      (sums_are : (work_from params columns sealed).sums ≡ course.work.sums) (resumed : IsResumed params sealed course.pages) where
    goes_on : (n : ℕ) → IsUnbroken params.modulus columns course.work.sums n → GoesOn params columns sealed n
    goes_on n un = record {
      are_columns = of;
      converts = converts;
      suit = suit;
      unbroken = subst (λ s. IsUnbroken params.modulus columns s n) (sym sums_are) un;
    }

    worked : IsUnbroken params.modulus columns course.work.sums (count_of columns) → IsWorked params bytes columns sealed course.pages
    worked un = record { ours = ours; goes_on = goes_on (count_of columns) un; resumed = resumed }

    -- where the work came to its end
    pub built_ends : AllFit params (relation_count params.weight params.depth) course.pages → take (length sealed) course.pages ≡ sealed
        → (count : ℕ) (figures : Figures) (new : Option Trace) → IsEnd params.modulus columns course count new
        → figures.relations ≡ count_of columns → figures.offered ≡ count_of columns - 64 * blocks_of sealed → figures.rows ≡ count
        → figures.pages ≡ length course.pages → ResumeEnds params bytes (Built figures)
    built_ends fit kept count figures new end relations offered rows made = (
      sealed,
      course.pages,
      columns,
      worked end.unbroken,
      kept,
      record { relations = relations; rows = rows ∙ rows_counted fit count new end; offered = offered; pages = made },
    )

    -- where it broke
    pub broken_ends : (n residue : ℕ) → n < count_of columns → BreaksFirst params.modulus columns course.work.sums n residue
        → ResumeEnds params bytes (NoInverseRelation residue n)
    broken_ends n residue few breaks = (
      sealed,
      columns,
      ours,
      goes_on n breaks.1,
      few,
      subst (λ s. BreaksFirst params.modulus columns s n residue) (sym sums_are) breaks,
    )

    -- where a sealed page is not that of the work
    pub differing_ends : IsUnbroken params.modulus columns course.work.sums (count_of columns) → (i : ℕ) → Differs sealed course.pages i
        → ResumeEnds params bytes (DiffersAt i)
    differing_ends un i differs = (sealed, course.pages, columns, worked un, differs)
