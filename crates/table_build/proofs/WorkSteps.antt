-- From forward rows of all relations to the final rows, and from the last page to the end of the work.
use Rattle.std.specs.Prelude.{◌≡◌, ℕ, ◌+◌, ◌*◌, min, Bool, Option, List, [], ◌∷◌, ◌++◌, length}
use Rattle.std.proofs.Common.{sym, ap, subst, arith}
use Rattle.std.proofs.lemmas.List.{length-append}
use Rattle.outside_io.specs.Traces.{Trace}
use Rattle.column_order.specs.Columns.{ColumnList}
use Rattle.page_codec.specs.declared.page.Page.TheVariants.{Done}
use Rattle.page_codec.specs.Places.{block_count}
use Rattle.echelon.specs.Lists.{row_at, lead_at, AreReduced}
use Rattle.echelon.specs.Finishes.{SameSpanOf, AreUses}
use Rattle.table_model.specs.ListedSpan.{count_of}
use Rattle.table_model.specs.ReducedRows.{IsBrokenAt, IsUnbroken, IsReducedRows}
use Rattle.table_model.proofs.ReducedRowsLaws.{reduced_rows_counts}
use Rattle.file_model.specs.Pages.{ArePages}
use Rattle.file_model.specs.Pages.ArePages.{none, begun, whole}
use Rattle.table_build.specs.Inner.{Course, IsCourse, HasOffered, HasFinished, AreMade, AreFinals, HasForward, HaveFinals, IsAt, IsEnd, Holds}
use Rattle.table_build.proofs.OfferedSums.{reduced_rows_of}
use Rattle.table_build.proofs.Offerings.{course_table, course_converts, course_work, course_sums}
use Rattle.table_build.proofs.RecordedSums.{made_of_rows}

module _ {E : Type 0} (m : ℕ) (value : E → ℕ) (columns : ColumnList) (course : Course) (numbers : List ℕ) (rows : List (List (ℕ × E)))
    (finals uses : List (List (ℕ × E))) where
  pub finished_of : HasOffered m value columns course (count_of columns) numbers rows → AreReduced m value finals → SameSpanOf m value rows finals
      → HasFinished m value columns course numbers rows finals
  finished_of offered reduced same = let is = offered.is_course in record {
    offered = offered;
    reduced = reduced_rows_of m value columns (course_table m value columns course is) (course_converts m value columns course is) course.work.sums
        (course_sums m value columns course is) (count_of columns) rows finals offered.span reduced same;
  }

  pub made_by_uses : {has : E → Bool} → IsCourse m columns course → AreUses m has value numbers rows finals uses
      → AreMade m value columns course.work numbers rows finals uses
  made_by_uses is are j l =
      made_of_rows m columns course.work (course_work m value columns course is) (count_of columns) (length rows) (row_at value rows) (row_at value finals j) _
      (are.sums j l)

  pub finals_of : {has : E → Bool} (k : ℕ) (told : Option Trace) → HasOffered m value columns course (count_of columns) numbers rows → AreReduced m value finals
      → SameSpanOf m value rows finals → AreUses m has value numbers rows finals uses → Holds course.pages k told
      → AreFinals m value columns course k numbers rows finals uses told
  finals_of k told offered reduced same are holds = record {
    holds = holds;
    finished = finished_of offered reduced same;
    made = made_by_uses offered.is_course are;
  }

-- the pages of work that is not broken
pub pages_counted : (m : ℕ) (columns : ColumnList) (course : Course) → IsCourse m columns course → IsUnbroken m columns course.work.sums (count_of columns)
    → (count : ℕ) (lead : ℕ → ℕ) (rows : ℕ → ℕ → ℕ) → IsReducedRows m columns course.work.sums (count_of columns) count lead rows
    → length course.pages ≡ 2 + block_count (count_of columns) + block_count count
pages_counted m columns course is unbroken count lead rows reduced = counted is.are_pages
  where
    counted : ArePages course.params columns course.work course.pages → length course.pages ≡ 2 + block_count (count_of columns) + block_count count
    counted (none fails e) = absurd (fails is.converts)
    counted (begun c n r l breaks forward hf e) =
        absurd (unbroken n l r (subst (λ x. IsBrokenAt x columns course.work.sums n r) is.modulus breaks.0))
    counted (whole c un k other others h forward final hf hg e) =
        let of = is.are_columns in
        let same : count ≡ k =
        reduced_rows_counts course.params.modulus columns of.table course.work.sums (count_of columns) count k lead other rows others
        (subst (λ x. IsReducedRows x columns course.work.sums (count_of columns) count lead rows) (sym is.modulus) reduced) h in
        omega (
          arith,
          ap length e,
          length-append forward (final ++ Done k ∷ []),
          length-append final (Done k ∷ []),
          hf.as_many,
          hg.as_many,
          ap (λ x. block_count x) same,
        )

-- the end of the work
pub end_of : {E : Type 0} (m : ℕ) (value : E → ℕ) (columns : ColumnList) (course : Course) (numbers : List ℕ) (rows finals : List (List (ℕ × E)))
    (told : Option Trace) → HasFinished m value columns course numbers rows finals → Holds course.pages (length course.pages) told
    → IsEnd m columns course (length finals) told
end_of m value columns course numbers rows finals told finished holds = let offered = finished.offered in record {
  lead = lead_at finals;
  rows = row_at value finals;
  unbroken = offered.unbroken;
  reduced = finished.reduced;
  pages = pages_counted m columns course offered.is_course offered.unbroken (length finals) (lead_at finals) (row_at value finals) finished.reduced;
  holds = holds;
}

-- the final rows, over rings that are one
pub finals_there : {R E : Type 0} (modulus : R → ℕ) (has : R → E → Bool) (value : R → E → ℕ) (ring old there : R) (columns : ColumnList)
    (course : Course) (blocks : ℕ)
    (numbers old_numbers : List ℕ) (rows old_rows finals uses : List (List (ℕ × E))) (told : Option Trace) → old ≡ ring → there ≡ ring
    → numbers ≡ old_numbers → rows ≡ old_rows → blocks ≡ block_count (count_of columns) → AreReduced (modulus old) (value old) finals
    → SameSpanOf (modulus old) (value old) old_rows finals → AreUses (modulus old) (has old) (value old) old_numbers old_rows finals uses
    → IsAt (modulus ring) (value ring) columns course blocks numbers rows told
    → AreFinals (modulus there) (value there) columns course (1 + blocks + 0) numbers rows finals uses told
finals_there modulus has value ring old there columns course blocks numbers old_numbers rows old_rows finals uses told eo et en er eb reduced same are at =
    let all : min (64 * blocks) (count_of columns) ≡ count_of columns = omega (arith, eb) in
    subst (λ r. AreFinals (modulus r) (value r) columns course (1 + blocks + 0) numbers rows finals uses told) (sym et)
    (finals_of (modulus ring) (value ring) columns course numbers rows finals uses {has = has ring} (1 + blocks + 0) told
    (subst (λ k. HasOffered (modulus ring) (value ring) columns course k numbers rows) all at.offered)
    (subst (λ r. AreReduced (modulus r) (value r) finals) eo reduced)
    (subst (λ xs. SameSpanOf (modulus ring) (value ring) xs finals) (sym er) (subst (λ r. SameSpanOf (modulus r) (value r) old_rows finals) eo same))
    (subst (λ xs. AreUses (modulus ring) (has ring) (value ring) xs rows finals uses) (sym en)
    (subst (λ xs. AreUses (modulus ring) (has ring) (value ring) old_numbers xs finals uses) (sym er)
    (subst (λ r. AreUses (modulus r) (has r) (value r) old_numbers old_rows finals uses) eo are)))
    (subst (λ k. Holds course.pages k told) (let z : 1 + blocks ≡ 1 + blocks + 0 = omega arith in z) at.holds))

pub have_there : {R E : Type 0} (modulus : R → ℕ) (has : R → E → Bool) (value : R → E → ℕ) (ring old there : R) (columns : ColumnList)
    (course : Course) (blocks : ℕ)
    (numbers old_numbers : List ℕ) (rows old_rows finals uses : List (List (ℕ × E))) (told : Option Trace) → old ≡ ring → there ≡ ring
    → numbers ≡ old_numbers → rows ≡ old_rows → AreReduced (modulus old) (value old) finals
    → SameSpanOf (modulus old) (value old) old_rows finals → AreUses (modulus old) (has old) (value old) old_numbers old_rows finals uses
    → HasOffered (modulus ring) (value ring) columns course (count_of columns) numbers rows → HasForward course.pages blocks told
    → HaveFinals (modulus there) (value there) columns course blocks numbers rows finals uses told
have_there modulus has value ring old there columns course blocks numbers old_numbers rows old_rows finals uses told eo et en er reduced same are offered
    forward =
    subst (λ r. HaveFinals (modulus r) (value r) columns course blocks numbers rows finals uses told) (sym et) (record {
      forward = forward;
      finished = finished_of (modulus ring) (value ring) columns course numbers rows finals uses offered
          (subst (λ r. AreReduced (modulus r) (value r) finals) eo reduced)
          (subst (λ xs. SameSpanOf (modulus ring) (value ring) xs finals) (sym er) (subst (λ r. SameSpanOf (modulus r) (value r) old_rows finals) eo same));
      made = made_by_uses (modulus ring) (value ring) columns course numbers rows finals uses {has = has ring} offered.is_course
          (subst (λ xs. AreUses (modulus ring) (has ring) (value ring) xs rows finals uses) (sym en)
          (subst (λ xs. AreUses (modulus ring) (has ring) (value ring) old_numbers xs finals uses) (sym er)
          (subst (λ r. AreUses (modulus r) (has r) (value r) old_numbers old_rows finals uses) eo are)));
    })
