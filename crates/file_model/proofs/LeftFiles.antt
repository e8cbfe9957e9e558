-- What building and going on leave over a prefix: the file of the parameters, or its pages up to the relation at which the work is broken.
use Rattle.std.specs.Prelude.{◌≡◌, ℕ, suc, ◌+◌, ◌/◌, ◌<◌, List, length, take}
use Rattle.std.proofs.Common.{sym, ◌∙◌, ap, subst, arith}
use Rattle.column_order.specs.Columns.{ColumnList}
use Rattle.table_model.specs.Conversion.{Converts}
use Rattle.table_model.specs.ListedSpan.{values_of, count_of}
use Rattle.table_model.specs.ReducedRows.{BreaksFirst}
use Rattle.table_model.proofs.CompleteRows.{listed_value-table}
use Rattle.table_model.proofs.FirstFaults.{first_break}
use Rattle.page_codec.specs.declared.params.Params.{Params}
use Rattle.file_model.specs.TableOf.{IsTableOf}
use Rattle.page_codec.specs.declared.page.Page.{Page}
use Rattle.file_model.specs.Pages.{ArePages, listed_work}
use Rattle.file_model.specs.Pages.ArePages.{none, begun, whole}
use Rattle.page_file.specs.Files.{file_of, IsSealed}
use Rattle.file_model.specs.Prefixes.{IsPages, IsFile, IsPrefix}
use Rattle.file_model.specs.Resuming.{kept_of, IsResumed}
use Rattle.file_model.specs.Builds.{Figures, ResumeEnds, IsLeft}
use Rattle.file_model.specs.Builds.Answer.{Built, NoInverseRelation}
use Rattle.file_model.proofs.ParamColumns.{same_columns}
use Rattle.page_file.proofs.Reading.{sealed_unique}
use Rattle.file_model.proofs.TrueRows.{IsTrueKept}
use Rattle.file_model.proofs.SameWork.{unbroken_from, breaks_first_from}
use Rattle.file_model.proofs.Keeping.{first_pages_keep, resumed_is}

-- the listed work, at other columns of the same parameters
pub pages_at : (params : Params) (columns : ColumnList) → IsTableOf params columns → (pages : List Page) → IsPages params pages
    → ArePages params columns (listed_work params.modulus columns) pages
pages_at params columns of pages h = subst (λ c. ArePages params c (listed_work params.modulus c) pages)
    (same_columns params h.columns columns h.are_columns of) h.are_pages

module _ (params : Params) where
  sealed_are : (k : ℕ) (bytes : List ℕ) (p : IsPrefix params k bytes) (sealed : List Page) → IsSealed sealed bytes → sealed ≡ take k p.pages
  sealed_are k bytes p sealed h = let f = p.reads in sealed_unique sealed (take k p.pages) bytes h f.sealed

  -- what is left over a prefix are the pages of the parameters
  pub left_is : (k : ℕ) (bytes contents : List ℕ) (p : IsPrefix params k bytes) → IsLeft params bytes contents → contents ≡ file_of p.pages
  left_is k bytes contents p h =
      let moved : IsResumed params (take k p.pages) h.pages =
      subst (λ s. IsResumed params s h.pages) (sealed_are k bytes p h.sealed h.are_sealed) h.are_pages in
      h.contents_are ∙ ap file_of (resumed_is params p.pages h.pages k p.are_pages moved)

  keeps_true : (k : ℕ) (bytes : List ℕ) (p : IsPrefix params k bytes) (sealed : List Page) → IsSealed sealed bytes → (columns : ColumnList)
      → IsTableOf params columns → Converts params.modulus columns
      → IsTrueKept params.modulus columns (kept_of sealed)
  keeps_true k bytes p sealed h columns of c =
      subst (λ s. IsTrueKept params.modulus columns (kept_of s)) (sym (sealed_are k bytes p sealed h))
      (first_pages_keep params columns of p.pages (pages_at params columns of p.pages p.are_pages) k c)

  -- work that came to its end over a prefix leaves the file
  pub built_file : (k : ℕ) (figures : Figures) (bytes contents : List ℕ) → IsPrefix params k bytes → ResumeEnds params bytes (Built figures)
      → IsLeft params bytes contents → IsFile params contents
  built_file k figures bytes contents p (sealed, pages, columns, worked, same, told) left =
      let ours = worked.ours in let reads = ours.reads in let on = worked.goes_on in let of = on.are_columns in
      record {
        sound = record {
          columns = columns;
          are_columns = of;
          converts = on.converts;
          unbroken = unbroken_from params.modulus columns of.table on.converts (kept_of sealed)
              (keeps_true k bytes p sealed reads.sealed columns of on.converts)
              (count_of columns) on.unbroken;
        };
        pages = p.pages;
        are_pages = p.are_pages;
        bytes_are = left_is k bytes contents p left;
      }

  -- work that is broken at n leaves the header and the forward pages of the whole blocks below n
  pub broken_file : (k n residue : ℕ) (bytes contents : List ℕ) → IsPrefix params k bytes → ResumeEnds params bytes (NoInverseRelation residue n)
      → IsLeft params bytes contents → (pages : List Page) × IsPages params pages × (contents ≡ file_of pages) × (length pages ≡ 1 + n / 64)
  broken_file k n residue bytes contents p (sealed, columns, ours, on, few, breaks) left =
      let reads = ours.reads in let of = on.are_columns in
      let listed : BreaksFirst params.modulus columns (values_of params.modulus columns) n residue =
      breaks_first_from params.modulus columns of.table on.converts (kept_of sealed)
      (keeps_true k bytes p sealed reads.sealed columns of on.converts) n residue breaks in
      (p.pages, p.are_pages, left_is k bytes contents p left, as_many columns of on.converts listed few (pages_at params columns of p.pages p.are_pages))
    where
      as_many : (columns : ColumnList) (of : IsTableOf params columns) → Converts params.modulus columns
          → BreaksFirst params.modulus columns (values_of params.modulus columns) n residue → n < count_of columns
          → ArePages params columns (listed_work params.modulus columns) p.pages → length p.pages ≡ 1 + n / 64
      as_many columns of c listed few (none a x) = absurd (a c)
      as_many columns of c listed few (begun d i r l b f hf x) =
          let m : ℕ = params.modulus in
          let t : (n ≡ i) × (residue ≡ r) = first_break m columns of.table (values_of m columns)
          (listed_value-table m columns of.table) c n i residue r listed b in
          ap length x ∙ ap suc (hf.as_many ∙ ap (λ z. z / 64) (sym t.0)) ∙ omega arith
      as_many columns of c listed few (whole d un count lead rows h f g hf hg x) = absurd (un n few residue listed.0)
