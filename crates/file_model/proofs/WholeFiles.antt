-- The file of parameters is whole.
use Rattle.std.specs.Prelude.{◌≡◌, ℕ, Some, List, [], ◌∷◌, ◌++◌}
use Rattle.std.proofs.Common.{sym, ◌∙◌, ap, subst}
use Rattle.std.proofs.lemmas.List.{append_assoc}
use Rattle.std.specs.List.{AllByRecursion}
use Rattle.column_order.specs.Columns.{ColumnList}
use Rattle.page_codec.specs.declared.params.Params.{Params}
use Rattle.page_codec.specs.declared.page.Page.{Page}
use Rattle.page_codec.specs.declared.page.Page.TheVariants.{Header, Done}
use Rattle.page_codec.specs.Bounds.{IsParams, IsPage}
use Rattle.page_codec.specs.Places.{AllFit}
use Rattle.page_file.specs.Files.{ReadsAs}
use Rattle.page_file.specs.Notes.{params_of}
use Rattle.page_file.proofs.Reading.{file_reads}
use Rattle.table_model.specs.Conversion.{Converts}
use Rattle.table_model.specs.ListedSpan.{values_of, count_of, relation_count}
use Rattle.table_model.specs.ReducedRows.{IsUnbroken}
use Rattle.file_model.specs.Pages.{Work, ArePages, listed_work}
use Rattle.file_model.specs.Pages.ArePages.{none, begun, whole}
use Rattle.file_model.specs.FinalRows.{IsWholeFile}
use Rattle.file_model.specs.Prefixes.{IsPages, IsFile, IsSound}
use Rattle.file_model.proofs.ParamColumns.{same_columns}
use Rattle.file_model.proofs.CompleteFiles.{pages_complete}
use Rattle.file_model.proofs.PlacedPages.{pages_placed}

-- pages that begin with the header and end with the last page
pub record IsClosed (params : Params) (pages : List Page) : Type 0 where
  pub header : params_of pages ≡ Some params
  pub rows : ℕ
  pub front : List Page
  pub closed : pages ≡ front ++ Done rows ∷ []

-- so are those of work that is broken nowhere
pub work_closed : (params : Params) (columns : ColumnList) (work : Work) → Converts params.modulus columns
    → IsUnbroken params.modulus columns work.sums (count_of columns) → (pages : List Page) → ArePages params columns work pages → IsClosed params pages
work_closed params columns work converts un pages (none a x) = absurd (a converts)
work_closed params columns work converts un pages (begun c n r l b f hf x) = absurd (un n l r b.0)
work_closed params columns work converts un pages (whole c _ count lead rows h f g hf hg x) = record {
  header = ap params_of x;
  rows = count;
  front = Header params ∷ (f ++ g);
  closed = x ∙ ap (λ ps. Header params ∷ ps) (sym (append_assoc f g (Done count ∷ [])));
}

sound_closed : (params : Params) → IsSound params → (pages : List Page) → IsPages params pages → IsClosed params pages
sound_closed params sound pages h =
    let same : sound.columns ≡ h.columns = same_columns params sound.columns h.columns sound.are_columns h.are_columns in
    work_closed params h.columns (listed_work params.modulus h.columns) (subst (Converts params.modulus) same sound.converts)
    (subst (λ k. IsUnbroken params.modulus k (values_of params.modulus k) (count_of k)) same sound.unbroken) pages h.are_pages

pub file_is_whole : (params : Params) → IsParams params → (bytes : List ℕ) → IsFile params bytes → IsWholeFile bytes
file_is_whole params fits bytes h =
    let placed : AllByRecursion IsPage h.pages × AllFit params (relation_count params.weight params.depth) h.pages =
    pages_placed params fits h.pages h.are_pages in
    let ends : IsClosed params h.pages = sound_closed params h.sound h.pages h.are_pages in
    record {
      pages = h.pages;
      reads = subst (ReadsAs h.pages) (sym h.bytes_are) (file_reads h.pages placed.0);
      params = params;
      header = ends.header;
      fit = placed.1;
      rows = ends.rows;
      front = ends.front;
      closed = ends.closed;
      complete = pages_complete params h.sound h.pages h.are_pages;
    }
