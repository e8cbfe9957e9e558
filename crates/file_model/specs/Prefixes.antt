-- The file of the parameters, and the bytes that a build of it may leave on its way.
use Rattle.std.specs.Prelude.{◌≡◌, ℕ, ◌≤◌, List, length, take}
use Rattle.column_order.specs.Columns.{ColumnList}
use Rattle.page_codec.specs.declared.params.Params.{Params}
use Rattle.page_codec.specs.declared.page.Page.{Page}
use Rattle.page_file.specs.Files.{file_of, ReadsAs}
use Rattle.table_model.specs.Conversion.{Converts}
use Rattle.table_model.specs.ListedSpan.{values_of, count_of}
use Rattle.table_model.specs.ReducedRows.{IsUnbroken}
use Rattle.file_model.specs.TableOf.{IsTableOf}
use Rattle.file_model.specs.Pages.{ArePages, listed_work}

-- the pages of the parameters: those of the work on their listed relations
pub record IsPages (params : Params) (pages : List Page) : Type 0 where
  pub columns : ColumnList
  pub are_columns : IsTableOf params columns
  pub are_pages : ArePages params columns (listed_work params.modulus columns) pages

-- the table converts, and its work is not broken
pub record IsSound (params : Params) : Type 0 where
  pub columns : ColumnList
  pub are_columns : IsTableOf params columns
  pub converts : Converts params.modulus columns
  pub unbroken : IsUnbroken params.modulus columns (values_of params.modulus columns) (count_of columns)

-- the bytes are the file of the parameters
pub record IsFile (params : Params) (bytes : List ℕ) : Type 0 where
  pub sound : IsSound params
  pub pages : List Page
  pub are_pages : IsPages params pages
  pub bytes_are : bytes ≡ file_of pages

-- the bytes read as the first k pages of the parameters
pub record IsPrefix (params : Params) (k : ℕ) (bytes : List ℕ) : Type 0 where
  pub pages : List Page
  pub are_pages : IsPages params pages
  pub within : k ≤ length pages
  pub reads : ReadsAs (take k pages) bytes

-- as the first k or more
abbrev pub HasPages : Params → ℕ → List ℕ → Type 0
HasPages params k bytes = (j : ℕ) × (k ≤ j) × IsPrefix params j bytes
