-- The rows of the final pages, and files that are complete.
use Rattle.std.specs.Prelude.{◌≡◌, ℕ, List, [], ◌∷◌, ◌++◌, length, get_or, Some}
use Rattle.linear_model.specs.Rows.{combination, SameRow}
use Rattle.column_order.specs.Columns.{ColumnList}
use Rattle.echelon.specs.Lists.{lead_of}
use Rattle.page_codec.specs.declared.params.Params.{Params}
use Rattle.page_codec.specs.declared.parts.ForwardEntry.{ForwardEntry}
use Rattle.page_codec.specs.declared.parts.FinalEntry.{FinalEntry}
use Rattle.page_codec.specs.declared.page.Page.{Page}
use Rattle.page_codec.specs.declared.page.Page.TheVariants.{Header, Forward, Final, Done}
use Rattle.page_codec.specs.Places.{AllFit}
use Rattle.page_file.specs.Files.{ReadsAs}
use Rattle.page_file.specs.Notes.{params_of}
use Rattle.table_model.specs.ListedSpan.{relation_count}
use Rattle.table_model.specs.Complete.{IsComplete}
use Rattle.table_model.specs.Faults.{Verdict, IsVerdict}
use Rattle.file_model.specs.TableOf.{IsTableOf}
use Rattle.file_model.specs.Pages.{pairs_of}
use Rattle.file_model.specs.Resuming.{entries_of}

abbrev pub finals_of_page : Page → List FinalEntry
finals_of_page (Header params) = []
finals_of_page (Forward page) = []
finals_of_page (Final page) = page.entries
finals_of_page (Done rows) = []

-- the entries of all final pages, in order
abbrev pub finals_of : List Page → List FinalEntry
finals_of [] = []
finals_of (page ∷ pages) = finals_of_page page ++ finals_of pages

abbrev pub no_entry : FinalEntry
no_entry = record { row = []; combination = [] }

-- row i of the final pages, zero past the last
abbrev pub final_row : List Page → ℕ → ℕ → ℕ
final_row pages i = pairs_of ((get_or (finals_of pages) i no_entry).row)

abbrev pub final_combination : List Page → ℕ → ℕ → ℕ
final_combination pages i = pairs_of ((get_or (finals_of pages) i no_entry).combination)

-- where row i of the final pages leads
abbrev pub final_lead : List Page → ℕ → ℕ
final_lead pages i = lead_of ((get_or (finals_of pages) i no_entry).row)

abbrev pub no_forward_entry : ForwardEntry
no_forward_entry = record { number = 0; row = []; combination = [] }

-- row i of the forward pages, zero past the last
abbrev pub forward_row : List Page → ℕ → ℕ → ℕ
forward_row pages i = pairs_of ((get_or (entries_of pages) i no_forward_entry).row)

abbrev pub forward_combination : List Page → ℕ → ℕ → ℕ
forward_combination pages i = pairs_of ((get_or (entries_of pages) i no_forward_entry).combination)

-- final row i is a sum of the forward rows, each so many times, and its combination is the same sum of theirs
pub record IsSumOfForward (m : ℕ) (pages : List Page) (i : ℕ) : Type 0 where
  pub times : ℕ → ℕ
  pub row : SameRow m (final_row pages i) (combination (length (entries_of pages)) (forward_row pages) times)
  pub combined : SameRow m (final_combination pages i) (combination (length (entries_of pages)) (forward_combination pages) times)

-- this is found of the final rows of the pages
abbrev pub IsFound : Params → ColumnList → List Page → Verdict → Type 0
IsFound params columns pages =
    IsVerdict params.modulus columns (length (finals_of pages)) (final_lead pages) (final_row pages) (final_combination pages)

-- the last page is Done
abbrev pub EndsDone : List Page → Type 0
EndsDone pages = (rows : ℕ) × (front : List Page) × (pages ≡ front ++ Done rows ∷ [])

-- the final rows of the pages are complete for the parameters
pub record AreComplete (params : Params) (pages : List Page) : Type 0 where
  pub columns : ColumnList
  pub are_columns : IsTableOf params columns
  pub lead : ℕ → ℕ
  pub complete : IsComplete params.modulus columns (length (finals_of pages)) lead (final_row pages) (final_combination pages)

-- the first page is a header, each page fits its place, the last one closes the file, and the final rows are complete
pub record IsWholeFile (bytes : List ℕ) : Type 0 where
  pub pages : List Page
  pub reads : ReadsAs pages bytes
  pub params : Params
  pub header : params_of pages ≡ Some params
  pub fit : AllFit params (relation_count params.weight params.depth) pages
  pub rows : ℕ
  pub front : List Page
  pub closed : pages ≡ front ++ Done rows ∷ []
  pub complete : AreComplete params pages
