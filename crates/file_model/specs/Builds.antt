-- What building and going on with a build say of the bytes that stand there, and what they leave.
use Rattle.std.specs.Prelude.{◌≡◌, ℕ, ◌-◌, ◌*◌, ◌<◌, Some, List, [], ◌∷◌, ◌++◌, length, take, slice_get}
use Rattle.zeta_model.specs.declared.Letter.{Letter}
use Rattle.column_order.specs.Columns.{ColumnList}
use Rattle.page_codec.specs.declared.params.Params.{Params}
use Rattle.page_codec.specs.declared.page.Page.{Page}
use Rattle.page_codec.specs.declared.page.Page.TheVariants.{Done}
use Rattle.page_codec.specs.Places.{FitsPlace, row_count}
use Rattle.page_file.specs.Files.{IsForeign, file_of, IsSealed, IsBadPage, ReadsAs}
use Rattle.page_file.specs.Notes.{params_of}
use Rattle.table_model.specs.Conversion.{Converts}
use Rattle.table_model.specs.ListedSpan.{count_of, relation_count}
use Rattle.table_model.specs.ReducedRows.{IsUnbroken, BreaksFirst}
use Rattle.table_model.specs.Faults.{IsNotInvertible, IsFirstWithout}
use Rattle.file_model.specs.TableOf.{IsTableOf}
use Rattle.file_model.specs.Pages.{Work}
use Rattle.file_model.specs.FinalRows.{finals_of, IsSumOfForward}
use Rattle.file_model.specs.Resuming.{entries_of, blocks_of, kept_of, resumed_work, AllSuit, IsNotForward, Differs, IsResumed}

-- what a build that came to its end tells
pub record Figures : Type 0 where
  -- the listed relations
  pub relations : ℕ
  -- the final rows
  pub rows : ℕ
  -- the relations that were offered, behind those whose rows were kept
  pub offered : ℕ
  -- the sealed pages
  pub pages : ℕ

-- what is said of the bytes
pub data Answer : Type 0 where
  Exists : ℕ → Answer
  Foreign : ℕ → Answer
  BadPage : ℕ → Answer
  Other : Params → Answer
  Misfit : ℕ → Answer
  NoInverseWord : ℕ → List Letter → Answer
  NotForward : ℕ → Answer
  NoInverseRelation : ℕ → ℕ → Answer
  DiffersAt : ℕ → Answer
  Built : Figures → Answer

-- the work that goes on from sealed pages
abbrev pub work_from : Params → ColumnList → List Page → Work
work_from params columns sealed = resumed_work params.modulus columns (kept_of sealed)

-- the table converts, the rows of the forward pages can be put back, and the work that goes on from them is not broken below n
pub record GoesOn (params : Params) (columns : ColumnList) (sealed : List Page) (n : ℕ) : Type 0 where
  pub are_columns : IsTableOf params columns
  pub converts : Converts params.modulus columns
  pub suit : AllSuit params.modulus (entries_of sealed)
  pub unbroken : IsUnbroken params.modulus columns ((work_from params columns sealed).sums) n

-- the page at place i fits behind those before it, in a file of these parameters
abbrev pub FitsAt : Params → List Page → ℕ → Type 0
FitsAt params pages i = (page : Page) → slice_get pages i ≡ Some page
    → FitsPlace params (relation_count params.weight params.depth) (take i pages) page

-- page 0 is a header, and page i fits its place in a file of its parameters
abbrev pub FitsOwn : List Page → ℕ → Type 0
FitsOwn pages i = (params : Params) × (params_of pages ≡ Some params) × FitsAt params pages i

-- a first page that is a header has these parameters
abbrev pub HasParams : Params → List Page → Type 0
HasParams params pages = (q : Params) → params_of pages ≡ Some q → q ≡ params

-- reading refuses nothing, the header is that of the parameters, and each page fits its place
pub record IsOurs (params : Params) (bytes : List ℕ) (sealed : List Page) : Type 0 where
  pub reads : ReadsAs sealed bytes
  pub params_are : HasParams params sealed
  pub fit : (i : ℕ) → i < length sealed → FitsAt params sealed i

-- the figures of work that goes on from sealed pages and has these pages at its end
pub record AreFigures (columns : ColumnList) (sealed done : List Page) (figures : Figures) : Type 0 where
  pub relations : figures.relations ≡ count_of columns
  pub rows : figures.rows ≡ row_count done
  pub offered : figures.offered ≡ count_of columns - 64 * blocks_of sealed
  pub pages : figures.pages ≡ length done

-- the work goes on to its end from the sealed pages of the bytes, and has these pages
pub record IsWorked (params : Params) (bytes : List ℕ) (columns : ColumnList) (sealed pages : List Page) : Type 0 where
  pub ours : IsOurs params bytes sealed
  pub goes_on : GoesOn params columns sealed (count_of columns)
  pub resumed : IsResumed params sealed pages

-- what going on says of the bytes: the first that holds, or that it came to its end
abbrev pub ResumeEnds : Params → List ℕ → Answer → Type 0
ResumeEnds params bytes (Exists n) = ⊥
ResumeEnds params bytes (Foreign n) = IsForeign bytes × (length bytes ≡ n)
ResumeEnds params bytes (BadPage i) = ¬ (IsForeign bytes) × IsBadPage i bytes
ResumeEnds params bytes (Other q) = (sealed : List Page) × ReadsAs sealed bytes × (params_of sealed ≡ Some q) × ¬ (q ≡ params)
ResumeEnds params bytes (Misfit i) =
    (sealed : List Page) × ReadsAs sealed bytes × HasParams params sealed × IsFirstWithout (FitsAt params sealed) (length sealed) i
ResumeEnds params bytes (NoInverseWord residue u) =
    (sealed : List Page) × (columns : ColumnList) × IsOurs params bytes sealed × IsTableOf params columns × IsNotInvertible params.modulus columns u residue
ResumeEnds params bytes (NotForward i) =
    (sealed : List Page) × (columns : ColumnList) × IsOurs params bytes sealed × IsTableOf params columns × Converts params.modulus columns
    × IsNotForward params.modulus sealed i
ResumeEnds params bytes (NoInverseRelation residue n) =
    (sealed : List Page) × (columns : ColumnList) × IsOurs params bytes sealed × GoesOn params columns sealed n × (n < count_of columns)
    × BreaksFirst params.modulus columns ((work_from params columns sealed).sums) n residue
ResumeEnds params bytes (DiffersAt i) =
    (sealed pages : List Page) × (columns : ColumnList) × IsWorked params bytes columns sealed pages × Differs sealed pages i
ResumeEnds params bytes (Built figures) =
    (sealed pages : List Page) × (columns : ColumnList) × IsWorked params bytes columns sealed pages × (take (length sealed) pages ≡ sealed)
    × AreFigures columns sealed pages figures

-- building works only where nothing stands
abbrev pub BuildEnds : Params → List ℕ → Answer → Type 0
BuildEnds params [] answer = ResumeEnds params [] answer
BuildEnds params (b ∷ bytes) answer = answer ≡ Exists (length (b ∷ bytes))

-- the pages that the work gives which goes on from the sealed pages of the bytes, as a file
pub record IsLeft (params : Params) (bytes contents : List ℕ) : Type 0 where
  pub sealed : List Page
  pub are_sealed : IsSealed sealed bytes
  pub pages : List Page
  pub are_pages : IsResumed params sealed pages
  pub contents_are : contents ≡ file_of pages

-- the sealed pages of the bytes are the first ones of the file, its last page is Done, and each final row follows from the forward rows
pub record HasGoneOn (params : Params) (bytes contents : List ℕ) : Type 0 where
  pub sealed : List Page
  pub are_sealed : IsSealed sealed bytes
  pub pages : List Page
  pub contents_are : contents ≡ file_of pages
  pub kept : take (length sealed) pages ≡ sealed
  pub rows : ℕ
  pub front : List Page
  pub closed : pages ≡ front ++ Done rows ∷ []
  pub follow : (i : ℕ) → i < length (finals_of pages) → IsSumOfForward params.modulus pages i
