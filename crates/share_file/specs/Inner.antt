-- What single steps of the code answer. No public clause cites these, so a reader need not believe them.
use Rattle.std.specs.Prelude.{◌≡◌, ℕ, ◌+◌, ◌%◌, ◌≤◌, ◌⊎◌, List, [], ◌∷◌, ◌++◌, length, codes}
use Rattle.std.specs.List.{flat_map, AllByRecursion}
use Rattle.byteorder.specs.Endian.{little_bytes}
use Rattle.column_order.specs.Columns.{column_count}
use Rattle.page_codec.specs.declared.params.Params.{Params}
use Rattle.page_codec.specs.declared.parts.FinalEntry.{FinalEntry}
use Rattle.page_codec.specs.declared.parts.FinalPage.{FinalPage}
use Rattle.page_codec.specs.declared.page.Page.{Page}
use Rattle.page_codec.specs.declared.page.Page.TheVariants.{Header, Forward, Final, Done}
use Rattle.page_codec.specs.Bounds.{IsFinalEntry}
use Rattle.page_codec.specs.Places.{FinalInTable, block_count}
use Rattle.page_codec.specs.Spelling.{spelling_of}
use Rattle.page_codec.specs.Inner.{Reader, number_at, both_at, mark_at}
use Rattle.share_model.specs.declared.share.ShareId.{ShareId}
use Rattle.share_file.specs.Spelling.{row_pages}

-- `MZVSHARE`, the index, and of how many
abbrev pub head_spelling : ShareId → List ℕ
head_spelling id = codes "MZVSHARE" ++ (little_bytes 4 id.index ++ little_bytes 4 id.of)

-- the same, read as numbers
unfoldable pub head_at : Reader (Unit {0} × (ℕ × ℕ))
head_at = both_at (mark_at 8 4995126715598920269) (both_at (number_at 4) (number_at 4))

-- the spellings of the pages of the rows from place first on, and of the last page
abbrev pub tail_spelling : ℕ → List FinalEntry → List ℕ
tail_spelling first rows = flat_map spelling_of (row_pages (block_count (length rows)) first rows ++ Done (first + length rows) ∷ [])

-- rows that a share of these parameters may have, where its table has n relations
pub record AreRows (p : Params) (n : ℕ) (rows : List FinalEntry) : Type 0 where
  pub few : length rows ≤ column_count p.weight p.depth
  pub entries : AllByRecursion IsFinalEntry rows
  pub in_table : AllByRecursion (FinalInTable p n) rows

-- the page's rows may stand behind so many
pub record Follows (p : Params) (n count : ℕ) (page : FinalPage) : Type 0 where
  pub first : page.first ≡ count
  pub few : count + length page.entries ≤ column_count p.weight p.depth
  pub in_table : AllByRecursion (FinalInTable p n) page.entries

-- the page may stand behind so many rows, with these bytes behind it
abbrev pub FitsTail : Params → ℕ → ℕ → Page → List ℕ → Type 0
FitsTail p n count (Header q) rest = ⊥
FitsTail p n count (Forward page) rest = ⊥
FitsTail p n count (Final page) rest = Follows p n count page
FitsTail p n count (Done rows) rest = (rows ≡ count) × (rest ≡ [])

-- the pages in front are full, or nothing comes behind
abbrev pub Continues : List FinalEntry → List FinalEntry → Type 0
Continues front tail = (length front % 64 ≡ 0) ⊎ (tail ≡ [])

-- how rows go on behind those in front, where the rest is left of their spelling
pub record Tail (front rows : List FinalEntry) (rest : List ℕ) : Type 0 where
  pub tail : List FinalEntry
  pub rows_are : rows ≡ front ++ tail
  pub continues : Continues front tail
  pub rest_is : rest ≡ tail_spelling (length front) tail

-- the rows in front are read, and the rest is left of the bytes
pub record Walked (p : Params) (n : ℕ) (bytes : List ℕ) (front : List FinalEntry) (rest : List ℕ) : Type 0 where
  pub are_rows : AreRows p n front
  pub sound : (tail : List FinalEntry) → Continues front tail → rest ≡ tail_spelling (length front) tail → bytes ≡ tail_spelling 0 (front ++ tail)
  pub complete : (rows : List FinalEntry) → AreRows p n rows → bytes ≡ tail_spelling 0 rows → Tail front rows rest
