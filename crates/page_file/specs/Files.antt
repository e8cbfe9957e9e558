-- The bytes of a file of pages: gates and pages, what reading passes, and where it is refused. A gate is one byte, open where it is 1.
use Rattle.std.specs.Prelude.{◌≡◌, ◌≢◌, ◌⊎◌, ℕ, ◌<◌, List, [], ◌∷◌, ◌++◌, length, slice_index}
use Rattle.std.specs.List.{AllByRecursion}
use Rattle.page_codec.specs.declared.page.Page.{Page}
use Rattle.page_codec.specs.Bounds.{IsPage}
use Rattle.page_codec.specs.Spelling.{spelling_of, BeginsWith}

-- reading stops: there is no byte, or one alone, or one that is not an open gate
abbrev pub Stops : List ℕ → Type 0
Stops [] = Unit {0}
Stops (gate ∷ []) = Unit {0}
Stops (gate ∷ b ∷ rest) = gate ≢ 1

-- over 107 bytes, of which the first is not an open gate
pub record IsForeign (bytes : List ℕ) : Type 0 where
  pub long : 107 < length bytes
  pub closed : slice_index bytes 0 ≢ 1

-- the pages, each behind an open gate
abbrev pub opened : List Page → List ℕ
opened [] = []
opened (page ∷ pages) = 1 ∷ (spelling_of page ++ opened pages)

-- and then one closed gate
abbrev pub file_of : List Page → List ℕ
file_of pages = opened pages ++ 0 ∷ []

-- the sealed pages of the bytes are these: they stand behind open gates, and then reading stops
pub record IsSealed (pages : List Page) (bytes : List ℕ) : Type 0 where
  pub each : AllByRecursion IsPage pages
  pub rest : List ℕ
  pub bytes_are : bytes ≡ opened pages ++ rest
  pub stops : Stops rest

-- no page is spelled in front of the bytes
abbrev pub NoPage : List ℕ → Type 0
NoPage bytes = (page : Page) → IsPage page → ¬ (BeginsWith bytes page)

-- page i is the first behind an open gate that is not spelled there
pub record IsBadPage (i : ℕ) (bytes : List ℕ) : Type 0 where
  pub before : List Page
  pub each : AllByRecursion IsPage before
  pub as_many : length before ≡ i
  pub rest : List ℕ
  pub bytes_are : bytes ≡ opened before ++ 1 ∷ rest
  pub more : 0 < length rest
  pub none : NoPage rest

-- the bytes are not foreign, and read as these pages
pub record ReadsAs (pages : List Page) (bytes : List ℕ) : Type 0 where
  pub sealed : IsSealed pages bytes
  pub known : ¬ (IsForeign bytes)

-- the bytes read as the pages, with one page more or without it
abbrev pub ReadsBeforeOrAfter : List Page → Page → List ℕ → Type 0
ReadsBeforeOrAfter pages page bytes = ReadsAs pages bytes ⊎ ReadsAs (pages ++ page ∷ []) bytes
