-- A version 1 file. It differs from a file of version 2 in the spelling of the Header alone, which has no preferred words.
use Rattle.std.specs.Prelude.{◌≡◌, ℕ, ◌<◌, Some, List, [], ◌∷◌, ◌++◌, length}
use Rattle.page_codec.specs.declared.params.Params.{Params}
use Rattle.page_codec.specs.declared.page.Page.{Page}
use Rattle.page_codec.specs.declared.page.Page.TheVariants.{Header, Forward, Final, Done}
use Rattle.page_codec.specs.Bounds.{IsPage, IsOldParams}
use Rattle.page_codec.specs.Places.{AllFit}
use Rattle.page_codec.specs.Spelling.{spelling_of, old_spelling_of}
use Rattle.page_file.specs.Notes.{header_of}
use Rattle.table_model.specs.ListedSpan.{relation_count}
use Rattle.file_model.specs.Prefixes.{IsPages, IsSound}

abbrev pub IsOldPage : Page → Type 0
IsOldPage (Header p) = IsOldParams p
IsOldPage (Forward p) = IsPage (Forward p)
IsOldPage (Final p) = IsPage (Final p)
IsOldPage (Done rows) = IsPage (Done rows)

abbrev pub old_spelling : Page → List ℕ
old_spelling (Header p) = old_spelling_of p
old_spelling (Forward p) = spelling_of (Forward p)
old_spelling (Final p) = spelling_of (Final p)
old_spelling (Done rows) = spelling_of (Done rows)

-- the pages, each behind an open gate
abbrev pub old_opened : List Page → List ℕ
old_opened [] = []
old_opened (page ∷ pages) = 1 ∷ (old_spelling page ++ old_opened pages)

-- and then one closed gate
abbrev pub old_file_of : List Page → List ℕ
old_file_of pages = old_opened pages ++ 0 ∷ []

-- the version 1 file of the parameters
pub record IsOldFile (params : Params) (bytes : List ℕ) : Type 0 where
  pub none_preferred : params.preferred ≡ []
  pub sound : IsSound params
  pub pages : List Page
  pub are_pages : IsPages params pages
  pub bytes_are : bytes ≡ old_file_of pages

-- no page is spelled in front of the bytes
abbrev pub NoOldPage : List ℕ → Type 0
NoOldPage bytes = (page : Page) (rest : List ℕ) → IsOldPage page → ¬ (bytes ≡ old_spelling page ++ rest)

-- behind an open gate some bytes stand, and no page
pub record IsUnread (bytes : List ℕ) : Type 0 where
  pub rest : List ℕ
  pub bytes_are : bytes ≡ 1 ∷ rest
  pub more : 0 < length rest
  pub none : NoOldPage rest

-- the first page is a header, and each fits its place in a file of its parameters
abbrev pub AreFit : List Page → Type 0
AreFit [] = Unit {0}
AreFit (page ∷ pages) =
    (params : Params) × (header_of page ≡ Some params) × AllFit params (relation_count params.weight params.depth) (page ∷ pages)
