-- What a page file notes of a disk that was looked at, and which contents the notes suit.
use Rattle.std.specs.Prelude.{◌≡◌, ◌≢◌, ℕ, ◌+◌, ◌-◌, ◌≤◌, ◌==◌, if◌then◌else◌, Bool, IsTrue, List, [], ◌∷◌, ◌++◌, length, slice_index, Option, Some, None}
use Rattle.page_codec.specs.declared.params.Params.{Params}
use Rattle.page_codec.specs.declared.page.Page.{Page}
use Rattle.page_codec.specs.declared.page.Page.TheVariants.{Header, Forward, Final, Done}
use Rattle.page_codec.specs.Spelling.{spelling_of}
use Rattle.page_codec.specs.Places.{gate_place}
use Rattle.page_file.specs.Files.{opened, ReadsAs}

pub record Notes : Type 0 where
  -- the place of the gate of each sealed page, and then the place where reading ended
  pub gates : List ℕ
  -- those of page 0, where it is a Header
  pub params : Option Params
  -- one closed gate is the last byte, where the next page goes
  pub is_ready : Bool
  -- no call on the disk has failed that leaves open what stands there
  pub is_live : Bool

-- how many pages are sealed
abbrev pub count_of : Notes → ℕ
count_of notes = length notes.gates - 1

-- the place where reading ended
abbrev pub end_of : Notes → ℕ
end_of notes = slice_index notes.gates (count_of notes)

abbrev pub header_of : Page → Option Params
header_of (Header p) = Some p
header_of (Forward p) = None
header_of (Final p) = None
header_of (Done rows) = None

-- the parameters of the pages
abbrev pub params_of : List Page → Option Params
params_of [] = None
params_of (page ∷ pages) = header_of page

-- the notes, with one page more
abbrev pub with_page : Notes → Page → Notes
with_page notes page = record notes {
  gates = notes.gates ++ (end_of notes + (1 + length (spelling_of page))) ∷ [];
  params = if count_of notes == 0 then header_of page else notes.params;
}

-- they are those of these pages
pub record AreNotes (pages : List Page) (notes : Notes) : Type 0 where
  pub count : length notes.gates ≡ length pages + 1
  pub places : (i : ℕ) → i ≤ length pages → slice_index notes.gates i ≡ gate_place pages i
  pub params : notes.params ≡ params_of pages

-- behind the pages stands one byte, which is no open gate
pub record IsReady (pages : List Page) (contents : List ℕ) : Type 0 where
  pub gate : ℕ
  pub closed : gate ≢ 1
  pub contents_are : contents ≡ opened pages ++ gate ∷ []

-- the notes suit the contents
pub record Suits (notes : Notes) (contents : List ℕ) : Type 0 where
  pub pages : List Page
  pub are_notes : AreNotes pages notes
  pub reads : ReadsAs pages contents
  pub ready : IsTrue notes.is_ready → IsReady pages contents
