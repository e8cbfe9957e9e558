-- What single steps of the code answer. No public clause cites these, so a reader need not believe them.
use Rattle.std.specs.Prelude.{◌≡◌, ◌≢◌, ℕ, ◌+◌, ◌*◌, ◌<◌, ◌≤◌, List, [], ◌∷◌, ◌++◌, length, take, slice_index, Option, Some, None, IfSome, IfNone, IsSomeAnd, Result, OnOk}
use Rattle.std.specs.List.{AllByRecursion}
use Rattle.outside_io.specs.Moments.{settled}
use Rattle.outside_io.specs.Traces.{Trace}
use Rattle.page_codec.specs.declared.page.Page.{Page}
use Rattle.page_codec.specs.Bounds.{IsPage}
use Rattle.page_codec.specs.Spelling.{spelling_of, BeginsWith}
use Rattle.page_file.specs.Files.{opened, file_of, NoPage, IsSealed, ReadsAs, ReadsBeforeOrAfter}
use Rattle.page_file.specs.Notes.{Notes, AreNotes, IsReady, end_of}
use Rattle.page_file.specs.Stays.{Through, IsSettled}
use Rattle.page_file.specs.Puts.{StandsAt}
use Rattle.page_file.specs.declared.fault.FileFault.{FileFault}
use Rattle.page_file.specs.declared.fault.FileFault.TheVariants.{DiskFault, Foreign, BadPage, Memory}
use Rattle.page_file.specs.declared.front.Front.{Front}
use Rattle.page_file.specs.declared.front.Front.TheVariants.{Closed, Sealed, Short}

-- places of gates, each with its page at most 2,884,107 bytes behind the one before
pub record AreGates (gates : List ℕ) : Type 0 where
  pub some : 0 < length gates
  pub apart : (i : ℕ) → i + 1 < length gates → slice_index gates i < slice_index gates (i + 1)
  pub near : (i : ℕ) → i < length gates → slice_index gates i ≤ i * 2884107

-- an open gate and a page stand in front
pub record IsFirst (bytes : List ℕ) (page : Page) (size : ℕ) : Type 0 where
  pub is_page : IsPage page
  pub rest : List ℕ
  pub bytes_are : bytes ≡ 1 ∷ (spelling_of page ++ rest)
  pub size_is : size ≡ 1 + length (spelling_of page)

-- no page stands behind an open gate, or there is no byte
pub record IsShort (bytes : List ℕ) : Type 0 where
  pub unread : 0 < length bytes → (rest : List ℕ) × (bytes ≡ 1 ∷ rest) × NoPage rest

abbrev pub IsFrontOf : List ℕ → Front → Type 0
IsFrontOf bytes Closed = (0 < length bytes) × (slice_index bytes 0 ≢ 1)
IsFrontOf bytes (Sealed page size) = IsFirst bytes page size
IsFrontOf bytes Short = IsShort bytes

-- behind an open gate some bytes stand, and no page
pub record IsUnread (bytes : List ℕ) : Type 0 where
  pub rest : List ℕ
  pub bytes_are : bytes ≡ 1 ∷ rest
  pub more : 0 < length rest
  pub none : NoPage rest

-- the contents were read up to where the notes end, and these bytes of what is behind stand in a buffer
pub record Looks (len : ℕ) (notes : Notes) (bytes contents : List ℕ) : Type 0 where
  pub pages : List Page
  pub each : AllByRecursion IsPage pages
  pub front : take (end_of notes) contents ≡ opened pages
  pub are_notes : AreNotes pages notes
  pub stands : StandsAt (end_of notes) bytes contents
  pub whole : len ≡ length contents

-- why a call that reads failed: a cause for each fault
abbrev pub Explains : FileFault → Type 0 → (ℕ → Type 0) → (ℕ → Type 0) → Type 0
Explains DiskFault disk foreign bad_page = disk
Explains (Foreign n) disk foreign bad_page = foreign n
Explains (BadPage i) disk foreign bad_page = bad_page i
Explains (Memory fault) disk foreign bad_page = Unit {0}

-- the notes are those of the pages sealed
pub record Reads (notes : Notes) (contents : List ℕ) : Type 0 where
  pub pages : List Page
  pub are_notes : AreNotes pages notes
  pub sealed : IsSealed pages contents

-- each moment since leaves what has P, and after Ok a read gives these bytes and nothing is pending
pub record Ends {E : Type 0} (P : List ℕ → Type 0) (bytes : List ℕ) (t : Trace) (result : Result (Unit {0}) E) (u : Trace) : Type 0 where
  pub moments : Through P t u
  pub done : OnOk result (u.now ≡ settled bytes)

-- what stands behind the pages gives way to a closed gate
abbrev pub Clears : {E : Type 0} → ℕ → Option Trace → Option Trace → Result (Unit {0}) E → Type 0
Clears end None new result = new ≡ None
Clears end (Some t) new result =
    (pages : List Page) → ReadsAs pages t.now.contents → end ≡ length (opened pages) → IsSomeAnd new (Ends (ReadsAs pages) (file_of pages) t result)

-- a page may be sealed behind these
pub record CanSeal (gate : ℕ) (block : List ℕ) (contents : List ℕ) (pages : List Page) (page : Page) : Type 0 where
  pub each : AllByRecursion IsPage pages
  pub is_page : IsPage page
  pub short : pages ≡ [] → length (spelling_of page) ≤ 105
  pub ready : IsReady pages contents
  pub gate_is : gate ≡ length (opened pages)
  pub block_is : block ≡ spelling_of page ++ 0 ∷ []

-- a page is sealed behind these
pub record Seals {E : Type 0} (pages : List Page) (page : Page) (t : Trace) (result : Result (Unit {0}) E) (u : Trace) : Type 0 where
  pub moments : Through (λ image. IsSettled t.now → ReadsBeforeOrAfter pages page image) t u
  pub done : OnOk result (u.now ≡ settled (file_of (pages ++ page ∷ [])))

abbrev pub SealsBehind : {E : Type 0} → ℕ → List ℕ → Option Trace → Option Trace → Result (Unit {0}) E → Type 0
SealsBehind gate block None new result = new ≡ None
SealsBehind gate block (Some t) new result =
    (pages : List Page) (page : Page) → CanSeal gate block t.now.contents pages page → IsSomeAnd new (Seals pages page t result)

-- some bytes were read at a place, as many as were wanted or up to the end
pub record IsPiece (told : Option Trace) (place size : ℕ) (bytes : List ℕ) : Type 0 where
  pub few : length bytes ≤ size
  pub stands : IfSome told (λ t. StandsAt place bytes t.now.contents)
  pub end : IfSome told (λ t. length bytes < size → length t.now.contents ≤ place + length bytes)

-- the page that such bytes begin with, or none
pub record IsReadFrom (told : Option Trace) (place size : ℕ) (found : Option Page) : Type 0 where
  pub bytes : List ℕ
  pub piece : IsPiece told place size bytes
  pub some : IfSome found (λ page. IsPage page × BeginsWith bytes page)
  pub none : IfNone found (NoPage bytes)
