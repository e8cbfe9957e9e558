-- A sealed page is read again.
use Rattle.std.proofs.Common.{◌≡◌, inl, inr, ℕ, suc, ◌+◌, ◌<◌, ◌≤◌, List, [], ◌∷◌, ◌++◌, length, get_or, take, drop, Option, Some, None, refl, sym, ap, subst, ◌∙◌, append_assoc, arith, length-append}
use Rattle.std.specs.Prelude.{IfSome, slice_get}
use Rattle.std.proofs.lemmas.Bool.{cases_lt}
use Rattle.std.proofs.lemmas.List.{append-nil, take_at, drop_at, length-take-le}
use Rattle.outside_io.specs.Traces.{Trace}
use Rattle.page_codec.specs.declared.page.Page.{Page}
use Rattle.page_codec.specs.Bounds.{IsPage}
use Rattle.page_codec.specs.Spelling.{spelling_of, BeginsWith}
use Rattle.page_file.specs.Files.{opened, IsSealed, NoPage}
use Rattle.page_file.specs.Notes.{Notes, Suits, count_of}
use Rattle.page_file.specs.Puts.{StandsAt}
use Rattle.page_file.specs.Inner.{IsPiece, IsReadFrom}
use Rattle.page_file.proofs.Reading.{same_page, sealed_unique}
use Rattle.page_file.proofs.Opened.{Split, split, gate_place-opened}

-- these bytes are the spelling of page i
pub record WasRead (i : ℕ) (bytes contents : List ℕ) : Type 0 where
  pub page : Page
  pub is_page : IsPage page
  pub bytes_are : bytes ≡ spelling_of page
  pub at : (pages : List Page) → IsSealed pages contents → slice_get pages i ≡ Some page

-- where the notes have page i
pub record IsSpan (notes : Notes) (i place size : ℕ) : Type 0 where
  pub within : i < count_of notes
  pub place_is : place ≡ get_or notes.gates i 0 + 1
  pub size_is : place + size ≡ get_or notes.gates (i + 1) 0

module _ (notes : Notes) (contents : List ℕ) (s : Suits notes contents) (i place size : ℕ) (bytes : List ℕ) (span : IsSpan notes i place size) where
  abbrev sealed : IsSealed s.pages contents
  sealed = let reads = s.reads in reads.sealed

  below : i < length s.pages
  below = let are = s.are_notes in let count = are.count in let within = span.within in omega arith

  parts : Split s.pages i
  parts = let is = sealed in split s.pages i is.each below

  abbrev before : List ℕ
  before = opened (take i s.pages)

  abbrev spelling : List ℕ
  spelling = let p = parts in spelling_of p.page

  abbrev after : List ℕ
  after = let p = parts in let is = sealed in p.behind ++ is.rest

  contents_are : contents ≡ (before ++ 1 ∷ []) ++ (spelling ++ after)
  contents_are =
      let p = parts in
      let is = sealed in
      is.bytes_are ∙ ap (λ (l : List ℕ). l ++ is.rest) p.opened_is ∙ append_assoc before (1 ∷ (spelling ++ p.behind)) is.rest
      ∙ ap (λ (l : List ℕ). before ++ 1 ∷ l) (append_assoc spelling p.behind is.rest) ∙ sym (append_assoc before (1 ∷ []) (spelling ++ after))

  gate_at : get_or notes.gates i 0 ≡ length before
  gate_at = let are = s.are_notes in are.places i (omega (arith, below)) ∙ gate_place-opened s.pages i

  next_at : get_or notes.gates (i + 1) 0 ≡ length before + (1 + length spelling)
  next_at =
      let are = s.are_notes in
      let p = parts in
      let is : i + 1 ≡ suc i = omega arith in
      are.places (i + 1) (omega (arith, below)) ∙ gate_place-opened s.pages (i + 1) ∙ ap (λ (k : ℕ). length (opened (take k s.pages))) is ∙ p.next

  place_at : place ≡ length before + 1
  place_at = span.place_is ∙ ap (λ (k : ℕ). k + 1) gate_at

  size_at : size ≡ length spelling
  size_at = omega (arith, span.size_is, place_at, next_at)

  behind_place : drop place contents ≡ spelling ++ after
  behind_place = ap (drop place) contents_are ∙ drop_at (before ++ 1 ∷ []) (spelling ++ after) place (omega (arith, length-append before (1 ∷ []), place_at))

  whole : length bytes ≤ size → (length bytes < size → length contents ≤ place + length bytes) → length bytes ≡ length spelling
  whole few end = elim (cases_lt (length bytes) size) [
    | inl short ↦ absurd (omega (
      arith,
      end short,
      short,
      size_at,
      place_at,
      ap length contents_are,
      length-append (before ++ 1 ∷ []) (spelling ++ after),
      length-append before (1 ∷ []),
      length-append spelling after,
    ))
    | inr all ↦ omega (arith, all, few, size_at)
  ]

  pub was_read : length bytes ≤ size → StandsAt place bytes contents → (length bytes < size → length contents ≤ place + length bytes)
      → WasRead i bytes contents
  was_read few stands end =
      let p = parts in
      record {
        page = p.page;
        is_page = p.is_page;
        bytes_are = stands ∙ ap (take (length bytes)) behind_place ∙ take_at spelling after (length bytes) (sym (whole few end));
        at = λ pages is. ap (λ (ps : List Page). slice_get ps i) (sealed_unique pages s.pages contents is sealed) ∙ p.at;
      }

pub read_told : (told : Option Trace) (notes : Notes) (i place size : ℕ) (bytes : List ℕ) → IsSpan notes i place size
    → IfSome told (λ t. Suits notes t.now.contents) → IsPiece told place size bytes → IfSome told (λ t. WasRead i bytes t.now.contents)
read_told None notes i place size bytes span suits piece = tt
read_told (Some t) notes i place size bytes span suits piece = was_read notes t.now.contents suits i place size bytes span piece.few piece.stands piece.end

pub found_told : (told : Option Trace) (bytes : List ℕ) (i : ℕ) (page : Page) → IfSome told (λ t. WasRead i bytes t.now.contents) → IsPage page
    → BeginsWith bytes page → IfSome told (λ t. (pages : List Page) → IsSealed pages t.now.contents → slice_get pages i ≡ Some page)
found_told None bytes i page was is begins = tt
found_told (Some t) bytes i page was is begins = λ pages sealed.
    let same : was.page ≡ page =
    same_page was.page page [] begins.0 was.is_page is (append-nil (spelling_of was.page) ∙ sym was.bytes_are ∙ begins.1) in
    was.at pages sealed ∙ ap Some same

pub none_told : (told : Option Trace) (bytes : List ℕ) (i : ℕ) → IfSome told (λ t. WasRead i bytes t.now.contents) → NoPage bytes → told ≡ None
none_told None bytes i was none = refl
none_told (Some t) bytes i was none = absurd (none was.page was.is_page ([], was.bytes_are ∙ sym (append-nil (spelling_of was.page))))

pub page_found : (told : Option Trace) (notes : Notes) (i place size wanted : ℕ) (page : Page) → IsSpan notes i place size → wanted ≡ size
    → IfSome told (λ t. Suits notes t.now.contents) → IsReadFrom told place wanted (Some page)
    → IfSome told (λ t. (pages : List Page) → IsSealed pages t.now.contents → slice_get pages i ≡ Some page)
page_found told notes i place size wanted page span same suits from =
    found_told told from.bytes i page
    (read_told told notes i place size from.bytes span suits (subst (λ (n : ℕ). IsPiece told place n from.bytes) same from.piece)) from.some.0 from.some.1

pub page_missing : (told : Option Trace) (notes : Notes) (i place size wanted : ℕ) → IsSpan notes i place size → wanted ≡ size
    → IfSome told (λ t. Suits notes t.now.contents) → IsReadFrom told place wanted None → told ≡ None
page_missing told notes i place size wanted span same suits from =
    none_told told from.bytes i
    (read_told told notes i place size from.bytes span suits (subst (λ (n : ℕ). IsPiece told place n from.bytes) same from.piece)) from.none

-- what was read into a buffer
pub piece_of : (told : Option Trace) (buf bytes : List ℕ) (count place size : ℕ) → bytes ≡ take count buf → length buf ≡ size → count ≤ length buf
    → IfSome told (λ t. take count buf ≡ take count (drop place t.now.contents))
    → IfSome told (λ t. count < length buf → length t.now.contents ≤ place + count) → IsPiece told place size bytes
piece_of told buf bytes count place size is long few front end =
    let len : length bytes ≡ count = ap length is ∙ length-take-le count buf few in
    record { few = omega (arith, len, long, few); stands = stands told front; end = ended told end }
  where
    same : length bytes ≡ count
    same = ap length is ∙ length-take-le count buf few

    stands : (told : Option Trace) → IfSome told (λ t. take count buf ≡ take count (drop place t.now.contents))
        → IfSome told (λ t. StandsAt place bytes t.now.contents)
    stands None front = tt
    stands (Some t) front = is ∙ front ∙ ap (λ (n : ℕ). take n (drop place t.now.contents)) (sym same)

    ended : (told : Option Trace) → IfSome told (λ t. count < length buf → length t.now.contents ≤ place + count)
        → IfSome told (λ t. length bytes < size → length t.now.contents ≤ place + length bytes)
    ended None end = tt
    ended (Some t) end = λ short. let reach = end (omega (arith, short, same, long)) in omega (arith, reach, same)
