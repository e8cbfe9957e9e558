-- What single steps of the code answer. No public clause cites these, so a reader need not believe them.
use Rattle.std.specs.Prelude.{ℕ, zero, suc, ◌+◌, ◌^◌, List, [], ◌∷◌, length, take, drop, Option, Some, None, nat_lt, nat_le, ◌==◌, ◌&&◌}
use Rattle.std.specs.Prelude.{if◌then◌else◌, ◌≡◌, ◌≤◌, ◌++◌, vec_capacity, vec_len, ◌-◌, ◌*◌, ◌⊎◌, min}
use Rattle.std.specs.declared.vec.Vec.{Vec}
use Rattle.std.specs.List.{AllByRecursion}
use Rattle.byteorder.specs.Endian.{little_number}
use Rattle.zeta_model.specs.declared.Letter.{Letter}
use Rattle.word_letters.specs.Packing.{letters_of}
use Rattle.column_order.specs.Columns.{column_count}
use Rattle.page_codec.specs.declared.params.Params.{Params}
use Rattle.page_codec.specs.declared.parts.ForwardEntry.{ForwardEntry}
use Rattle.page_codec.specs.declared.parts.FinalEntry.{FinalEntry}
use Rattle.page_codec.specs.declared.parts.ForwardPage.{ForwardPage}
use Rattle.page_codec.specs.declared.parts.FinalPage.{FinalPage}
use Rattle.page_codec.specs.declared.page.Page.{Page}
use Rattle.page_codec.specs.declared.page.Page.TheVariants.{Header, Forward, Final, Done}
use Rattle.page_codec.specs.declared.walk.Last.{Last}
use Rattle.page_codec.specs.declared.walk.Last.TheVariants.{FrontPage, RowsPage, DonePage}
use Rattle.page_codec.specs.Places.{WalkAt, block_count, last_is, ForwardInTable, FinalInTable}

infixl 10 ◌>>=◌
abbrev pub ◌>>=◌ : {A B : Type 0} → Option A → (A → Option B) → Option B
(Some x) >>= f = f x
None >>= f = None

abbrev pub Reader : Type 0 → Type 0
Reader A = List ℕ → Option (A × List ℕ)

abbrev pub number_at : ℕ → Reader ℕ
number_at n bytes = if nat_lt (length bytes) n then None else Some (little_number n (take n bytes), drop n bytes)

-- one, and then another
unfoldable pub both_at : {A B : Type 0} → Reader A → Reader B → Reader (A × B)
both_at f g bytes = do
  first ← f bytes
  second ← g first.1
  Some ((first.0, second.0), second.1)

-- the same, as another value
unfoldable pub map_at : {A B : Type 0} → (A → B) → Reader A → Reader B
map_at make at bytes = do
  x ← at bytes
  Some (make x.0, x.1)

-- n of them
unfoldable pub times_at : {A : Type 0} → Reader A → ℕ → Reader (List A)
times_at at zero bytes = Some ([], bytes)
times_at at (suc n) bytes = do
  first ← at bytes
  others ← times_at at n first.1
  Some (first.0 ∷ others.0, others.1)

-- a number of w bytes, not over most, and so many of them
unfoldable pub counted_at : {A : Type 0} → ℕ → ℕ → Reader A → Reader (List A)
counted_at w most at bytes = do
  count ← number_at w bytes
  if nat_le count.0 most then times_at at count.0 count.1 else None

-- a key of n bytes, and a residue
unfoldable pub pair_at : ℕ → Reader (ℕ × ℕ)
pair_at n = both_at (number_at n) (number_at 8)

unfoldable pub pairs_at : ℕ → Reader (List (ℕ × ℕ))
pairs_at n = counted_at 2 2048 (pair_at n)

unfoldable pub forward_entry_at : Reader ForwardEntry
forward_entry_at = map_at (λ x. record { number = x.0; row = x.1.0; combination = x.1.1 }) (both_at (number_at 4) (both_at (pairs_at 2) (pairs_at 4)))

unfoldable pub final_entry_at : Reader FinalEntry
final_entry_at = map_at (λ x. record { row = x.0; combination = x.1 }) (both_at (pairs_at 2) (pairs_at 4))

-- a weight of at most 24, and that many letters as binary digits
unfoldable pub word_at : Reader (List Letter)
word_at bytes = do
  weight ← number_at 1 bytes
  bits ← number_at 4 weight.1
  if nat_le weight.0 24 && nat_lt bits.0 (2 ^ weight.0) then Some (letters_of weight.0 weight.0 bits.0, bits.1) else None

-- n bytes that are this number
unfoldable pub mark_at : ℕ → ℕ → Reader (Unit {0})
mark_at n mark bytes = do
  x ← number_at n bytes
  if x.0 == mark then Some (tt, x.1) else None

-- weight, depth, order and modulus
unfoldable pub limits_at : Reader (ℕ × (ℕ × (ℕ × ℕ)))
limits_at = both_at (number_at 1) (both_at (number_at 1) (both_at (number_at 1) (number_at 8)))

unfoldable pub preferred_at : Reader (List (List Letter))
preferred_at = counted_at 1 16 word_at

-- `MZVDATA` and the byte 2, as a number
unfoldable pub header_at : Reader Params
header_at = map_at (λ x. record { weight = x.1.0.0; depth = x.1.0.1.0; order = x.1.0.1.1.0; modulus = x.1.0.1.1.1; preferred = x.1.1 })
    (both_at (mark_at 8 162503700858165837) (both_at limits_at preferred_at))

unfoldable pub forward_at : Reader ForwardPage
forward_at = map_at (λ x. record { first = x.0; entries = x.1 }) (both_at (number_at 4) (counted_at 1 64 forward_entry_at))

unfoldable pub final_at : Reader FinalPage
final_at = map_at (λ x. record { first = x.0; entries = x.1 }) (both_at (number_at 2) (counted_at 1 64 final_entry_at))

-- by the kind
unfoldable pub body_at : ℕ → Reader Page
body_at kind bytes =
    if kind == 1 then map_at Header header_at bytes else
    if kind == 2 then map_at Forward forward_at bytes else
    if kind == 3 then map_at Final final_at bytes else
    if kind == 4 then map_at Done (number_at 2) bytes else None

-- the kind, the length of the body, and the body, which has that length
unfoldable pub page_at : Reader Page
page_at bytes = do
  kind ← number_at 1 bytes
  size ← number_at 4 kind.1
  page ← body_at kind.0 size.1
  if size.0 + length page.1 == length size.1 then Some page else None

-- the Header of a version 1 file
unfoldable pub old_at : Reader (Unit {0} × (Unit {0} × (Unit {0} × (ℕ × (ℕ × (ℕ × ℕ))))))
old_at = both_at (mark_at 1 1) (both_at (mark_at 4 19) (both_at (mark_at 8 90446106820237901) limits_at))

-- what is read of the parameters in it
abbrev pub old_parts : Params → Unit {0} × (Unit {0} × (Unit {0} × (ℕ × (ℕ × (ℕ × ℕ)))))
old_parts p = (tt, (tt, (tt, (p.weight, (p.depth, (p.order, p.modulus))))))

-- the bytes are behind what was there, and no room is lost
pub record Wrote {Z : Type 0} (old new : Vec ℕ Z) (bytes : List ℕ) : Type 0 where
  pub items : new.items ≡ old.items ++ bytes
  pub len : vec_len new ≡ vec_len old + length bytes
  pub room : vec_capacity old ≤ vec_capacity new

abbrev pub HasRoom : {Z : Type 0} → Vec ℕ Z → List ℕ → Type 0
HasRoom out bytes = vec_len out + length bytes ≤ vec_capacity out

-- the row and the combination have at most 2048 pairs each
abbrev pub IsShort : List (ℕ × ℕ) → List (ℕ × ℕ) → Type 0
IsShort row combination = (length row ≤ 2048) × (length combination ≤ 2048)

-- the last page is a Final page of 64 rows, and first is 64 greater than its own
abbrev pub Continues : Last → ℕ → Type 0
Continues FrontPage first = ⊥
Continues (RowsPage before count) first = (count ≡ 64) × (first ≡ before + 64)
Continues DonePage first = ⊥

abbrev pub IsRows : Last → Type 0
IsRows FrontPage = ⊥
IsRows (RowsPage before count) = Unit {0}
IsRows DonePage = ⊥

pub record ForwardAt (w : WalkAt) (page : ForwardPage) : Type 0 where
  pub behind_header : 1 ≤ w.place
  pub within : w.place ≤ block_count w.relations
  pub first : page.first ≡ 64 * (w.place - 1)
  pub entries : AllByRecursion (ForwardInTable w.params w.relations) page.entries

-- the first rows come next, or those behind 64 more
abbrev pub RowsBegin : WalkAt → ℕ → Type 0
RowsBegin w first = ((w.place ≡ block_count w.relations + 1) × (first ≡ 0)) ⊎ Continues w.last first

pub record FinalAt (w : WalkAt) (page : FinalPage) : Type 0 where
  pub first : RowsBegin w page.first
  pub entries : AllByRecursion (FinalInTable w.params w.relations) page.entries
  pub rows : w.rows + length page.entries ≤ column_count w.params.weight w.params.depth

pub record DoneAt (w : WalkAt) (rows : ℕ) : Type 0 where
  pub behind : (w.place ≡ block_count w.relations + 1) ⊎ IsRows w.last
  pub counted : rows ≡ w.rows

abbrev pub FitsAt : WalkAt → Page → Type 0
FitsAt w (Header q) = (w.place ≡ 0) × (q ≡ w.params)
FitsAt w (Forward page) = ForwardAt w page
FitsAt w (Final page) = FinalAt w page
FitsAt w (Done rows) = DoneAt w rows

abbrev pub rows_on : Page → ℕ
rows_on (Header p) = 0
rows_on (Forward p) = 0
rows_on (Final p) = length p.entries
rows_on (Done rows) = 0

-- the walk one page further
abbrev pub walk_behind : WalkAt → Page → WalkAt
walk_behind w page = record {
  params = w.params;
  relations = w.relations;
  place = min (w.place + 1) (block_count w.relations + 2);
  rows =
      w.rows + rows_on page;
  last = last_is page;
}
