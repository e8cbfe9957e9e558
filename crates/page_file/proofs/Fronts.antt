-- What a window shows of the bytes behind a place.
use Rattle.std.proofs.Common.{Bool, ◌↔◌, ◌≡◌, ◌≢◌, ◌⊎◌, inl, inr, ℕ, zero, suc, ◌+◌, ◌-◌, ◌<◌, ◌≤◌, true, false, List, [], ◌∷◌, ◌++◌, length, get_or, take, drop, Option, Some, None, refl, sym, ap, subst, ◌∙◌, append_assoc, arith, length-append, length-drop, take-append-drop}
use Rattle.std.specs.Prelude.{IfSome, IsTrue}
use Rattle.std.proofs.Math.Seq.{take-add}
use Rattle.std.proofs.lemmas.List.{append-nil, take_at, drop_all, take-append-le, drop-drop, drop-take, get_or-take}
use Rattle.outside_io.specs.Traces.{Trace}
use Rattle.page_codec.specs.declared.page.Page.{Page}
use Rattle.page_codec.specs.Bounds.{IsPage}
use Rattle.page_codec.specs.Spelling.{spelling_of, BeginsWith}
use Rattle.page_codec.specs.Places.{gate_place}
use Rattle.page_file.specs.Files.{Stops, IsForeign, NoPage, IsBadPage}
use Rattle.page_file.specs.Notes.{Notes, Suits, count_of, end_of, with_page}
use Rattle.page_file.specs.Puts.{StandsAt}
use Rattle.page_file.specs.Inner.{IsFirst, IsShort, IsUnread, Looks, Reads, Explains}
use Rattle.page_file.specs.declared.fault.FileFault.{FileFault}
use Rattle.page_file.specs.declared.fault.FileFault.TheVariants.{DiskFault, Foreign, BadPage, Memory}
use Rattle.page_file.proofs.Opened.{short_spelling, opened-push, all_pushed, notes_push, with_page-end}

-- ---- in front of some bytes

pub first_of : (bytes part : List ℕ) (page : Page) (n : ℕ) → 0 < length bytes → get_or bytes 0 0 ≡ 1 → part ≡ drop 1 bytes → IsPage page
    → BeginsWith part page → n ≡ length (spelling_of page) → IsFirst bytes page (n + 1)
first_of [] part page n some opens same is begins size = absurd (omega arith)
first_of (b ∷ bytes) part page n some opens same is begins size =
    let behind : bytes ≡ spelling_of page ++ begins.0 = sym same ∙ begins.1 in
    record { is_page = is; rest = begins.0; bytes_are = λ i. opens i ∷ behind i; size_is = omega (arith, size) }

pub unread_of : (bytes part : List ℕ) → 0 < length bytes → get_or bytes 0 0 ≡ 1 → part ≡ drop 1 bytes → NoPage part → IsShort bytes
unread_of [] part some opens same none = absurd (omega arith)
unread_of (b ∷ bytes) part some opens same none = record { unread = λ _. (bytes, (λ i. opens i ∷ bytes), subst NoPage same none) }

pub nothing_of : (bytes : List ℕ) → length bytes ≡ 0 → IsShort bytes
nothing_of bytes none = record { unread = λ some. absurd (omega (arith, some, none)) }

-- ---- behind a place

-- the bytes of a window, and those behind it
pub window_parts : (w contents : List ℕ) (place : ℕ) → StandsAt place w contents → drop place contents ≡ w ++ drop (length w) (drop place contents)
window_parts w contents place is =
    sym (take-append-drop (length w) (drop place contents)) ∙ ap (λ (l : List ℕ). l ++ drop (length w) (drop place contents)) (sym is)

closed_front : (w more : List ℕ) → 0 < length w → get_or w 0 0 ≢ 1 → Stops (w ++ more)
closed_front [] more some shut = absurd (omega arith)
closed_front (b ∷ []) [] some shut = tt
closed_front (b ∷ []) (c ∷ more) some shut = shut
closed_front (b ∷ c ∷ w) more some shut = shut

short_stops : (d : List ℕ) → length d ≤ 1 → Stops d
short_stops [] l = tt
short_stops (b ∷ []) l = tt
short_stops (b ∷ c ∷ d) l = absurd (omega arith)

prefix_of : (a b s r : List ℕ) → a ++ b ≡ s ++ r → length s ≤ length a → a ≡ s ++ drop (length s) a
prefix_of a b s r e l =
    sym (take-append-drop (length s) a)
    ∙ ap (λ (x : List ℕ). x ++ drop (length s) a) (sym (take-append-le (length s) a b l) ∙ ap (take (length s)) e ∙ take_at s r (length s) refl)

no_page : (rest more : List ℕ) → NoPage rest → (2884106 ≤ length rest) ⊎ (more ≡ []) → NoPage (rest ++ more)
no_page rest more none (inl long) page is (after, e) =
    none page is (drop (length (spelling_of page)) rest, prefix_of rest more (spelling_of page) after e (omega (arith, long, short_spelling page is)))
no_page rest more none (inr nothing) page is (after, e) =
    none page is (after, sym (append-nil rest) ∙ ap (λ (l : List ℕ). rest ++ l) (sym nothing) ∙ e)

unread : (w more : List ℕ) → 1 < length w → IsShort w → (length w ≡ 2884107) ⊎ (more ≡ []) → IsUnread (w ++ more)
unread w more long short whole =
    let (rest, e, none) = short.unread (omega (arith, long)) in
    let len : length w ≡ 1 + length rest = omega (arith, ap length e) in
    record {
      rest = rest ++ more;
      bytes_are = ap (λ (l : List ℕ). l ++ more) e;
      more = omega (arith, len, long, length-append rest more);
      none = no_page rest more none (elim whole [ inl full ↦ inl (omega (arith, full, len)) | inr nothing ↦ inr nothing ]);
    }

-- nothing stands behind a window that ends with the contents
behind_nothing : (w contents : List ℕ) (place len : ℕ) → len ≡ length contents → place + length w ≡ len → drop (length w) (drop place contents) ≡ []
behind_nothing w contents place len is end = drop_all (length w) (drop place contents) (omega (arith, is, end, length-drop place contents))

abbrev pub IsWhole : ℕ → ℕ → List ℕ → Type 0
IsWhole place len w = (length w ≡ 2884107) ⊎ (place + length w ≡ len)

abbrev pub IsAt : ℕ → ℕ → List ℕ → Option Trace → Type 0
IsAt place len w told = IfSome told (λ t. (len ≡ length t.now.contents) × StandsAt place w t.now.contents)

pub stands_there : (told : Option Trace) (w w' : List ℕ) (place len : ℕ) → IsAt place len w told → IfSome told (λ t. StandsAt place w' t.now.contents)
    → IsAt place len w' told
stands_there None w w' place len before now = tt
stands_there (Some t) w w' place len before now = (before.0, now)

pub stands_only : (told : Option Trace) (w : List ℕ) (place len : ℕ) → IsAt place len w told → IfSome told (λ t. StandsAt place w t.now.contents)
stands_only None w place len at = tt
stands_only (Some t) w place len at = at.1

pub closed_told : (told : Option Trace) (w : List ℕ) (place len : ℕ) → IsAt place len w told → 0 < length w → get_or w 0 0 ≢ 1
    → IfSome told (λ t. Stops (drop place t.now.contents))
closed_told None w place len at some shut = tt
closed_told (Some t) w place len at some shut =
    subst Stops (sym (window_parts w t.now.contents place at.1)) (closed_front w (drop (length w) (drop place t.now.contents)) some shut)

pub alone_told : (told : Option Trace) (w : List ℕ) (place len : ℕ) → IsAt place len w told → IfSome told (λ t. IsWhole place len w) → length w ≤ 1
    → IfSome told (λ t. Stops (drop place t.now.contents))
alone_told None w place len at whole few = tt
alone_told (Some t) w place len at (inl full) few = absurd (omega (arith, full, few))
alone_told (Some t) w place len at (inr end) few =
    short_stops (drop place t.now.contents) (omega (arith, few, end, at.0, length-drop place t.now.contents))

pub unread_told : (told : Option Trace) (w : List ℕ) (place len : ℕ) → IsAt place len w told → IfSome told (λ t. IsWhole place len w) → 1 < length w
    → IsShort w → IfSome told (λ t. IsUnread (drop place t.now.contents))
unread_told None w place len at whole long short = tt
unread_told (Some t) w place len at whole long short =
    let c = t.now.contents in
    let behind : (length w ≡ 2884107) ⊎ (drop (length w) (drop place c) ≡ []) =
    elim whole [ inl full ↦ inl full | inr end ↦ inr (behind_nothing w c place len at.0 end) ] in
    subst IsUnread (sym (window_parts w c place at.1)) (unread w (drop (length w) (drop place c)) long short behind)

-- ---- one page after the other

abbrev start_gates : List ℕ
start_gates = 0 ∷ []

pub looks_first : (notes : Notes) (w contents : List ℕ) (len : ℕ) → notes ≡ record { gates = 0 ∷ []; params = None; is_ready = false; is_live = true }
    → len ≡ length contents → StandsAt 0 w contents → Looks len notes w contents
looks_first notes w contents len is whole stands = subst (λ (n : Notes). Looks len n w contents) (sym is) (record {
  pages = [];
  each = tt;
  front = refl;
  are_notes = record { count = refl; places = λ i le. first i le; params = refl };
  stands = stands;
  whole = whole;
})
  where
    first : (i : ℕ) → i ≤ 0 → get_or start_gates i 0 ≡ gate_place [] i
    first zero le = refl
    first (suc i) le = absurd (omega arith)

module _ (len : ℕ) (notes : Notes) (w contents : List ℕ) (looks : Looks len notes w contents) where
  pub looks_more : (page : Page) (size : ℕ) → IsFirst w page size → Looks len (with_page notes page) (drop size w) contents
  looks_more page size first =
      let end = end_of notes in
      let d = drop end contents in
      let more = drop (length w) d in
      let stands : StandsAt end w contents = looks.stands in
      let is : size ≡ 1 + length (spelling_of page) = first.size_is in
      let len_w : length w ≡ 1 + (length (spelling_of page) + length first.rest) =
      omega (arith, ap length first.bytes_are, length-append (spelling_of page) first.rest) in
      let parts : d ≡ (1 ∷ spelling_of page) ++ (first.rest ++ more) =
      window_parts w contents end stands ∙ ap (λ (l : List ℕ). l ++ more) first.bytes_are
      ∙ append_assoc (1 ∷ spelling_of page) first.rest more in
      let gate_and_page : take size d ≡ 1 ∷ spelling_of page = ap (take size) parts ∙ take_at (1 ∷ spelling_of page) (first.rest ++ more) size (omega (arith, is)) in
      let end' : end_of (with_page notes page) ≡ end + size = with_page-end notes page ∙ ap (λ (n : ℕ). end + n) (sym is) in
      let left : length w ≡ size + (length w - size) = omega (arith, len_w, is) in
      let few : length (drop size w) ≡ length w - size = length-drop size w in
      record {
        pages = looks.pages ++ page ∷ [];
        each = all_pushed looks.pages page looks.each first.is_page;
        front = ap (λ (n : ℕ). take n contents) end' ∙ take-add end size contents ∙ (λ i. looks.front i ++ gate_and_page i) ∙ sym (opened-push looks.pages page);
        are_notes = notes_push looks.pages notes page looks.are_notes;
        stands = ap (drop size) stands ∙ ap (λ (n : ℕ). drop size (take n d)) left ∙ drop-take size (length w - size) d
            ∙ (λ i. take (sym few i) (drop-drop size end contents i)) ∙ ap (λ (n : ℕ). take (length (drop size w)) (drop n contents)) (sym end');
        whole = looks.whole;
      }

  pub reads_whole : Stops (drop (end_of notes) contents) → Reads notes contents
  reads_whole stops = record {
    pages = looks.pages;
    are_notes = looks.are_notes;
    sealed = record {
      each = looks.each;
      rest = drop (end_of notes) contents;
      bytes_are = sym (take-append-drop (end_of notes) contents) ∙ ap (λ (l : List ℕ). l ++ drop (end_of notes) contents) looks.front;
      stops = stops;
    };
  }

  pub bad_page : (i : ℕ) → i ≡ count_of notes → IsUnread (drop (end_of notes) contents) → IsBadPage i contents
  bad_page i is u =
      let are = looks.are_notes in
      let count = are.count in
      record {
        before = looks.pages;
        each = looks.each;
        as_many = omega (arith, is, count);
        rest = u.rest;
        bytes_are = sym (take-append-drop (end_of notes) contents) ∙ (λ i. looks.front i ++ u.bytes_are i);
        more = u.more;
        none = u.none;
      }

abbrev pub AllLook : ℕ → Notes → List ℕ → Option Trace → Type 0
AllLook len notes w told = IfSome told (λ t. Looks len notes w t.now.contents)

pub looks_at : (told : Option Trace) (len : ℕ) (notes : Notes) (w : List ℕ) → AllLook len notes w told → IsAt (end_of notes) len w told
looks_at None len notes w looks = tt
looks_at (Some t) len notes w looks = (looks.whole, looks.stands)

-- the window reads on
pub looks_on : (told : Option Trace) (len : ℕ) (notes : Notes) (w w' : List ℕ) → AllLook len notes w told
    → IfSome told (λ t. StandsAt (end_of notes) w' t.now.contents) → AllLook len notes w' told
looks_on None len notes w w' looks stands = tt
looks_on (Some t) len notes w w' looks stands =
    record { pages = looks.pages; each = looks.each; front = looks.front; are_notes = looks.are_notes; stands = stands; whole = looks.whole }

pub looks_more_told : (told : Option Trace) (len : ℕ) (notes : Notes) (w : List ℕ) (page : Page) (size : ℕ) → AllLook len notes w told → IsFirst w page size
    → AllLook len (with_page notes page) (drop size w) told
looks_more_told None len notes w page size looks first = tt
looks_more_told (Some t) len notes w page size looks first = looks_more len notes w t.now.contents looks page size first

pub reads_told : (told : Option Trace) (len : ℕ) (notes : Notes) (w : List ℕ) → AllLook len notes w told
    → IfSome told (λ t. Stops (drop (end_of notes) t.now.contents)) → IfSome told (λ t. Reads notes t.now.contents)
reads_told None len notes w looks stops = tt
reads_told (Some t) len notes w looks stops = reads_whole len notes w t.now.contents looks stops

pub bad_page_told : (told : Option Trace) (len : ℕ) (notes : Notes) (w : List ℕ) (i : ℕ) → AllLook len notes w told → i ≡ count_of notes
    → IfSome told (λ t. IsUnread (drop (end_of notes) t.now.contents)) → IfSome told (λ t. IsBadPage i t.now.contents)
bad_page_told None len notes w i looks is u = tt
bad_page_told (Some t) len notes w i looks is u = bad_page len notes w t.now.contents looks i is u

-- ---- the first byte

first_byte : (w contents : List ℕ) → StandsAt 0 w contents → 0 < length w → get_or w 0 0 ≡ get_or contents 0 0
first_byte w contents stands some = ap (λ (l : List ℕ). get_or l 0 0) stands ∙ get_or-take (length w) contents 0 0 some

abbrev IsClosed : List ℕ → Type 0
IsClosed w = (0 < length w) × (get_or w 0 0 ≢ 1)

pub foreign_told : (told : Option Trace) (w : List ℕ) (len : ℕ) → IsAt 0 len w told → 107 < len → (0 < length w) × (get_or w 0 0 ≢ 1)
    → IfSome told (λ t. IsForeign t.now.contents × (len ≡ length t.now.contents))
foreign_told None w len at long closed = tt
foreign_told (Some t) w len at long closed = (
  record { long = omega (arith, long, at.0); closed = λ opens. closed.1 (first_byte w t.now.contents at.1 closed.0 ∙ opens) },
  at.0,
)

-- ---- what was seen

known : (w contents : List ℕ) (len : ℕ) → len ≡ length contents → StandsAt 0 w contents → IsWhole 0 len w → (107 < len → ¬ (IsClosed w)) → ¬ (IsForeign contents)
known w contents len is stands whole not f =
    let long = f.long in
    let some : 0 < length w = elim whole [ inl full ↦ omega (arith, full) | inr end ↦ omega (arith, end, is, long) ] in
    not (omega (arith, is, long)) (some, λ opens. f.closed (sym (first_byte w contents stands some) ∙ opens))

pub known_told : (told : Option Trace) (w : List ℕ) (len : ℕ) → IsAt 0 len w told → IfSome told (λ t. IsWhole 0 len w)
    → (107 < len → ¬ ((0 < length w) × (get_or w 0 0 ≢ 1))) → IfSome told (λ t. ¬ (IsForeign t.now.contents))
known_told None w len at whole not = tt
known_told (Some t) w len at whole not = known w t.now.contents len at.0 at.1 whole not

pub suits_told : (told : Option Trace) (notes : Notes) → IfSome told (λ t. Reads notes t.now.contents) → IfSome told (λ t. ¬ (IsForeign t.now.contents))
    → notes.is_ready ≡ false → IfSome told (λ t. Suits notes t.now.contents)
suits_told None notes reads not ready = tt
suits_told (Some t) notes reads not ready = record {
  pages = reads.pages;
  are_notes = reads.are_notes;
  reads = record { sealed = reads.sealed; known = not };
  ready = λ is. let no : false ≡ true = sym ready ∙ is in absurd (cc no);
}

pub both_told : (told : Option Trace) (i : ℕ) → IfSome told (λ t. ¬ (IsForeign t.now.contents)) → IfSome told (λ t. IsBadPage i t.now.contents)
    → IfSome told (λ t. (¬ (IsForeign t.now.contents)) × IsBadPage i t.now.contents)
both_told None i not bad = tt
both_told (Some t) i not bad = (not, bad)

pub at_of : (told : Option Trace) (w : List ℕ) (place len : ℕ) → IfSome told (λ t. len ≡ length t.now.contents)
    → IfSome told (λ t. StandsAt place w t.now.contents) → IsAt place len w told
at_of None w place len long stands = tt
at_of (Some t) w place len long stands = (long, stands)

-- ---- faults

pub explain_more : (fault : FileFault) (A B : Type 0) (F : ℕ → Type 0) (G H : ℕ → Type 0) → (A → B) → ((i : ℕ) → G i → H i) → Explains fault A F G
    → Explains fault B F H
explain_more DiskFault A B F G H a g e = a e
explain_more (Foreign n) A B F G H a g e = e
explain_more (BadPage i) A B F G H a g e = g i e
explain_more (Memory m) A B F G H a g e = tt

pub bad_only : (fault : FileFault) (A : Type 0) (F G : ℕ → Type 0) (i : ℕ) → Explains fault A F G → fault ≡ BadPage i → G i
bad_only fault A F G i e is = subst (λ (f : FileFault). Explains f A F G) is e

-- ---- a whole look: what is told at the start, behind the length, and behind the first bytes

pub looks_start : (a b d : Option Trace) (notes : Notes) (w : List ℕ) (len : ℕ) → d ≡ b → b ≡ a
    → notes ≡ record { gates = 0 ∷ []; params = None; is_ready = false; is_live = true } → IfSome a (λ t. len ≡ length t.now.contents)
    → IfSome b (λ t. StandsAt 0 w t.now.contents) → IfSome d (λ t. Looks len notes w t.now.contents)
looks_start a b d notes w len later same is long stands =
    subst (λ (o : Option Trace). IfSome o (λ t. Looks len notes w t.now.contents)) (sym later)
    (here b (subst (λ (o : Option Trace). IfSome o (λ t. len ≡ length t.now.contents)) (sym same) long) stands)
  where
    here : (o : Option Trace) → IfSome o (λ t. len ≡ length t.now.contents) → IfSome o (λ t. StandsAt 0 w t.now.contents)
        → IfSome o (λ t. Looks len notes w t.now.contents)
    here None long stands = tt
    here (Some t) long stands = looks_first notes w t.now.contents len is long stands

-- what the first bytes told
pub record Begins (a b d : Option Trace) (w : List ℕ) (len : ℕ) (foreign : Bool) : Type 0 where
  pub later : d ≡ b
  pub same : b ≡ a
  pub long : IfSome a (λ t. len ≡ length t.now.contents)
  pub stands : IfSome b (λ t. StandsAt 0 w t.now.contents)
  pub whole : IfSome b (λ t. (length w ≡ 2884107) ⊎ (0 + length w ≡ len))
  pub no : foreign ≡ false
  pub tells : IsTrue foreign ↔ ((107 < len) × (0 < length w) × (get_or w 0 0 ≢ 1))

module _ (a b d : Option Trace) (w : List ℕ) (len : ℕ) (foreign : Bool) (begins : Begins a b d w len foreign) where
  not_foreign : IfSome a (λ t. ¬ (IsForeign t.now.contents))
  not_foreign =
      let same = begins.same in
      known_told a w len (at_of a w 0 len begins.long (subst (λ (o : Option Trace). IfSome o (λ t. StandsAt 0 w t.now.contents)) same begins.stands))
      (subst (λ (o : Option Trace). IfSome o (λ t. (length w ≡ 2884107) ⊎ (0 + length w ≡ len))) same begins.whole)
      (λ long closed.
      let tells = begins.tells in
      let one : foreign ≡ true = tells.1 (long, closed.0, closed.1) in
      let other : foreign ≡ false = begins.no in
      absurd (cc (one, other)))

  pub look_ok : (f g : Notes) → g ≡ f → f.is_ready ≡ false → IfSome d (λ t. Reads f t.now.contents) → IfSome a (λ t. Suits g t.now.contents)
  look_ok f g is ready reads =
      subst (λ (n : Notes). IfSome a (λ t. Suits n t.now.contents)) (sym is)
      (suits_told a f (subst (λ (o : Option Trace). IfSome o (λ t. Reads f t.now.contents)) (begins.later ∙ begins.same) reads) not_foreign ready)

  pub look_bad : (i : ℕ) → IfSome d (λ t. IsBadPage i t.now.contents) → IfSome a (λ t. (¬ (IsForeign t.now.contents)) × IsBadPage i t.now.contents)
  look_bad i bad = both_told a i not_foreign (subst (λ (o : Option Trace). IfSome o (λ t. IsBadPage i t.now.contents)) (begins.later ∙ begins.same) bad)
