-- What the notes suit after a call that wrote.
use Rattle.std.proofs.Common.{◌≡◌, ℕ, ◌<◌, ◌≤◌, true, false, List, [], ◌∷◌, ◌++◌, length, Option, Some, None, Result, Ok, sym, ap, subst, ◌∙◌, arith, length-append}
use Rattle.std.specs.Prelude.{IfSome, IsSome, IsTrue, IsSomeAnd}
use Rattle.outside_io.specs.Moments.{Moment, settled}
use Rattle.outside_io.specs.Traces.{Trace}
use Rattle.page_codec.specs.declared.page.Page.{Page}
use Rattle.page_codec.specs.declared.page.Page.TheVariants.{Header, Forward, Final, Done}
use Rattle.page_codec.specs.Bounds.{IsPage}
use Rattle.page_codec.specs.Spelling.{spelling_of, word_spelling}
use Rattle.page_codec.proofs.Lengths.{short_items, all_of}
use Rattle.page_file.specs.Files.{opened, file_of, IsSealed, ReadsAs, ReadsBeforeOrAfter}
use Rattle.page_file.specs.Notes.{Notes, Suits, count_of, end_of, header_of, with_page}
use Rattle.page_file.specs.Stays.{Passes, Leaves, IsSettled}
use Rattle.page_file.specs.Inner.{Ends, Clears, CanSeal, Seals, SealsBehind}
use Rattle.page_file.proofs.Passing.{weaker}
use Rattle.page_file.proofs.Reading.{sealed_unique, file_reads}
use Rattle.page_file.proofs.Opened.{notes_end, notes_push, all_pushed}
use Rattle.page_file.proofs.Images.{some_ends}

-- a Header is short
pub header_short : (page : Page) → IsPage page → IsSome (header_of page) → length (spelling_of page) ≤ 105
header_short (Header p) is some =
    let items = short_items word_spelling 5 p.preferred (all_of _ (λ w. omega arith) p.preferred) in
    let few = is.preferred.few in
    omega arith
header_short (Forward p) is some = let no : false ≡ true = some in absurd (cc no)
header_short (Final p) is some = let no : false ≡ true = some in absurd (cc no)
header_short (Done rows) is some = let no : false ≡ true = some in absurd (cc no)

settled_is : (m : Moment) (bytes : List ℕ) → m ≡ settled bytes → (m.contents ≡ bytes) × IsSettled m
settled_is m bytes is = (ap (λ (n : Moment). n.contents) is, is ∙ ap (λ (n : Moment). settled n.contents) (sym is))

-- ---- one moment of a disk that tells

module _ (notes : Notes) (contents : List ℕ) (s : Suits notes contents) where
  abbrev reads : ReadsAs s.pages contents
  reads = s.reads

  abbrev sealed : IsSealed s.pages contents
  sealed = let r = reads in r.sealed

  pub end_is : end_of notes ≡ length (opened s.pages)
  end_is = notes_end s.pages notes s.are_notes

  pub end_within : end_of notes ≤ length contents
  end_within = let is = sealed in omega (arith, end_is, ap length is.bytes_are, length-append (opened s.pages) is.rest)

  pub same_pages : (pages : List Page) → IsSealed pages contents → s.pages ≡ pages
  same_pages pages other = sealed_unique s.pages pages contents sealed other

  pub gate_within : IsTrue notes.is_ready → end_of notes < length contents
  gate_within ready_is =
      let ready = s.ready ready_is in omega (arith, end_is, ap length ready.contents_are, length-append (opened s.pages) (ready.gate ∷ []))

  pub suits_file : (after : List ℕ) → after ≡ file_of s.pages → Suits (record notes { is_ready = true }) after
  suits_file after is =
      let are = s.are_notes in
      let here = sealed in
      record {
        pages = s.pages;
        are_notes = record { count = are.count; places = are.places; params = are.params };
        reads = subst (ReadsAs s.pages) (sym is) (file_reads s.pages here.each);
        ready = λ _. record { gate = 0; closed = λ one. omega (arith, one); contents_are = is };
      }

  pub suits_more : (page : Page) (after : List ℕ) → IsPage page → after ≡ file_of (s.pages ++ page ∷ []) → Suits (with_page notes page) after
  suits_more page after is_page is =
      let here = sealed in
      record {
        pages = s.pages ++ page ∷ [];
        are_notes = notes_push s.pages notes page s.are_notes;
        reads = subst (ReadsAs (s.pages ++ page ∷ [])) (sym is) (file_reads (s.pages ++ page ∷ []) (all_pushed s.pages page here.each is_page));
        ready = λ _. record { gate = 0; closed = λ one. omega (arith, one); contents_are = is };
      }

  pub can_seal : (gate : ℕ) (block : List ℕ) (page : Page) → IsTrue notes.is_ready → gate ≡ end_of notes → block ≡ spelling_of page ++ 0 ∷ [] → IsPage page
      → (count_of notes ≡ 0 → IsSome (header_of page)) → CanSeal gate block contents s.pages page
  can_seal gate block page ready_is gate_is block_is is_page first =
      let here = sealed in
      let are = s.are_notes in
      let count = are.count in
      record {
        each = here.each;
        is_page = is_page;
        short = λ none. header_short page is_page (first (omega (arith, count, ap length none)));
        ready = s.ready ready_is;
        gate_is = gate_is ∙ end_is;
        block_is = block_is;
      }

abbrev AllSuit : Notes → Option Trace → Type 0
AllSuit notes told = IfSome told (λ t. Suits notes t.now.contents)

pub end_told : (told : Option Trace) (notes : Notes) (end : ℕ) → end ≡ end_of notes → IfSome told (λ t. Suits notes t.now.contents)
    → IfSome told (λ t. end ≤ length t.now.contents)
end_told None notes end is suits = tt
end_told (Some t) notes end is suits = omega (arith, is, end_within notes t.now.contents suits)

pub gate_told : (told : Option Trace) (notes : Notes) (gate : ℕ) → gate ≡ end_of notes → IsTrue notes.is_ready
    → IfSome told (λ t. Suits notes t.now.contents) → IfSome told (λ t. gate < length t.now.contents)
gate_told None notes gate is ready_is suits = tt
gate_told (Some t) notes gate is ready_is suits = omega (arith, is, gate_within notes t.now.contents suits ready_is)

-- ---- after renewing

abbrev FileLeft : Trace → List ℕ → Type 0
FileLeft t bytes = (pages : List Page) → IsSealed pages t.now.contents → bytes ≡ file_of pages

pub renew_left : (E : Type 0) (u : Unit {0}) (old new : Option Trace) (notes : Notes) (end : ℕ) → end ≡ end_of notes
    → IfSome old (λ t. Suits notes t.now.contents) → Clears {E = E} end old new (Ok u)
    → Leaves (λ t bytes. (pages : List Page) → IsSealed pages t.now.contents → bytes ≡ file_of pages) old new
renew_left E u None new notes end is suits clears = clears
renew_left E u (Some t) new notes end is suits clears =
    let c = t.now.contents in
    some_ends new (Ends (ReadsAs suits.pages) (file_of suits.pages) t (Ok u)) _
    (λ v ends.
    let now = settled_is v.now (file_of suits.pages) ends.done in
    (λ pages other. now.0 ∙ ap file_of (same_pages notes c suits pages other), now.1))
    (clears suits.pages suits.reads (is ∙ end_is notes c suits))

pub renew_suits : (E : Type 0) (u : Unit {0}) (old new : Option Trace) (notes : Notes) (end : ℕ) → end ≡ end_of notes
    → IfSome old (λ t. Suits notes t.now.contents) → Clears {E = E} end old new (Ok u)
    → IfSome new (λ t. Suits (record notes { is_ready = true }) t.now.contents)
renew_suits E u None None notes end is suits clears = tt
renew_suits E u None (Some v) notes end is suits clears = let e : Some v ≡ None = clears in cc
renew_suits E u (Some t) None notes end is suits clears = tt
renew_suits E u (Some t) (Some v) notes end is suits clears =
    let c = t.now.contents in
    let ends = clears suits.pages suits.reads (is ∙ end_is notes c suits) in
    suits_file notes c suits v.now.contents (settled_is v.now (file_of suits.pages) ends.done).0

pub renew_moments : {E : Type 0} (r : Result (Unit {0}) E) (old new : Option Trace) (notes : Notes) (end : ℕ) → end ≡ end_of notes
    → IfSome old (λ t. Suits notes t.now.contents) → Clears end old new r
    → Passes (λ t image. (pages : List Page) → IsSealed pages t.now.contents → ReadsAs pages image) old new
renew_moments r None new notes end is suits clears = clears
renew_moments r (Some t) new notes end is suits clears =
    let c = t.now.contents in
    some_ends new (Ends (ReadsAs suits.pages) (file_of suits.pages) t r) _
    (λ v ends. weaker (ReadsAs suits.pages) _ t v
    (λ image here pages other. subst (λ (ps : List Page). ReadsAs ps image) (same_pages notes c suits pages other) here) ends.moments)
    (clears suits.pages suits.reads (is ∙ end_is notes c suits))

-- ---- after sealing

module _ (notes : Notes) (page : Page) (gate : ℕ) (block : List ℕ) (ready_is : IsTrue notes.is_ready) (gate_is : gate ≡ end_of notes)
    (block_is : block ≡ spelling_of page ++ 0 ∷ []) (is_page : IsPage page) (first : count_of notes ≡ 0 → IsSome (header_of page)) where
  seals : {E : Type 0} (r : Result (Unit {0}) E) (t : Trace) (new : Option Trace) (s : Suits notes t.now.contents) → SealsBehind gate block (Some t) new r
      → IsSomeAnd new (Seals s.pages page t r)
  seals r t new s sealed = sealed s.pages page (can_seal notes t.now.contents s gate block page ready_is gate_is block_is is_page first)

  pub seal_left : (E : Type 0) (u : Unit {0}) (old new : Option Trace) → IfSome old (λ t. Suits notes t.now.contents)
      → SealsBehind {E = E} gate block old new (Ok u)
      → Leaves (λ t bytes. (pages : List Page) → IsSealed pages t.now.contents → bytes ≡ file_of (pages ++ page ∷ [])) old new
  seal_left E u None new suits sealed = sealed
  seal_left E u (Some t) new suits sealed =
      some_ends new (Seals suits.pages page t (Ok u)) _
      (λ v ends.
      let now = settled_is v.now (file_of (suits.pages ++ page ∷ [])) ends.done in (
        λ pages other. now.0 ∙ ap (λ (ps : List Page). file_of (ps ++ page ∷ [])) (same_pages notes t.now.contents suits pages other),
        now.1,
      ))
      (seals (Ok u) t new suits sealed)

  pub seal_suits : (E : Type 0) (u : Unit {0}) (old new : Option Trace) → IfSome old (λ t. Suits notes t.now.contents)
      → SealsBehind {E = E} gate block old new (Ok u) → IfSome new (λ t. Suits (with_page notes page) t.now.contents)
  seal_suits E u None None suits sealed = tt
  seal_suits E u None (Some v) suits sealed = let e : Some v ≡ None = sealed in cc
  seal_suits E u (Some t) None suits sealed = tt
  seal_suits E u (Some t) (Some v) suits sealed =
      let ends = seals (Ok u) t (Some v) suits sealed in
      suits_more notes t.now.contents suits page v.now.contents is_page (settled_is v.now (file_of (suits.pages ++ page ∷ [])) ends.done).0

  pub seal_moments : {E : Type 0} (r : Result (Unit {0}) E) (old new : Option Trace) → IfSome old (λ t. Suits notes t.now.contents)
      → SealsBehind gate block old new r
      → Passes (λ t image. IsSettled t.now → (pages : List Page) → IsSealed pages t.now.contents → ReadsBeforeOrAfter pages page image) old new
  seal_moments r None new suits sealed = sealed
  seal_moments r (Some t) new suits sealed =
      some_ends new (Seals suits.pages page t r) _
      (λ v ends. weaker (λ image. IsSettled t.now → ReadsBeforeOrAfter suits.pages page image) _ t v
      (λ image here clean pages other.
      subst (λ (ps : List Page). ReadsBeforeOrAfter ps page image) (same_pages notes t.now.contents suits pages other) (here clean)) ends.moments)
      (seals r t new suits sealed)
