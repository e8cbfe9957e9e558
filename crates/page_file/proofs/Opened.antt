-- Pages behind open gates: where each stands, and one page more.
use Rattle.std.proofs.Common.{Bool, true, false, ◌≡◌, inl, inr, ℕ, zero, suc, ◌+◌, ◌-◌, ◌<◌, ◌≤◌, ◌==◌, if◌then◌else◌, List, [], ◌∷◌, ◌++◌, length, get_or, take, Option, Some, refl, sym, ap, subst, ◌∙◌, append_assoc, arith, length-append}
use Rattle.std.specs.Prelude.{slice_get, IfSome}
use Rattle.std.specs.List.{AllByRecursion, sum_by}
use Rattle.std.proofs.Math.ListN.{get_or-append}
use Rattle.std.proofs.lemmas.Bool.{cases_lt, ne_eqb}
use Rattle.std.proofs.lemmas.List.{append-nil, take_all, take-append-le, get_or_at}
use Rattle.std.proofs.lemmas.List.Sums.{sum_by-cons}
use Rattle.outside_io.specs.Traces.{Trace}
use Rattle.page_codec.specs.declared.params.Params.{Params}
use Rattle.page_codec.specs.declared.page.Page.{Page}
use Rattle.page_codec.specs.declared.page.Page.TheVariants.{Header, Forward, Final, Done}
use Rattle.page_codec.specs.Bounds.{IsPage, IsParams}
use Rattle.page_codec.specs.Spelling.{spelling_of, body_of}
use Rattle.page_codec.specs.Places.{gate_place}
use Rattle.page_codec.proofs.Lengths.{short_body}
use Rattle.page_file.specs.Files.{opened}
use Rattle.page_file.specs.Notes.{Notes, AreNotes, Suits, count_of, end_of, header_of, params_of, with_page}
use Rattle.page_file.specs.Inner.{AreGates}

pub short_spelling : (page : Page) → IsPage page → length (spelling_of page) ≤ 2884106
short_spelling page is = let short : length (body_of page) ≤ 2884101 = short_body page is in omega arith

abbrev step_of : Page → ℕ
step_of page = 1 + length (spelling_of page)

sum_opened : (pages : List Page) → sum_by step_of pages ≡ length (opened pages)
sum_opened [] = refl
sum_opened (page ∷ pages) = omega (arith, sum_by-cons step_of page pages, sum_opened pages, length-append (spelling_of page) (opened pages))

pub gate_place-opened : (pages : List Page) (i : ℕ) → gate_place pages i ≡ length (opened (take i pages))
gate_place-opened pages i = sum_opened (take i pages)

pub gate_place-end : (pages : List Page) → gate_place pages (length pages) ≡ length (opened pages)
gate_place-end pages = gate_place-opened pages (length pages) ∙ ap (λ (ps : List Page). length (opened ps)) (take_all (length pages) pages (omega arith))

pub opened-push : (pages : List Page) (page : Page) → opened (pages ++ page ∷ []) ≡ opened pages ++ 1 ∷ spelling_of page
opened-push [] page = ap (λ (l : List ℕ). 1 ∷ l) (append-nil (spelling_of page))
opened-push (p ∷ pages) page =
    ap (λ (l : List ℕ). 1 ∷ (spelling_of p ++ l)) (opened-push pages page)
    ∙ ap (λ (l : List ℕ). 1 ∷ l) (sym (append_assoc (spelling_of p) (opened pages) (1 ∷ spelling_of page)))

pub all_pushed : (pages : List Page) (page : Page) → AllByRecursion IsPage pages → IsPage page → AllByRecursion IsPage (pages ++ page ∷ [])
all_pushed [] page each is = (is, tt)
all_pushed (p ∷ pages) page each is = (each.0, all_pushed pages page each.1 is)

-- page i of some pages, and what stands before it and behind it
pub record Split (pages : List Page) (i : ℕ) : Type 0 where
  pub page : Page
  pub at : slice_get pages i ≡ Some page
  pub is_page : IsPage page
  pub behind : List ℕ
  pub opened_is : opened pages ≡ opened (take i pages) ++ 1 ∷ (spelling_of page ++ behind)
  pub next : length (opened (take (suc i) pages)) ≡ length (opened (take i pages)) + (1 + length (spelling_of page))

pub split : (pages : List Page) (i : ℕ) → AllByRecursion IsPage pages → i < length pages → Split pages i
split [] i each lt = absurd (omega arith)
split (p ∷ pages) zero each lt = record {
  page = p;
  at = refl;
  is_page = each.0;
  behind = opened pages;
  opened_is = refl;
  next = omega (arith, length-append (spelling_of p) []);
}
split (p ∷ pages) (suc i) each lt =
    let s : Split pages i = split pages i each.1 (omega arith) in
    let step = s.next in
    record {
      page = s.page;
      at = s.at;
      is_page = s.is_page;
      behind = s.behind;
      opened_is = ap (λ (l : List ℕ). 1 ∷ (spelling_of p ++ l)) s.opened_is
          ∙ ap (λ (l : List ℕ). 1 ∷ l) (sym (append_assoc (spelling_of p) (opened (take i pages)) (1 ∷ (spelling_of s.page ++ s.behind))));
      next = omega (arith, step, length-append (spelling_of p) (opened (take (suc i) pages)), length-append (spelling_of p) (opened (take i pages)));
    }

-- ---- gates

low_gate : (gates : List ℕ) (e i : ℕ) → i < length gates → get_or (gates ++ e ∷ []) i 0 ≡ get_or gates i 0
low_gate gates e i lt = get_or-append gates (e ∷ []) 0 i lt

last_gate : (gates : List ℕ) (e i : ℕ) → i ≡ length gates → get_or (gates ++ e ∷ []) i 0 ≡ e
last_gate gates e i is = ap (λ (k : ℕ). get_or (gates ++ e ∷ []) k 0) is ∙ get_or_at gates e [] 0 (length gates) refl

pub more_gates : (gates : List ℕ) (e : ℕ) → AreGates gates → get_or gates (length gates - 1) 0 < e → e ≤ get_or gates (length gates - 1) 0 + 2884107
    → AreGates (gates ++ e ∷ [])
more_gates gates e are above near =
    let some = are.some in
    let long : length (gates ++ e ∷ []) ≡ length gates + 1 = length-append gates (e ∷ []) in
    record {
      some = omega (arith, long);
      apart = λ i lt. elim (cases_lt (i + 1) (length gates)) [
        | inl below ↦ omega (arith, low_gate gates e i (omega (arith, below)), low_gate gates e (i + 1) below, are.apart i below)
        | inr at ↦
            let is : i + 1 ≡ length gates = omega (arith, at, lt, long) in
            let last : get_or gates i 0 ≡ get_or gates (length gates - 1) 0 = ap (λ (k : ℕ). get_or gates k 0) (omega (arith, is)) in
            omega (arith, low_gate gates e i (omega (arith, is)), last_gate gates e (i + 1) is, last, above)
      ];
      near = λ i lt. elim (cases_lt i (length gates)) [
        | inl below ↦ omega (arith, low_gate gates e i below, are.near i below)
        | inr at ↦
            let is : i ≡ length gates = omega (arith, at, lt, long) in
            omega (arith, last_gate gates e i is, near, is, some, are.near (length gates - 1) (omega (arith, some)))
      ];
    }

-- ---- notes

pub notes_end : (pages : List Page) (notes : Notes) → AreNotes pages notes → end_of notes ≡ length (opened pages)
notes_end pages notes are =
    let count = are.count in
    ap (λ (k : ℕ). get_or notes.gates k 0) (omega (arith, count)) ∙ are.places (length pages) (omega arith) ∙ gate_place-end pages

pub with_page-end : (notes : Notes) (page : Page) → end_of (with_page notes page) ≡ end_of notes + (1 + length (spelling_of page))
with_page-end notes page =
    let e = end_of notes + (1 + length (spelling_of page)) in
    last_gate notes.gates e (length (notes.gates ++ e ∷ []) - 1) (omega (arith, length-append notes.gates (e ∷ [])))

params_push : (pages : List Page) (n : ℕ) (page : Page) (p : Option Params) → n ≡ length pages → p ≡ params_of pages
    → (if n == 0 then header_of page else p) ≡ params_of (pages ++ page ∷ [])
params_push [] n page p is e = ap (λ (k : ℕ). if k == 0 then header_of page else p) is
params_push (q ∷ pages) n page p is e = rw (ne_eqb n 0 (λ none. omega (arith, none, is))) e

pub notes_push : (pages : List Page) (notes : Notes) (page : Page) → AreNotes pages notes → AreNotes (pages ++ page ∷ []) (with_page notes page)
notes_push pages notes page are =
    let e = end_of notes + (1 + length (spelling_of page)) in
    let count = are.count in
    let more : length (pages ++ page ∷ []) ≡ length pages + 1 = length-append pages (page ∷ []) in
    let low : (i : ℕ) → i ≤ length pages → gate_place (pages ++ page ∷ []) i ≡ gate_place pages i =
    λ i le. ap (sum_by step_of) (take-append-le i pages (page ∷ []) le) in
    let end : gate_place (pages ++ page ∷ []) (length (pages ++ page ∷ [])) ≡ e =
    gate_place-end (pages ++ page ∷ []) ∙ ap length (opened-push pages page)
    ∙ omega (arith, length-append (opened pages) (1 ∷ spelling_of page), notes_end pages notes are) in
    record {
      count = omega (arith, count, length-append notes.gates (e ∷ []), more);
      places = λ i le. elim (cases_lt i (length notes.gates)) [
        | inl below ↦ low_gate notes.gates e i below ∙ are.places i (omega (arith, below, count)) ∙ sym (low i (omega (arith, below, count)))
        | inr at ↦
            let is : i ≡ length (pages ++ page ∷ []) = omega (arith, at, le, more, count) in
            last_gate notes.gates e i (omega (arith, is, more, count)) ∙ sym end ∙ ap (gate_place (pages ++ page ∷ [])) (sym is)
      ];
      params = params_push pages (count_of notes) page notes.params (omega (arith, count)) are.params;
    }

pub note_gates : (gates now : List ℕ) (place size : ℕ) (page : Page) → AreGates gates → place ≡ get_or gates (length gates - 1) 0 → IsPage page
    → size ≡ 1 + length (spelling_of page) → now ≡ gates ++ (place + size) ∷ [] → AreGates now
note_gates gates now place size page are place_is is size_is now_is =
    subst AreGates (sym now_is) (more_gates gates (place + size) are (omega (arith, place_is, size_is)) (omega (arith, place_is, size_is, short_spelling page is)))

header_tested : (page : Page) → IsPage page → IfSome (header_of page) IsParams
header_tested (Header p) is = is
header_tested (Forward p) is = tt
header_tested (Final p) is = tt
header_tested (Done rows) is = tt

pub params_tested : (page : Page) (n : ℕ) (old params : Option Params) → params ≡ (if n == 0 then header_of page else old) → IsPage page
    → IfSome old IsParams → IfSome params IsParams
params_tested page n old params is page_is old_is = subst (λ (o : Option Params). IfSome o IsParams) (sym is) (either (n == 0))
  where
    either : (b : Bool) → IfSome (if b then header_of page else old) IsParams
    either true = header_tested page page_is
    either false = old_is

-- what was noted of a page
pub noted : (gates now : List ℕ) (params params' : Option Params) (ready live : Bool) (place size n : ℕ) (page : Page) (notes : Notes)
    → record { gates = gates; params = params; is_ready = ready; is_live = live } ≡ notes → place ≡ end_of notes → n ≡ count_of notes
    → size ≡ 1 + length (spelling_of page) → now ≡ gates ++ (place + size) ∷ [] → params' ≡ (if n == 0 then header_of page else params)
    → record { gates = now; params = params'; is_ready = ready; is_live = live } ≡ with_page notes page
noted gates now params params' ready live place size n page notes view place_is n_is size_is now_is params_is =
    let was : Notes = record { gates = gates; params = params; is_ready = ready; is_live = live } in
    let end : place + size ≡ end_of was + (1 + length (spelling_of page)) = (λ i. (place_is ∙ sym (ap end_of view)) i + size_is i) in
    let more : now ≡ gates ++ (end_of was + (1 + length (spelling_of page))) ∷ [] = now_is ∙ ap (λ (e : ℕ). gates ++ e ∷ []) end in
    let given : params' ≡ (if count_of was == 0 then header_of page else params) =
    params_is ∙ ap (λ (k : ℕ). if k == 0 then header_of page else params) (n_is ∙ sym (ap count_of view)) in
    let here : record { gates = now; params = params'; is_ready = ready; is_live = live } ≡ with_page was page =
    λ i. record { gates = more i; params = given i; is_ready = ready; is_live = live } in
    here ∙ ap (λ (m : Notes). with_page m page) view

pub suits_noted : (told : Option Trace) (a b : Notes) → a ≡ b → IfSome told (λ t. Suits b t.now.contents) → IfSome told (λ t. Suits a t.now.contents)
suits_noted told a b same suits = subst (λ (n : Notes). IfSome told (λ t. Suits n t.now.contents)) (sym same) suits
