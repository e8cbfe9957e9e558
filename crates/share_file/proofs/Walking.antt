-- Going along the pages of rows, as the loop of `rows_at` does.
use Rattle.std.proofs.Common.{◌≡◌, ◌≢◌, ℕ, ◌+◌, ◌%◌, ◌<◌, ◌⊎◌, inl, inr, List, [], ◌∷◌, ◌++◌, length, take, drop, refl, sym, ap, subst, ◌∙◌, arith}
use Rattle.std.proofs.Common.{length-append, length-drop, append_assoc}
use Rattle.std.specs.List.{AllByRecursion}
use Rattle.std.proofs.lemmas.List.{append-nil, length-take, take-append-drop, take_all, take_at, drop_at}
use Rattle.page_codec.specs.declared.params.Params.{Params}
use Rattle.page_codec.specs.declared.parts.FinalEntry.{FinalEntry}
use Rattle.page_codec.specs.declared.parts.FinalPage.{FinalPage}
use Rattle.page_codec.specs.declared.page.Page.{Page}
use Rattle.page_codec.specs.declared.page.Page.TheVariants.{Header, Forward, Final, Done}
use Rattle.page_codec.specs.Bounds.{IsPage, IsParams, IsFinalEntry, IsFinalPage}
use Rattle.page_codec.specs.Places.{FinalInTable}
use Rattle.page_codec.specs.Spelling.{BeginsWith, spelling_of}
use Rattle.file_model.proofs.ListPlaces.{all_append, all_take}
use Rattle.share_file.specs.Inner.{tail_spelling, AreRows, Follows, FitsTail, Continues, Tail, Walked}
use Rattle.share_file.proofs.RowPages.{same_page, same_rest, none_or_some, no_items, row_page, tail-none, tail-some, row_page_is, are_entries}

-- what holds of all of a list holds of all behind some of it
pub all_behind : {X : Type 0} (P : X → Type 0) (xs ys : List X) → AllByRecursion P (xs ++ ys) → AllByRecursion P ys
all_behind P [] ys all = all
all_behind P (x ∷ xs) ys all = all_behind P xs ys all.1

-- what is left of the rows behind a page, where it is a Final page
abbrev pub LeftBehind : List FinalEntry → List FinalEntry → Page → List ℕ → Type 0
LeftBehind front rows (Header p) behind = Unit {0}
LeftBehind front rows (Forward page) behind = Unit {0}
LeftBehind front rows (Final page) behind = Tail (front ++ page.entries) rows behind
LeftBehind front rows (Done count) behind = Unit {0}

-- the page that comes next in the rest
pub record Next (p : Params) (n : ℕ) (front rows : List FinalEntry) (rest : List ℕ) (page : Page) (behind : List ℕ) : Type 0 where
  pub is : IsPage page
  pub begins : rest ≡ spelling_of page ++ behind
  pub fits : FitsTail p n (length front) page behind
  pub left : LeftBehind front rows page behind

pub record SomeNext (p : Params) (n : ℕ) (front rows : List FinalEntry) (rest : List ℕ) : Type 0 where
  pub page : Page
  pub behind : List ℕ
  pub next : Next p n front rows rest page behind

module _ (p : Params) (n : ℕ) (params : IsParams p) (front rows : List FinalEntry) (rest : List ℕ) (are : AreRows p n rows) (t : Tail front rows rest) where
  total : length rows ≡ length front + length t.tail
  total = ap length t.rows_are ∙ length-append front t.tail

  next_none : t.tail ≡ [] → SomeNext p n front rows rest
  next_none e =
      let few = are.few in
      let columns = params.columns in
      let long = total in
      record {
        page = Done (length front);
        behind = [];
        next = record {
          is = omega arith;
          begins = t.rest_is ∙ ap (tail_spelling (length front)) e ∙ tail-none (length front);
          fits = (refl, refl);
          left = tt;
        };
      }

  entries_left : AllByRecursion IsFinalEntry t.tail
  entries_left = all_behind IsFinalEntry front t.tail (subst (AllByRecursion IsFinalEntry) t.rows_are are.entries)

  in_table_left : AllByRecursion (FinalInTable p n) t.tail
  in_table_left = all_behind (FinalInTable p n) front t.tail (subst (AllByRecursion (FinalInTable p n)) t.rows_are are.in_table)

  full_front : 0 < length t.tail → length front % 64 ≡ 0
  full_front some = elim t.continues [ inl even ↦ even | inr none ↦ absurd (let zero : length t.tail ≡ 0 = ap length none in omega arith) ]

  -- the page of the first 64 rows that are left is full, or the last one
  continues_behind : 0 < length t.tail → Continues (front ++ take 64 t.tail) (drop 64 t.tail)
  continues_behind some =
      let taken = length-take 64 t.tail in
      let left = length-drop 64 t.tail in
      let even = full_front some in
      let long = length-append front (take 64 t.tail) in
      elim (none_or_some (drop 64 t.tail)) [
        | inl none ↦ inr none
        | inr more ↦ inl (omega arith)
      ]

  next_some : 0 < length t.tail → SomeNext p n front rows rest
  next_some some =
      let few = are.few in
      let columns = params.columns in
      let long = total in
      let taken = length-take 64 t.tail in
      let place : length front + length (take 64 t.tail) ≡ length (front ++ take 64 t.tail) = sym (length-append front (take 64 t.tail)) in
      record {
        page = row_page (length front) t.tail;
        behind = tail_spelling (length front + length (take 64 t.tail)) (drop 64 t.tail);
        next = record {
          is = row_page_is (length front) t.tail some (full_front some) (omega arith) entries_left;
          begins = t.rest_is ∙ tail-some (length front) t.tail some;
          fits = record { first = refl; few = omega arith; in_table = all_take (FinalInTable p n) 64 t.tail in_table_left };
          left = record {
            tail = drop 64 t.tail;
            rows_are = t.rows_are ∙ ap (λ l. front ++ l) (sym (take-append-drop 64 t.tail)) ∙ sym (append_assoc front (take 64 t.tail) (drop 64 t.tail));
            continues = continues_behind some;
            rest_is = ap (λ k. tail_spelling k (drop 64 t.tail)) place;
          };
        };
      }

  some_next : SomeNext p n front rows rest
  some_next = elim (none_or_some t.tail) [ inl none ↦ next_none none | inr some ↦ next_some some ]

  -- a page begins the rest
  pub page_begins : ((page : Page) → IsPage page → ¬ (BeginsWith rest page)) → ⊥
  page_begins none = let s = some_next in none s.page s.next.is (s.behind, s.next.begins)

  -- it is the page that comes next
  pub next_page : (page : Page) (behind : List ℕ) → IsPage page → rest ≡ spelling_of page ++ behind → Next p n front rows rest page behind
  next_page page behind is begins =
      let s = some_next in
      let e : spelling_of s.page ++ s.behind ≡ spelling_of page ++ behind = sym s.next.begins ∙ begins in
      let same : s.page ≡ page = same_page s.page page s.behind behind s.next.is is e in
      let others : s.behind ≡ behind = same_rest s.page page s.behind behind s.next.is is e in
      let first : Next p n front rows rest page s.behind = subst (λ q. Next p n front rows rest q s.behind) same s.next in
      subst (Next p n front rows rest page) others first

module _ (p : Params) (n : ℕ) (bytes : List ℕ) where
  pub walked_start : Walked p n bytes [] bytes
  walked_start = record {
    are_rows = record { few = omega arith; entries = tt; in_table = tt };
    sound = λ tail c e. e;
    complete = λ rows are e. record { tail = rows; rows_are = refl; continues = inl refl; rest_is = e };
  }

module _ (p : Params) (n : ℕ) (params : IsParams p) (bytes : List ℕ) (front : List FinalEntry) (rest : List ℕ) (w : Walked p n bytes front rest) where
  -- no page begins the rest, so the bytes spell no rows
  pub walked_none : ((page : Page) → IsPage page → ¬ (BeginsWith rest page)) → (rows : List FinalEntry) → AreRows p n rows → bytes ≢ tail_spelling 0 rows
  walked_none none rows are e = page_begins p n params front rows rest are (w.complete rows are e) none

  module _ (page : Page) (behind : List ℕ) (is : IsPage page) (begins : rest ≡ spelling_of page ++ behind) where
    -- the page that begins the rest does not fit, so the bytes spell no rows
    pub walked_off : ¬ (FitsTail p n (length front) page behind) → (rows : List FinalEntry) → AreRows p n rows → bytes ≢ tail_spelling 0 rows
    walked_off not rows are e = not (next_page p n params front rows rest are (w.complete rows are e) page behind is begins).fits

  -- the last page begins the rest
  pub walked_done : (count : ℕ) (behind : List ℕ) → count ≡ length front → behind ≡ [] → rest ≡ spelling_of (Done count) ++ behind
      → bytes ≡ tail_spelling 0 front
  walked_done count behind same none begins =
      let last : rest ≡ tail_spelling (length front) [] =
      begins ∙ (λ i. spelling_of (Done (same i)) ++ none i) ∙ sym (tail-none (length front)) in
      w.sound [] (inr refl) last ∙ ap (tail_spelling 0) (append-nil front)

  module _ (page : FinalPage) (behind : List ℕ) (is : IsFinalPage page) (begins : rest ≡ spelling_of (Final page) ++ behind)
      (follows : Follows p n (length front) page) where
    even : length front % 64 ≡ 0
    even = ap (λ k. k % 64) (sym follows.first) ∙ is.first

    rows_behind : AreRows p n (front ++ page.entries)
    rows_behind =
        let few = follows.few in
        record {
          few = omega (arith, length-append front page.entries);
          entries = all_append IsFinalEntry front page.entries w.are_rows.entries (are_entries page.entries is.entries);
          in_table = all_append (FinalInTable p n) front page.entries w.are_rows.in_table follows.in_table;
        }

    -- the page is full where more comes behind
    full : (tail : List FinalEntry) → Continues (front ++ page.entries) tail → (length page.entries ≡ 64) ⊎ (tail ≡ [])
    full tail continues =
        let even_front = even in
        let some = is.some in
        let few = is.few in
        elim continues [
          | inl more ↦ inl (omega (arith, more, length-append front page.entries))
          | inr none ↦ inr none
        ]

    taken : (tail : List FinalEntry) → (length page.entries ≡ 64) ⊎ (tail ≡ []) → take 64 (page.entries ++ tail) ≡ page.entries
    taken tail (inl whole) = take_at page.entries tail 64 whole
    taken tail (inr none) = ap (λ l. take 64 (page.entries ++ l)) none ∙ ap (take 64) (append-nil page.entries) ∙ take_all 64 page.entries is.few

    left : (tail : List FinalEntry) → (length page.entries ≡ 64) ⊎ (tail ≡ []) → drop 64 (page.entries ++ tail) ≡ tail
    left tail (inl whole) = drop_at page.entries tail 64 whole
    left tail (inr none) =
        let few = is.few in
        let empty : length (drop 64 (page.entries ++ tail)) ≡ 0 =
        omega (arith, length-drop 64 (page.entries ++ tail), length-append page.entries tail, ap length none) in
        no_items (drop 64 (page.entries ++ tail)) empty ∙ sym none

    sound_behind : (tail : List FinalEntry) → Continues (front ++ page.entries) tail → behind ≡ tail_spelling (length (front ++ page.entries)) tail
        → bytes ≡ tail_spelling 0 ((front ++ page.entries) ++ tail)
    sound_behind tail continues e =
        let whole = full tail continues in
        let whole_taken = taken tail whole in
        let whole_left = left tail whole in
        let some : 0 < length (page.entries ++ tail) = let least = is.some in omega (arith, length-append page.entries tail) in
        let place : length (front ++ page.entries) ≡ length front + length page.entries = length-append front page.entries in
        let next : rest ≡ tail_spelling (length front) (page.entries ++ tail) =
        begins
        ∙ (λ i. spelling_of (Final (record { first = follows.first i; entries = sym whole_taken i })) ++ e i)
        ∙ (λ i. spelling_of (row_page (length front) (page.entries ++ tail)) ++ tail_spelling (place i) tail)
        ∙ (λ i. spelling_of (row_page (length front) (page.entries ++ tail))
        ++ tail_spelling (length front + length (sym whole_taken i)) (sym whole_left i))
        ∙ sym (tail-some (length front) (page.entries ++ tail) some) in
        w.sound (page.entries ++ tail) (inl even) next ∙ ap (tail_spelling 0) (sym (append_assoc front page.entries tail))

    pub walked_on : Walked p n bytes (front ++ page.entries) behind
    walked_on = record {
      are_rows = rows_behind;
      sound = sound_behind;
      complete = λ rows are e. (next_page p n params front rows rest are (w.complete rows are e) (Final page) behind is begins).left;
    }
