-- The parts of a share's spelling.
use Rattle.std.proofs.Common.{◌≡◌, ◌≢◌, ℕ, zero, suc, ◌+◌, ◌%◌, ◌≤◌, ◌<◌, ◌⊎◌, inl, inr, List, [], ◌∷◌, ◌++◌, length, take, drop}
use Rattle.std.proofs.Common.{refl, sym, ap, subst, ◌∙◌, arith}
use Rattle.std.proofs.lemmas.Bool.{cases_lt}
use Rattle.std.proofs.Common.{zero-add, length-drop, append_assoc}
use Rattle.std.specs.List.{flat_map, AllByRecursion}
use Rattle.std.proofs.lemmas.List.{append-nil, length-take, take-append-drop}
use Rattle.std.proofs.lemmas.Grind.{flat_map-append}
use Rattle.std.proofs.lemmas.List.Concat.{flat_map-cons}
use Rattle.page_codec.specs.declared.params.Params.{Params}
use Rattle.page_codec.specs.declared.parts.FinalEntry.{FinalEntry}
use Rattle.page_codec.specs.declared.page.Page.{Page}
use Rattle.page_codec.specs.declared.page.Page.TheVariants.{Header, Forward, Final, Done}
use Rattle.page_codec.specs.Bounds.{IsPage, IsParams, IsFinalEntry}
use Rattle.page_codec.specs.Places.{block_count}
use Rattle.page_codec.specs.Spelling.{spelling_of, BeginsWith}
use Rattle.table_model.specs.ListedSpan.{relation_count}
use Rattle.share_model.specs.declared.share.ShareId.{ShareId}
use Rattle.share_model.specs.declared.share.Share.{Share}
use Rattle.share_model.specs.Shares.{IsShare, IsShareId}
use Rattle.share_file.specs.Spelling.{row_pages, share_pages, share_spelling}
use Rattle.share_file.specs.Inner.{head_spelling, tail_spelling, AreRows}
use Rattle.share_file.proofs.HeadNumbers.{same_id}
use Rattle.share_file.proofs.RowPages.{same_page, same_rest, none_or_some, no_items, row_page, tail-none, tail-some, row_page_is}
use Rattle.share_file.proofs.Walking.{all_behind}

pub all_drop : {X : Type 0} (P : X → Type 0) (n : ℕ) (xs : List X) → AllByRecursion P xs → AllByRecursion P (drop n xs)
all_drop P n xs all = all_behind P (take n xs) (drop n xs) (subst (AllByRecursion P) (sym (take-append-drop n xs)) all)

regrouped : (a b c d e : List ℕ) → (((a ++ b) ++ c) ++ d) ++ e ≡ a ++ (b ++ (c ++ (d ++ e)))
regrouped a b c d e = simp append_assoc

-- the pages of a share
pub share_pages-parts : (s : Share) → flat_map spelling_of (share_pages s) ≡ spelling_of (Header s.params) ++ tail_spelling 0 s.rows
share_pages-parts s =
    flat_map-cons spelling_of (Header s.params) _
    ∙ ap (λ n. spelling_of (Header s.params)
    ++ flat_map spelling_of (row_pages (block_count (length s.rows)) 0 s.rows ++ Done n ∷ [])) (sym (zero-add (length s.rows)))

pub share_spelling-parts : (s : Share) → share_spelling s ≡ head_spelling s.id ++ (spelling_of (Header s.params) ++ tail_spelling 0 s.rows)
share_spelling-parts s = ap (λ l. head_spelling s.id ++ l) (share_pages-parts s)

-- the head, the Header, the pages of the rows and the last one, put one behind the other
pub share_put : (s : Share) (before head header rows after : List ℕ) → head ≡ before ++ head_spelling s.id → header ≡ head ++ spelling_of (Header s.params)
    → rows ≡ header ++ flat_map spelling_of (row_pages (block_count (length s.rows)) 0 s.rows) → after ≡ rows ++ spelling_of (Done (length s.rows))
    → after ≡ before ++ share_spelling s
share_put s before head header rows after first second third fourth =
    let pages = row_pages (block_count (length s.rows)) 0 s.rows in
    let done = spelling_of (Done (length s.rows)) in
    let last : flat_map spelling_of (Done (length s.rows) ∷ []) ≡ done = flat_map-cons spelling_of (Done (length s.rows)) [] ∙ append-nil done in
    let tail : flat_map spelling_of (pages ++ Done (length s.rows) ∷ []) ≡ flat_map spelling_of pages ++ done =
    flat_map-append spelling_of pages (Done (length s.rows) ∷ []) ∙ ap (λ l. flat_map spelling_of pages ++ l) last in
    let whole : share_spelling s ≡ head_spelling s.id ++ (spelling_of (Header s.params) ++ (flat_map spelling_of pages ++ done)) =
    ap (λ l. head_spelling s.id ++ l) (flat_map-cons spelling_of (Header s.params) _ ∙ ap (λ l. spelling_of (Header s.params) ++ l) tail) in
    fourth ∙ ap (λ l. l ++ done) (third ∙ ap (λ l. l ++ flat_map spelling_of pages) (second ∙ ap (λ l. l ++ spelling_of (Header s.params)) first))
    ∙ regrouped before (head_spelling s.id) (spelling_of (Header s.params)) (flat_map spelling_of pages) done
    ∙ ap (λ l. before ++ l) (sym whole)

-- the rows of a share may stand there
pub share_rows : (s : Share) → IsShare s → AreRows s.params (relation_count s.params.weight s.params.depth) s.rows
share_rows s is = record { few = is.few; entries = is.entries; in_table = is.in_table }

-- rows that could stand from a place on
record StandFrom (first : ℕ) (rows : List FinalEntry) : Type 0 where
  even : first % 64 ≡ 0
  within : first + length rows ≤ 2048
  entries : AllByRecursion IsFinalEntry rows

page_is : (first : ℕ) (rows : List FinalEntry) → StandFrom first rows → 0 < length rows → IsPage (row_page first rows)
page_is first rows stand some = let within = stand.within in row_page_is first rows some stand.even (omega arith) stand.entries

stand_behind : (first : ℕ) (rows : List FinalEntry) → StandFrom first rows → 64 ≤ length rows → StandFrom (first + length (take 64 rows)) (drop 64 rows)
stand_behind first rows stand long =
    let within = stand.within in
    let even = stand.even in
    let taken = length-take 64 rows in
    let left = length-drop 64 rows in
    record { even = omega arith; within = omega arith; entries = all_drop IsFinalEntry 64 rows stand.entries }

no_page_is_last : (first count : ℕ) (rows : List FinalEntry) (x y : List ℕ) → StandFrom first rows → 0 < length rows → count ≤ 2048
    → spelling_of (Done count) ++ x ≢ spelling_of (row_page first rows) ++ y
no_page_is_last first count rows x y stand some few e =
    let same : Done count ≡ row_page first rows = same_page (Done count) (row_page first rows) x y few (page_is first rows stand some) e in
    cc

-- rows of equal spellings are both none, or both some
alike : (first : ℕ) (r t : List FinalEntry) → StandFrom first r → StandFrom first t → tail_spelling first r ≡ tail_spelling first t
    → (r ≡ t) ⊎ ((0 < length r) × (0 < length t))
alike first r t is that e = elim (none_or_some r) [
  | inl none ↦ elim (none_or_some t) [
    | inl also ↦ inl (none ∙ sym also)
    | inr some ↦
        let within = that.within in
        absurd (no_page_is_last first first t [] _ that some (omega arith)
        (sym (tail-none first) ∙ ap (tail_spelling first) (sym none) ∙ e ∙ tail-some first t some))
  ]
  | inr some ↦ elim (none_or_some t) [
    | inl none ↦
        let within = is.within in
        absurd (no_page_is_last first first r [] _ is some (omega arith)
        (sym (tail-none first) ∙ ap (tail_spelling first) (sym none) ∙ sym e ∙ tail-some first r some))
    | inr also ↦ inr (some, also)
  ]
]

entries_of : Page → List FinalEntry
entries_of (Header p) = []
entries_of (Forward page) = []
entries_of (Final page) = page.entries
entries_of (Done rows) = []

entries_of-row_page : (first : ℕ) (rows : List FinalEntry) → entries_of (row_page first rows) ≡ take 64 rows
unfolding entries_of
entries_of-row_page first rows = λ i. take 64 rows

-- the first pages of equal spellings are equal, and what is behind them
record SameFront (first : ℕ) (r t : List FinalEntry) : Type 0 where
  front : take 64 r ≡ take 64 t
  behind : tail_spelling (first + length (take 64 r)) (drop 64 r) ≡ tail_spelling (first + length (take 64 r)) (drop 64 t)

same_front : (first : ℕ) (r t : List FinalEntry) → StandFrom first r → StandFrom first t → 0 < length r → 0 < length t
    → tail_spelling first r ≡ tail_spelling first t → SameFront first r t
same_front first r t is that some also e =
    let both : spelling_of (row_page first r) ++ tail_spelling (first + length (take 64 r)) (drop 64 r)
    ≡ spelling_of (row_page first t) ++ tail_spelling (first + length (take 64 t)) (drop 64 t) =
    sym (tail-some first r some) ∙ e ∙ tail-some first t also in
    let page : row_page first r ≡ row_page first t =
    same_page (row_page first r) (row_page first t) _ _ (page_is first r is some) (page_is first t that also) both in
    let front : take 64 r ≡ take 64 t = sym (entries_of-row_page first r) ∙ ap entries_of page ∙ entries_of-row_page first t in
    record {
      front = front;
      behind = same_rest (row_page first r) (row_page first t) _ _ (page_is first r is some) (page_is first t that also) both
          ∙ ap (λ (l : List FinalEntry). tail_spelling (first + length l) (drop 64 t)) (sym front);
    }

joined_again : (r t : List FinalEntry) → take 64 r ≡ take 64 t → drop 64 r ≡ drop 64 t → r ≡ t
joined_again r t front behind = sym (take-append-drop 64 r) ∙ (λ i. front i ++ behind i) ∙ take-append-drop 64 t

-- equal spellings are of equal rows
same_rows : (k first : ℕ) (r t : List FinalEntry) → length r ≤ k → StandFrom first r → StandFrom first t → tail_spelling first r ≡ tail_spelling first t
    → r ≡ t
same_rows zero first r t few is that e = elim (alike first r t is that e) [ inl same ↦ same | inr some ↦ absurd (let more = some.0 in omega arith) ]
same_rows (suc k) first r t few is that e = elim (alike first r t is that e) [
  | inl same ↦ same
  | inr some ↦
      let front = same_front first r t is that some.0 some.1 e in
      let lengths : length (take 64 r) ≡ length (take 64 t) = ap length front.front in
      let taken_r = length-take 64 r in
      let taken_t = length-take 64 t in
      elim (cases_lt (length r) 64) [
        | inl short ↦
            let none_r : drop 64 r ≡ [] = no_items (drop 64 r) (omega (arith, length-drop 64 r)) in
            let none_t : drop 64 t ≡ [] = no_items (drop 64 t) (omega (arith, length-drop 64 t)) in
            joined_again r t front.front (none_r ∙ sym none_t)
        | inr long ↦
            let more = some.0 in
            let also : 64 ≤ length t = omega arith in
            let left : length (drop 64 r) ≤ k = omega (arith, length-drop 64 r) in
            let that_behind : StandFrom (first + length (take 64 r)) (drop 64 t) =
            subst (λ (n : ℕ). StandFrom (first + n) (drop 64 t)) (sym lengths) (stand_behind first t that also) in
            joined_again r t front.front
            (same_rows k (first + length (take 64 r)) (drop 64 r) (drop 64 t) left (stand_behind first r is long) that_behind front.behind)
      ]
]

share_stands : (s : Share) → IsShare s → StandFrom 0 s.rows
share_stands s is = let few = is.few in let columns = is.params.columns in record { even = refl; within = omega arith; entries = is.entries }

-- no head stands in front
pub no_head : (bytes : List ℕ) → ((id : ShareId) (rest : List ℕ) → IsShareId id → bytes ≢ head_spelling id ++ rest)
    → (s : Share) → IsShare s → bytes ≢ share_spelling s
no_head bytes none s share e = none s.id _ share.id (e ∙ share_spelling-parts s)

module _ (bytes : List ℕ) (id : ShareId) (pages : List ℕ) (is : IsShareId id) (begins : bytes ≡ head_spelling id ++ pages) where
  head_parts : (s : Share) → IsShare s → bytes ≡ share_spelling s → (id ≡ s.id) × (pages ≡ spelling_of (Header s.params) ++ tail_spelling 0 s.rows)
  head_parts s share e = same_id id s.id pages _ is share.id (sym begins ∙ e ∙ share_spelling-parts s)

  -- no page stands behind the head
  pub no_page : ((page : Page) → IsPage page → ¬ (BeginsWith pages page)) → (s : Share) → IsShare s → bytes ≢ share_spelling s
  no_page none s share e = none (Header s.params) share.params (tail_spelling 0 s.rows, (head_parts s share e).1)

  -- another page than the Header stands there
  pub no_header : (page : Page) (behind : List ℕ) → IsPage page → pages ≡ spelling_of page ++ behind → ((p : Params) → page ≢ Header p)
      → (s : Share) → IsShare s → bytes ≢ share_spelling s
  no_header page behind is_page first other s share e =
      other s.params (same_page page (Header s.params) behind _ is_page share.params (sym first ∙ (head_parts s share e).1))

  module _ (params : Params) (behind : List ℕ) (is_params : IsParams params) (first : pages ≡ spelling_of (Header params) ++ behind) (n : ℕ)
      (counted : n ≡ relation_count params.weight params.depth) where
    -- the pages behind the Header are those of no rows
    pub no_rows : ((rows : List FinalEntry) → AreRows params n rows → behind ≢ tail_spelling 0 rows) → (s : Share) → IsShare s → bytes ≢ share_spelling s
    no_rows none s share e =
        let both : spelling_of (Header params) ++ behind ≡ spelling_of (Header s.params) ++ tail_spelling 0 s.rows = sym first ∙ (head_parts s share e).1 in
        let page : Header params ≡ Header s.params = same_page (Header params) (Header s.params) _ _ is_params share.params both in
        let same : params ≡ s.params = cc in
        let rows : AreRows params (relation_count params.weight params.depth) s.rows =
        subst (λ (p : Params). AreRows p (relation_count p.weight p.depth) s.rows) (sym same) (share_rows s share) in
        none s.rows (subst (λ (k : ℕ). AreRows params k s.rows) (sym counted) rows)
        (same_rest (Header params) (Header s.params) _ _ is_params share.params both)

    -- they are those of these rows
    pub whole_share : (rows : List FinalEntry) → AreRows params n rows → behind ≡ tail_spelling 0 rows
        → IsShare (record { params = params; id = id; rows = rows }) × (bytes ≡ share_spelling (record { params = params; id = id; rows = rows }))
    whole_share rows are last =
        let there : AreRows params (relation_count params.weight params.depth) rows = subst (λ (k : ℕ). AreRows params k rows) counted are in (
          record { params = is_params; id = is; few = there.few; entries = there.entries; in_table = there.in_table },
          begins ∙ ap (λ l. head_spelling id ++ l) (first ∙ ap (λ l. spelling_of (Header params) ++ l) last)
              ∙ sym (share_spelling-parts (record { params = params; id = id; rows = rows })),
        )

pub one_share : (s t : Share) → IsShare s → IsShare t → share_spelling s ≡ share_spelling t → s ≡ t
one_share s t is that e =
    let parts = head_parts (share_spelling s) s.id _ is.id (share_spelling-parts s) t that e in
    let page : Header s.params ≡ Header t.params = same_page (Header s.params) (Header t.params) _ _ is.params that.params parts.1 in
    let params : s.params ≡ t.params = cc in
    let rows : s.rows ≡ t.rows =
    same_rows (length s.rows) 0 s.rows t.rows (omega arith) (share_stands s is) (share_stands t that)
    (same_rest (Header s.params) (Header t.params) _ _ is.params that.params parts.1) in
    λ i. record { params = params i; id = parts.0 i; rows = rows i }
