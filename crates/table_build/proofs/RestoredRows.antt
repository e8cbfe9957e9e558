-- The rows of the forward pages of a file, put back page by page.
use Rattle.std.proofs.Common.{◌≡◌, ◌≢◌, ◌⊎◌, ℕ, zero, suc, ◌+◌, ◌-◌, ◌*◌, ◌<◌, ◌≤◌, Bool, List, [], ◌∷◌, ◌++◌, length, take, drop, Option, Some, None, refl, sym, ap, subst, ◌∙◌, slice_get, inl, inr, append-nil, arith}
use Rattle.std.specs.Prelude.{IfSome, min}
use Rattle.std.specs.List.{AllByRecursion}
use Rattle.std.proofs.lemmas.Option.{slice_get_within}
use Rattle.std.proofs.lemmas.List.{take-append-drop, take-take}
use Rattle.outside_io.specs.Traces.{Trace}
use Rattle.column_order.specs.Columns.{ColumnList, column_count}
use Rattle.relation_list.specs.declared.names.RelName.{RelName}
use Rattle.lyndon_polys.specs.Tables.{RingTable}
use Rattle.echelon.specs.States.{Elimination}
use Rattle.page_codec.specs.declared.params.Params.{Params}
use Rattle.page_codec.specs.declared.parts.ForwardEntry.{ForwardEntry}
use Rattle.page_codec.specs.declared.parts.ForwardPage.{ForwardPage}
use Rattle.page_codec.specs.declared.page.Page.{Page}
use Rattle.page_codec.specs.declared.page.Page.TheVariants.{Header, Forward, Final, Done}
use Rattle.page_codec.specs.declared.walk.Last.TheVariants.{FrontPage}
use Rattle.page_codec.specs.Places.{AreBelow, ForwardInTable, FitsPlace, WalkAt, walk_of, block_count, last_is, last_of}
use Rattle.page_codec.proofs.Walking.{last_of-push, final_last}
use Rattle.page_file.specs.Notes.{Notes, Suits as SuitsContents, count_of}
use Rattle.page_file.proofs.Reading.{sealed_unique, suits_count}
use Rattle.table_model.specs.Conversion.{Converts}
use Rattle.table_model.specs.ListedSpan.{relation_count}
use Rattle.file_model.specs.TableOf.{IsTableOf}
use Rattle.file_model.specs.Builds.{FitsAt, IsOurs}
use Rattle.file_model.specs.Builds.Answer.{NotForward as SaysNotForward, DiffersAt}
use Rattle.file_model.specs.Resuming.{entries_of, entries_of_page, AllSuit}
use Rattle.file_model.proofs.KeptPages.{entries_of-append}
use Rattle.file_model.proofs.OneAnswer.{suit_first}
use Rattle.table_build.specs.Inner.{AreRows, AreRowsOf, AreRowsOn, CanOffer, IfSealed, IsBehind}
use Rattle.table_build.specs.Resumes.{Tells}
use Rattle.table_build.proofs.Openings.{HasWalked, nothing_walked, stands_behind, walks_on, fits_there, moved, take-at, page_at}
use Rattle.table_build.proofs.Restorings.{no_entry_suits, no_rows_of}

-- behind a header and forward pages, up to the last block, comes the first page, or a forward page
front_next : (p : Params) (n : ℕ) (before : List Page) (page : Page) → FitsPlace p n before page → last_of before ≡ FrontPage → length before ≤ block_count n
    → (((q : ForwardPage) → page ≢ Forward q) × (length before ≡ 0) × (last_is page ≡ FrontPage)) ⊎ ((q : ForwardPage) × (page ≡ Forward q) × (1 ≤ length before))
front_next p n before (Header q) fits last low = inl ((λ f e. absurd (cc e)), ap length fits.0, refl)
front_next p n before (Forward q) fits last low = inr (q, refl, fits.behind_header)
front_next p n before (Final q) fits last low = absurd (elim fits.first [
  | inl f ↦ omega (arith, f.0, low)
  | inr f ↦ let other = final_last before f.0 f.1 in cc (last, other)
])
front_next p n before (Done rows) fits last low = absurd (elim fits.behind [
  | inl f ↦ omega (arith, f, low)
  | inr f ↦ let other = final_last before f.0 f.1 in cc (last, other)
])

-- pages without entries
nothing_kept : (ps : List Page) → ((i : ℕ) (page : Page) → slice_get ps i ≡ Some page → entries_of_page page ≡ []) → entries_of ps ≡ []
nothing_kept [] none = refl
nothing_kept (p ∷ ps) none =
    ap (λ es. es ++ entries_of ps) (none 0 p refl) ∙ nothing_kept ps (λ i page at. none (suc i) page at)

slice_get-drop : (k : ℕ) (ps : List Page) (i : ℕ) → slice_get (drop k ps) i ≡ slice_get ps (i + k)
slice_get-drop zero ps i = ap (slice_get ps) (let e : i ≡ i + 0 = omega arith in e)
slice_get-drop (suc k) [] i = refl
slice_get-drop (suc k) (p ∷ ps) i = slice_get-drop k ps i ∙ ap (slice_get (p ∷ ps)) (let e : suc (i + k) ≡ i + suc k = omega arith in e)

-- the rows of the first pages were put back, which are the header and forward pages
pub record IsRestored {R E : Type 0} (has : E → Bool) (value : E → ℕ) (told : Option Trace) (params : Params) (place : ℕ) (walk : WalkAt)
    (table : RingTable R) (names : List RelName) (ring : R) (e : Elimination R E) (numbers : List ℕ) (rows : List (List (ℕ × E))) : Type 0 where
  pub before : List Page
  pub walked : HasWalked told params place walk before
  pub front : last_of before ≡ FrontPage
  pub can : CanOffer table names ring e (64 * (place - 1))
  pub are_rows : AreRows has (64 * (place - 1)) numbers rows
  pub taken : AreRowsOf value (entries_of before) numbers rows
  pub suit : AllSuit params.modulus (entries_of before)

module _ {R E : Type 0} (nought : E) (has : E → Bool) (value : E → ℕ) (told : Option Trace) (params : Params) where
  -- no page was read
  pub none_restored : (walk : WalkAt) → walk ≡ walk_of params (relation_count params.weight params.depth) [] → (table : RingTable R) (names : List RelName)
      (ring : R) (e : Elimination R E) → CanOffer table names ring e 0 → (numbers : List ℕ) (rows : List (List (ℕ × E))) → numbers ≡ [] → rows ≡ []
      → IsRestored has value told params 0 walk table names ring e numbers rows
  none_restored walk is table names ring e can numbers rows none nor = record {
    before = [];
    walked = nothing_walked told params walk is;
    front = refl;
    can = can;
    are_rows = record {
      count = ap length nor ∙ sym (ap length none);
      in_ring = λ i l. absurd (omega (arith, l, ap length nor));
      rising = λ i k l h. absurd (omega (arith, h, ap length none));
      below = λ i l. absurd (omega (arith, l, ap length none));
    };
    taken = no_rows_of nought has value numbers rows none nor;
    suit = no_entry_suits params.modulus;
  }

  module _ (place : ℕ) (walk : WalkAt) (table : RingTable R) (names : List RelName) (ring : R) (e : Elimination R E) (numbers : List ℕ)
      (rows : List (List (ℕ × E))) (so_far : IsRestored has value told params place walk table names ring e numbers rows) where
    pub behind_walk : IsBehind walk so_far.before
    behind_walk = stands_behind told params place walk so_far.before so_far.walked

    module _ (page : Page) (walk_new : WalkAt) (sealed : IfSealed (λ pages. slice_get pages place ≡ Some page) told)
        (fits : (before : List Page) → IsBehind walk before
        → FitsPlace walk.params walk.relations before page × (walk_new ≡ walk_of walk.params walk.relations (before ++ page ∷ []))) where
      there : FitsPlace params (relation_count params.weight params.depth) so_far.before page
      there = fits_there told params place walk so_far.before so_far.walked page walk_new sealed fits

      first_of : (p : ForwardPage) → page ≡ Forward p → p.first ≡ 64 * (place - 1)
      first_of p is =
          let f = subst (FitsPlace params (relation_count params.weight params.depth) so_far.before) is there in
          let size = so_far.walked.size in
          let first = f.first in
          first ∙ ap (λ k. 64 * (k - 1)) size

      pub page_first : (p : ForwardPage) → page ≡ Forward p → CanOffer table names ring e p.first × AreRows has p.first numbers rows
      page_first p is =
          let same = sym (first_of p is) in
          (subst (CanOffer table names ring e) same so_far.can, subst (λ n. AreRows has n numbers rows) same so_far.are_rows)

      pub page_in_table : (high m : ℕ) → column_count params.weight params.depth ≡ high → params.modulus ≡ m
          → AllByRecursion (λ (x : ForwardEntry). AreBelow high m x.row × AreBelow (x.number + 1) m x.combination) (entries_of_page page)
      page_in_table high m is_high is_m = at page there
        where
          each : (es : List ForwardEntry) → AllByRecursion (ForwardInTable params (relation_count params.weight params.depth)) es
              → AllByRecursion (λ (x : ForwardEntry). AreBelow high m x.row × AreBelow (x.number + 1) m x.combination) es
          each [] h = tt
          each (x ∷ xs) h =
              let first = h.0 in (
                (
                  subst (λ k. AreBelow k m x.row) is_high (subst (λ k. AreBelow (column_count params.weight params.depth) k x.row) is_m first.row),
                  subst (λ k. AreBelow (x.number + 1) k x.combination) is_m first.combination,
                ),
                each xs h.1,
              )

          at : (q : Page) → FitsPlace params (relation_count params.weight params.depth) so_far.before q
              → AllByRecursion (λ (x : ForwardEntry). AreBelow high m x.row × AreBelow (x.number + 1) m x.combination) (entries_of_page q)
          at (Header p) f = tt
          at (Forward p) f = each p.entries f.entries
          at (Final p) f = tt
          at (Done n) f = tt

      one_more : entries_of (so_far.before ++ page ∷ []) ≡ entries_of so_far.before ++ entries_of_page page
      one_more = entries_of-append so_far.before (page ∷ []) ∙ ap (λ es. entries_of so_far.before ++ es) (append-nil (entries_of_page page))

      -- the rows of the page were put back
      pub page_restored : place ≤ block_count (relation_count params.weight params.depth) → (new_table : RingTable R) (new_names : List RelName) (new_ring : R)
          (new : Elimination R E) (new_numbers : List ℕ) (new_rows : List (List (ℕ × E)))
          → ((p : ForwardPage) → page ≡ Forward p → CanOffer new_table new_names new_ring new (p.first + 64) × AreRows has (p.first + 64) new_numbers new_rows)
          → (((p : ForwardPage) → page ≢ Forward p) → CanOffer new_table new_names new_ring new (64 * (place - 1))
          × AreRows has (64 * (place - 1)) new_numbers new_rows)
          → AreRowsOf value (entries_of so_far.before ++ entries_of_page page) new_numbers new_rows
          → AllSuit params.modulus (entries_of so_far.before ++ entries_of_page page)
          → IsRestored has value told params (place + 1) walk_new new_table new_names new_ring new new_numbers new_rows
      page_restored low new_table new_names new_ring new new_numbers new_rows forward plain taken suit =
          let size = so_far.walked.size in
          let found = front_next params (relation_count params.weight params.depth) so_far.before page there so_far.front (omega (arith, size, low)) in
          record {
            before = so_far.before ++ page ∷ [];
            walked = walks_on told params place walk so_far.before so_far.walked page walk_new sealed fits;
            front = last_of-push so_far.before page ∙ (elim found [
              | inl h ↦ h.2
              | inr h ↦ ap last_is h.1
            ]);
            can = elim found [
              | inl h ↦ subst (CanOffer new_table new_names new_ring new) (let e : 64 * (place - 1) ≡ 64 * (place + 1 - 1) = omega (arith, size, h.1) in e) (plain h.0).0
              | inr h ↦ subst (CanOffer new_table new_names new_ring new)
                  (let e : (h.0).first + 64 ≡ 64 * (place + 1 - 1) = omega (arith, size, h.2, first_of h.0 h.1) in e) (forward h.0 h.1).0
            ];
            are_rows = elim found [
              | inl h ↦ subst (λ n. AreRows has n new_numbers new_rows) (let e : 64 * (place - 1) ≡ 64 * (place + 1 - 1) = omega (arith, size, h.1) in e) (plain h.0).1
              | inr h ↦ subst (λ n. AreRows has n new_numbers new_rows)
                  (let e : (h.0).first + 64 ≡ 64 * (place + 1 - 1) = omega (arith, size, h.2, first_of h.0 h.1) in e) (forward h.0 h.1).1
            ];
            taken = subst (λ es. AreRowsOf value es new_numbers new_rows) (sym one_more) taken;
            suit = subst (AllSuit params.modulus) (sym one_more) suit;
          }

      -- or an entry of it does not suit
      pub not_forward_tells : (columns : ColumnList) → IsTableOf params columns → Converts params.modulus columns
          → IfSome told (λ t. (pages : List Page) × IsOurs params t.now.contents pages)
          → ¬ (AllSuit params.modulus (entries_of so_far.before ++ entries_of_page page)) → Tells params told (Some (SaysNotForward place))
      not_forward_tells columns of converts ours not = at told ours sealed so_far.walked.pages_are
        where
          at : (o : Option Trace) → IfSome o (λ t. (pages : List Page) × IsOurs params t.now.contents pages)
              → IfSealed (λ pages. slice_get pages place ≡ Some page) o
              → IfSealed (λ pages. (so_far.before ≡ take place pages) × ((k : ℕ) → k < place → FitsAt params pages k)) o
              → Tells params o (Some (SaysNotForward place))
          at None ours found gone = tt
          at (Some t) ours found gone =
              let pages = ours.0 in
              let is = ours.1 in
              let here = found pages is.reads.sealed in
              let first = (gone pages is.reads.sealed).0 in
              let next : take (suc place) pages ≡ so_far.before ++ page ∷ [] =
              ap (λ k. take k pages) (let e : suc place ≡ place + 1 = omega arith in e) ∙ take-at pages place page here ∙ ap (λ ps. ps ++ page ∷ []) (sym first) in (
                pages,
                columns,
                is,
                of,
                converts,
                record {
                  below = slice_get_within pages place page here;
                  lacks = λ all. not (subst (AllSuit params.modulus) (ap entries_of next ∙ one_more) all);
                  earlier = λ k less. subst (λ ps. AllSuit params.modulus (entries_of ps))
                      (ap (take (suc k)) first ∙ take-take (suc k) place pages (omega (arith, less)))
                      (suit_first params.modulus so_far.before (suc k) so_far.suit);
                },
              )

    module _ (notes : Notes) (suits : IfSome told (λ t. SuitsContents notes t.now.contents))
        (ours : IfSome told (λ t. (pages : List Page) × IsOurs params t.now.contents pages)) where
      -- each page of a file to go on with fits its place
      pub never_misfits : place < count_of notes → IfSealed (λ pages. (before : List Page) → IsBehind walk before → (page : Page)
          → slice_get pages place ≡ Some page → ¬ (FitsPlace walk.params walk.relations before page)) told → Tells params told (Some (DiffersAt place))
      never_misfits within none = at told suits ours none so_far.walked.pages_are
        where
          at : (o : Option Trace) → IfSome o (λ t. SuitsContents notes t.now.contents) → IfSome o (λ t. (pages : List Page) × IsOurs params t.now.contents pages)
              → IfSealed (λ pages. (before : List Page) → IsBehind walk before → (page : Page) → slice_get pages place ≡ Some page
              → ¬ (FitsPlace walk.params walk.relations before page)) o
              → IfSealed (λ pages. (so_far.before ≡ take place pages) × ((k : ℕ) → k < place → FitsAt params pages k)) o
              → Tells params o (Some (DiffersAt place))
          at None s own none gone = tt
          at (Some t) s own none gone =
              let pages = own.0 in
              let is = own.1 in
              let sealed = is.reads.sealed in
              let below : place < length pages = omega (arith, within, suits_count notes pages t.now.contents s sealed) in
              let found = page_at pages place below in
              let fits = subst (λ ps. FitsPlace params (relation_count params.weight params.depth) ps found.0) (sym (gone pages sealed).0)
              (is.fit place below found.0 found.1) in
              absurd (none pages sealed so_far.before behind_walk found.0 found.1
              (moved told params place walk so_far.before so_far.walked found.0 fits))

      -- the rows of all forward pages were put back
      pub all_restored : place ≡ min (count_of notes) (1 + block_count (relation_count params.weight params.depth))
          → IfSealed (λ pages. AreRowsOn value pages numbers rows × AllSuit params.modulus (entries_of pages)) told
      all_restored whole = at told suits ours so_far.walked.pages_are
        where
          at : (o : Option Trace) → IfSome o (λ t. SuitsContents notes t.now.contents) → IfSome o (λ t. (pages : List Page) × IsOurs params t.now.contents pages)
              → IfSealed (λ pages. (so_far.before ≡ take place pages) × ((k : ℕ) → k < place → FitsAt params pages k)) o
              → IfSealed (λ pages. AreRowsOn value pages numbers rows × AllSuit params.modulus (entries_of pages)) o
          at None s own gone = tt
          at (Some t) s own gone = λ pages sealed.
              let is = own.1 in
              let first = (gone pages sealed).0 in
              let fit : (i : ℕ) → i < length pages → FitsAt params pages i =
              subst (λ ps. (i : ℕ) → i < length ps → FitsAt params ps i) (sealed_unique own.0 pages t.now.contents is.reads.sealed sealed) is.fit in
              let count = suits_count notes pages t.now.contents s sealed in
              let rest : entries_of (drop place pages) ≡ [] = nothing_kept (drop place pages) (λ i page at.
              let there : slice_get pages (i + place) ≡ Some page = sym (slice_get-drop place pages i) ∙ at in
              let l : i + place < length pages = slice_get_within pages (i + place) page there in
              plain page (i + place) pages (omega (arith, l)) (omega (arith, l, count, whole)) (fit (i + place) l page there)) in
              let same : entries_of so_far.before ≡ entries_of pages =
              ap entries_of first ∙ sym (append-nil (entries_of (take place pages))) ∙ ap (λ es. entries_of (take place pages) ++ es) (sym rest)
              ∙ sym (entries_of-append (take place pages) (drop place pages)) ∙ ap entries_of (take-append-drop place pages) in
              (subst (λ es. AreRowsOf value es numbers rows) same so_far.taken, subst (AllSuit params.modulus) same so_far.suit)
            where
              plain : (page : Page) (i : ℕ) (ps : List Page) → i ≤ length ps → 1 + block_count (relation_count params.weight params.depth) ≤ i
                  → FitsPlace params (relation_count params.weight params.depth) (take i ps) page → entries_of_page page ≡ []
              plain (Header p) i ps l past f = refl
              plain (Forward p) i ps l past f = let low = f.within in absurd (omega (arith, low, past, l, long i ps l))
                where
                  long : (k : ℕ) (xs : List Page) → k ≤ length xs → length (take k xs) ≡ k
                  long zero xs h = refl
                  long (suc k) [] h = absurd (omega (arith, h))
                  long (suc k) (x ∷ xs) h = let e = long k xs (omega (arith, h)) in omega (arith, e)
              plain (Final p) i ps l past f = refl
              plain (Done n) i ps l past f = refl
