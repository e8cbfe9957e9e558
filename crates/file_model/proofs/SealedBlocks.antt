-- Sealed pages that fit their places: the header, forward pages block by block, and pages that keep nothing.
use Rattle.std.specs.Prelude.{◌≡◌, ℕ, zero, suc, ◌+◌, ◌-◌, ◌*◌, ◌<◌, ◌≤◌, min, Some, List, [], ◌∷◌, ◌++◌, length, slice_get}
use Rattle.std.proofs.Common.{refl, sym, ◌∙◌, ap, subst, inl, inr, arith}
use Rattle.std.specs.List.{AllByRecursion}
use Rattle.std.specs.List.Sorted.{IsStrictlySortedBy}
use Rattle.std.specs.Ordering.{nat_cmp}
use Rattle.std.specs.Cmp.{nat_cmp_is}
use Rattle.std.specs.declared.cmp.Ordering.TheVariants.{Less}
use Rattle.std.proofs.lemmas.List.{append-nil, length-append}
use Rattle.std.proofs.lemmas.Option.{slice_get_within, slice_get_read, get_or_from_slice_get}
use Rattle.page_codec.specs.declared.params.Params.{Params}
use Rattle.page_codec.specs.declared.parts.ForwardEntry.{ForwardEntry}
use Rattle.page_codec.specs.declared.page.Page.{Page}
use Rattle.page_codec.specs.declared.page.Page.TheVariants.{Header, Forward, Final, Done}
use Rattle.page_codec.specs.declared.walk.Last.TheVariants.{FrontPage}
use Rattle.page_codec.specs.Bounds.{AreForward, IsPage, IsRowData, IsCombData}
use Rattle.page_codec.specs.Places.{block_count, FitBehind, ForwardInTable, last_of}
use Rattle.page_codec.proofs.Walking.{last_of-push, final_last}
use Rattle.file_model.specs.Pages.{forward_page, numbers_of}
use Rattle.file_model.specs.Resuming.{entries_of_page, entries_of, blocks_of_page, blocks_of}
use Rattle.file_model.proofs.ListPlaces.{all_append, all_weaker}
use Rattle.file_model.proofs.KeptPages.{entries_of-append, blocks_of-append}
use Rattle.file_model.proofs.Keeping.{IsPlain, plain_entries, plain_blocks}
use Rattle.file_model.proofs.NumberRanges.{IsRanged, AreRanged, AreInBlocks, in_blocks}

-- an entry that a page of a file of the parameters may hold
pub record IsFitting (params : Params) (n : ℕ) (e : ForwardEntry) : Type 0 where
  pub row : IsRowData e.row
  pub combination : IsCombData e.combination
  pub table : ForwardInTable params n e

-- the entries of block b
pub record IsBlock (params : Params) (n b : ℕ) (es : List ForwardEntry) : Type 0 where
  pub within : b < block_count n
  pub chain : AreForward (64 * b) (64 * b + 64) es
  pub each : AllByRecursion (IsFitting params n) es

-- forward pages from block b on
abbrev pub Blocks : Params → ℕ → ℕ → List Page → Type 0
Blocks params n b [] = Unit {0}
Blocks params n b (page ∷ pages) = ((es : List ForwardEntry) × (page ≡ forward_page (64 * b) es) × IsBlock params n b es) × Blocks params n (suc b) pages

fitting : (params : Params) (n low high : ℕ) (es : List ForwardEntry) → AreForward low high es → AllByRecursion (ForwardInTable params n) es
    → AllByRecursion (IsFitting params n) es
fitting params n low high [] c h = tt
fitting params n low high (e ∷ es) c h =
    let is = c.0 in (record { row = is.row; combination = is.combination; table = h.0 }, fitting params n (e.number + 1) high es c.1 h.1)

-- behind all forward pages no page keeps anything
plain_behind : (params : Params) (n : ℕ) (before pages : List Page) → block_count n + 1 ≤ length before → FitBehind params n before pages
    → AllByRecursion IsPlain pages
plain_behind params n before [] long h = tt
plain_behind params n before (Header q ∷ pages) long h = let none : length before ≡ 0 = ap length h.0.0 in absurd (omega (arith, none, long))
plain_behind params n before (Forward q ∷ pages) long h = let fits = h.0 in absurd (let l = fits.within in omega (arith, l, long))
plain_behind params n before (Final q ∷ pages) long h =
    ((refl, refl), plain_behind params n (before ++ Final q ∷ []) pages (omega (arith, long, length-append before (Final q ∷ []))) h.1)
plain_behind params n before (Done rows ∷ pages) long h =
    ((refl, refl), plain_behind params n (before ++ Done rows ∷ []) pages (omega (arith, long, length-append before (Done rows ∷ []))) h.1)

-- pages that begin at block b
record IsParted (params : Params) (n b : ℕ) (pages : List Page) : Type 0 where
  blocks : List Page
  tail : List Page
  parts : pages ≡ blocks ++ tail
  are : Blocks params n b blocks
  plain : AllByRecursion IsPlain tail
  counted : length blocks + b ≡ min (length pages + b) (block_count n)

all_plain : (params : Params) (n b : ℕ) (pages : List Page) → AllByRecursion IsPlain pages → b ≡ min (length pages + b) (block_count n)
    → IsParted params n b pages
all_plain params n b pages h counted = record { blocks = []; tail = pages; parts = refl; are = tt; plain = h; counted = omega (arith, counted) }

parted : (params : Params) (n b : ℕ) (before pages : List Page) → length before ≡ 1 + b → b ≤ block_count n → last_of before ≡ FrontPage
    → AllByRecursion IsPage pages → FitBehind params n before pages → IsParted params n b pages
parted params n b before [] size most last is h = all_plain params n b [] tt (omega (arith, most))
parted params n b before (Header q ∷ pages) size most last is h = let none : length before ≡ 0 = ap length h.0.0 in absurd (omega (arith, none, size))
parted params n b before (Forward q ∷ pages) size most last is h =
    let fits = h.0 in
    let page = is.0 in
    let first : q.first ≡ 64 * b = omega (arith, fits.first, size) in
    let chain : AreForward (64 * b) (64 * b + 64) q.entries = subst (λ x. AreForward x (x + 64) q.entries) first page.entries in
    let rest = parted params n (suc b) (before ++ Forward q ∷ []) pages (omega (arith, size, length-append before (Forward q ∷ [])))
    (omega (arith, fits.within, size)) (last_of-push before (Forward q)) is.1 h.1 in record {
      blocks = Forward q ∷ rest.blocks;
      tail = rest.tail;
      parts = ap (λ ps. Forward q ∷ ps) rest.parts;
      are = (
        (
          q.entries,
          λ i. Forward (record { first = first i; entries = q.entries }),
          record { within = omega (arith, fits.within, size); chain = chain; each = fitting params n (64 * b) (64 * b + 64) q.entries chain fits.entries },
        ),
        rest.are,
      );
      plain = rest.plain;
      counted = omega (arith, rest.counted);
    }
parted params n b before (Final q ∷ pages) size most last is h =
    let fits = h.0 in
    let long : block_count n + 1 ≤ length before = elim fits.first [
      | inl f ↦ omega (arith, f.0)
      | inr f ↦ let other = final_last before f.0 f.1 in absurd (cc (last, other))
    ] in
    all_plain params n b (Final q ∷ pages) (plain_behind params n before (Final q ∷ pages) long h) (omega (arith, long, size, most))
parted params n b before (Done rows ∷ pages) size most last is h =
    let fits = h.0 in
    let long : block_count n + 1 ≤ length before = elim fits.behind [
      | inl f ↦ omega (arith, f)
      | inr f ↦ let other = final_last before f.0 f.1 in absurd (cc (last, other))
    ] in
    all_plain params n b (Done rows ∷ pages) (plain_behind params n before (Done rows ∷ pages) long h) (omega (arith, long, size, most))

-- what sealed pages keep is what their forward pages keep
pub record HaveBlocks (params : Params) (n : ℕ) (pages : List Page) : Type 0 where
  pub blocks : List Page
  pub are : Blocks params n 0 blocks
  pub entries_are : entries_of pages ≡ entries_of blocks
  pub blocks_are : blocks_of pages ≡ length blocks
  pub counted : length blocks ≡ min (length pages - 1) (block_count n)
  pub forward_is : (k : ℕ) (page : Page) → slice_get blocks k ≡ Some page → slice_get pages (suc k) ≡ Some page

blocks_count : (params : Params) (n b : ℕ) (fs : List Page) → Blocks params n b fs → blocks_of fs ≡ length fs
blocks_count params n b [] h = refl
blocks_count params n b (p ∷ fs) h = let (es, at, is) = h.0 in omega (arith, ap blocks_of_page at, blocks_count params n (suc b) fs h.1)

pub behind_first_page : (k : ℕ) (x : Page) (zs : List Page) (page : Page) → slice_get zs k ≡ Some page → slice_get (x ∷ zs) (suc k) ≡ Some page
behind_first_page k x zs page at =
    let l : k < length zs = slice_get_within zs k page at in
    slice_get_read (x ∷ zs) (suc (length zs)) (suc k) page refl (omega (arith, l)) (sym (get_or_from_slice_get zs k page page at))

at_front : (k : ℕ) (xs ys : List Page) (page : Page) → slice_get xs k ≡ Some page → slice_get (xs ++ ys) k ≡ Some page
at_front k [] ys page at = absurd (let l : k < 0 = slice_get_within [] k page at in omega (arith, l))
at_front zero (x ∷ xs) ys page at = at
at_front (suc k) (x ∷ xs) ys page at =
    let l : suc k < length (x ∷ xs) = slice_get_within (x ∷ xs) (suc k) page at in
    let low : slice_get xs k ≡ Some page =
    slice_get_read xs (length xs) k page refl (omega (arith, l)) (sym (get_or_from_slice_get (x ∷ xs) (suc k) page page at)) in
    behind_first_page k x (xs ++ ys) page (at_front k xs ys page low)

have_blocks : (params : Params) (n : ℕ) (q : Params) (pages : List Page) → IsParted params n 0 pages → HaveBlocks params n (Header q ∷ pages)
have_blocks params n q pages h = record {
  blocks = h.blocks;
  are = h.are;
  entries_are = ap entries_of h.parts ∙ entries_of-append h.blocks h.tail ∙ ap (λ es. entries_of h.blocks ++ es) (plain_entries h.tail h.plain)
      ∙ append-nil (entries_of h.blocks);
  blocks_are = omega (arith, ap blocks_of h.parts, blocks_of-append h.blocks h.tail, plain_blocks h.tail h.plain, blocks_count params n 0 h.blocks h.are);
  counted = omega (arith, h.counted);
  forward_is = λ k page at.
      behind_first_page k (Header q) pages page (subst (λ ps. slice_get ps k ≡ Some page) (sym h.parts) (at_front k h.blocks h.tail page at));
}

pub sealed_blocks : (params : Params) (n : ℕ) (pages : List Page) → AllByRecursion IsPage pages → FitBehind params n [] pages → HaveBlocks params n pages
sealed_blocks params n [] is h =
    record { blocks = []; are = tt; entries_are = refl; blocks_are = refl; counted = omega arith; forward_is = λ k page at. absurd (none k page at) }
  where
    none : (k : ℕ) (page : Page) → slice_get [] k ≡ Some page → ⊥
    none k page at = let l : k < 0 = slice_get_within [] k page at in omega (arith, l)
sealed_blocks params n (Header q ∷ pages) is h = have_blocks params n q pages (parted params n 0 (Header q ∷ []) pages refl (omega arith) refl is.1 h.1)
sealed_blocks params n (Forward q ∷ pages) is h = let fits = h.0 in absurd (let l : 1 ≤ 0 = fits.behind_header in omega (arith, l))
sealed_blocks params n (Final q ∷ pages) is h =
    let fits = h.0 in elim fits.first [
      | inl f ↦ absurd (let l : 0 ≡ block_count n + 1 = f.0 in omega (arith, l))
      | inr f ↦ absurd (let (front, e) = f.1 in omega (arith, ap length e, length-append front (Final f.0 ∷ [])))
    ]
sealed_blocks params n (Done rows ∷ pages) is h =
    let fits = h.0 in elim fits.behind [
      | inl f ↦ absurd (let l : 0 ≡ block_count n + 1 = f in omega (arith, l))
      | inr f ↦ absurd (let (front, e) = f.1 in omega (arith, ap length e, length-append front (Final f.0 ∷ [])))
    ]

-- ---- numbers

chain_numbers : (low high : ℕ) (es : List ForwardEntry) → AreForward low high es
    → AllByRecursion (λ n. (low ≤ n) × (n < high)) (numbers_of es) × IsStrictlySortedBy nat_cmp (numbers_of es)
unfolding IsStrictlySortedBy
chain_numbers low high [] c = (tt, tt)
chain_numbers low high (e ∷ es) c =
    let is = c.0 in
    let from : low ≤ e.number = is.from in
    let below : e.number < high = is.below in
    let (later, rising) = chain_numbers (e.number + 1) high es c.1 in (
      (
        (from, below),
        all_weaker (λ n. (e.number + 1 ≤ n) × (n < high)) (λ n. (low ≤ n) × (n < high)) (λ n l. (omega (arith, from, l.0), l.1)) (numbers_of es) later,
      ),
      (
        all_weaker (λ n. (e.number + 1 ≤ n) × (n < high)) (λ n. nat_cmp e.number n ≡ Less)
            (λ n l. sym (nat_cmp_is e.number n Less (omega (arith, l.0)))) (numbers_of es) later,
        rising,
      ),
    )

module _ (params : Params) (n : ℕ) where
  pub block_numbers : (b : ℕ) (es : List ForwardEntry) → IsBlock params n b es → IsRanged b (numbers_of es)
  block_numbers b es h = let (within, rising) = chain_numbers (64 * b) (64 * b + 64) es h.chain in record { within = within; rising = rising }

  blocks_ranged : (b : ℕ) (fs : List Page) → Blocks params n b fs → AreRanged b fs
  blocks_ranged b [] h = tt
  blocks_ranged b (p ∷ fs) h =
      let (es, at, block) = h.0 in
      (subst (λ x. IsRanged b (numbers_of (entries_of_page x))) (sym at) (block_numbers b es block), blocks_ranged (suc b) fs h.1)

  pub all_numbers : (b : ℕ) (fs : List Page) → Blocks params n b fs → AreInBlocks b fs
  all_numbers b fs h = in_blocks b fs (blocks_ranged b fs h)

  pub all_fitting : (b : ℕ) (fs : List Page) → Blocks params n b fs → AllByRecursion (IsFitting params n) (entries_of fs)
  all_fitting b [] h = tt
  all_fitting b (p ∷ fs) h =
      let (es, at, block) = h.0 in
      all_append (IsFitting params n) (entries_of_page p) (entries_of fs)
      (subst (λ x. AllByRecursion (IsFitting params n) (entries_of_page x)) (sym at) block.each)
      (all_fitting (suc b) fs h.1)

  -- each page is that of its block
  pub block_page : (b : ℕ) (fs : List Page) → Blocks params n b fs → (k : ℕ) → k < length fs
      → (es : List ForwardEntry) × (slice_get fs k ≡ Some (forward_page (64 * (b + k)) es)) × (b + k < block_count n)
  block_page b [] h k l = absurd (omega (arith, l))
  block_page b (p ∷ fs) h zero l =
      let (es, at, block) = h.0 in
      let start : b ≡ b + 0 = omega arith in
      (es, ap (λ x. Some x) (at ∙ ap (λ x. forward_page (64 * x) es) start), omega (arith, block.within))
  block_page b (p ∷ fs) h (suc k) l =
      let (es, at, inside) = block_page (suc b) fs h.1 k (omega (arith, l)) in
      let step : suc b + k ≡ b + suc k = omega arith in
      (es, behind_first_page k p fs (forward_page (64 * (b + suc k)) es) (at ∙ ap (λ x. Some (forward_page (64 * x) es)) step), omega (arith, inside))
