-- How long spellings are.
use Rattle.std.proofs.Common.{◌≡◌, ℕ, ◌+◌, ◌*◌, ◌^◌, ◌≤◌, List, [], ◌∷◌, length, Some, None, ap, ◌∙◌, arith, length-append}
use Rattle.std.specs.List.{flat_map, AllByRecursion}
use Rattle.std.proofs.Math.Nat.{mul-suc}
use Rattle.std.proofs.lemmas.List.Concat.{flat_map-cons}
use Rattle.page_codec.specs.declared.parts.ForwardEntry.{ForwardEntry}
use Rattle.page_codec.specs.declared.parts.FinalEntry.{FinalEntry}
use Rattle.page_codec.specs.declared.page.Page.{Page}
use Rattle.page_codec.specs.declared.page.Page.TheVariants.{Header, Forward, Final, Done}
use Rattle.page_codec.specs.Bounds.{Chain, IsPair, IsRowData, IsCombData, IsForwardEntry, IsFinalEntry, IsPage}
use Rattle.page_codec.specs.Spelling.{word_spelling, pair_spelling, row_spelling, combination_spelling, forward_entry, final_entry, body_of}
use Rattle.page_codec.proofs.WordBits.{FitsWord}
use Rattle.page_codec.proofs.Pages.{FitsPair, FitsPairs, FitsForwardEntry, FitsFinalEntry, FitsPage, FitsWhole}

-- what each element of a chain has
pub each : {S A : Type 0} {Fits : S → A → Type 0} (next : S → A → S) (Has : A → Type 0) → ((s : S) (a : A) → Fits s a → Has a) → (s : S) (xs : List A)
    → Chain Fits next s xs → AllByRecursion Has xs
each next Has give s [] chain = tt
each next Has give s (a ∷ xs) chain = (give s a chain.0, each next Has give (next s a) xs chain.1)

pub all_of : {A : Type 0} (Has : A → Type 0) → ((a : A) → Has a) → (xs : List A) → AllByRecursion Has xs
all_of Has give [] = tt
all_of Has give (x ∷ xs) = (give x, all_of Has give xs)

-- where none is longer than w
pub short_items : {A : Type 0} (s : A → List ℕ) (w : ℕ) (xs : List A) → AllByRecursion (λ x. length (s x) ≤ w) xs → length (flat_map s xs) ≤ w * length xs
short_items s w [] short = omega arith
short_items s w (x ∷ xs) short =
    let others = short_items s w xs short.1 in
    let first = short.0 in
    let whole : length (flat_map s (x ∷ xs)) ≡ length (s x) + length (flat_map s xs) =
    ap length (flat_map-cons s x xs) ∙ length-append (s x) (flat_map s xs) in
    omega (arith, whole, mul-suc w (length xs))

short_row : (es : List (ℕ × ℕ)) → length es ≤ 2048 → length (row_spelling es) ≤ 20482
short_row es few = let items = short_items (pair_spelling 2) 10 es (all_of _ (λ e. omega arith) es) in omega arith

short_combination : (es : List (ℕ × ℕ)) → length es ≤ 2048 → length (combination_spelling es) ≤ 24578
short_combination es few = let items = short_items (pair_spelling 4) 12 es (all_of _ (λ e. omega arith) es) in omega arith

short_final_entry : (s : Unit {0}) (e : FinalEntry) → IsFinalEntry e → length (final_entry e) ≤ 45060
short_final_entry s e is =
    let row = short_row e.row is.row.few in
    let combination = short_combination e.combination is.combination.few in
    omega (arith, length-append (row_spelling e.row) (combination_spelling e.combination))

short_forward_entry : (high low : ℕ) (e : ForwardEntry) → IsForwardEntry low high e → length (forward_entry e) ≤ 45064
short_forward_entry high low e is =
    let row = short_row e.row is.row.few in
    let combination = short_combination e.combination is.combination.few in
    omega (arith, length-append (row_spelling e.row) (combination_spelling e.combination))

-- the longest body is that of a Forward page
pub short_body : (page : Page) → IsPage page → length (body_of page) ≤ 2884101
short_body (Header p) is =
    let items = short_items word_spelling 5 p.preferred (all_of _ (λ w. omega arith) p.preferred) in
    let few = is.preferred.few in
    omega arith
short_body (Forward p) is =
    let items = short_items forward_entry 45064 p.entries
    (each (λ low e. e.number + 1) _ (short_forward_entry (p.first + 64)) p.first p.entries is.entries) in
    let few = is.few in
    omega arith
short_body (Final p) is =
    let items = short_items final_entry 45060 p.entries (each (λ s e. s) _ short_final_entry tt p.entries is.entries) in
    let few = is.few in
    omega arith
short_body (Done rows) is = omega arith

pairs_fit : (n high : ℕ) → high ≤ 256 ^ n → (es : List (ℕ × ℕ)) → Chain (λ low e. IsPair low high e) (λ low e. e.0 + 1) 0 es
    → AllByRecursion (FitsPair n) es
pairs_fit n high small es pairs =
    each (λ low e. e.0 + 1) (FitsPair n) (λ low e is. (let below = is.below in omega arith, let limit = is.limit in omega arith)) 0 es pairs

row_fits : (row : List (ℕ × ℕ)) → IsRowData row → FitsPairs 2 row
row_fits row is = (is.few, pairs_fit 2 2048 (omega arith) row is.pairs)

combination_fits : (combination : List (ℕ × ℕ)) → IsCombData combination → FitsPairs 4 combination
combination_fits combination is = (is.few, pairs_fit 4 4294967296 (omega arith) combination is.pairs)

forward_entry_fits : (high : ℕ) → high ≤ 256 ^ 4 → (low : ℕ) (e : ForwardEntry) → IsForwardEntry low high e → FitsForwardEntry e
forward_entry_fits high small low e is = (let below = is.below in omega arith, (row_fits e.row is.row, combination_fits e.combination is.combination))

final_entry_fits : (s : Unit {0}) (e : FinalEntry) → IsFinalEntry e → FitsFinalEntry e
final_entry_fits s e is = (row_fits e.row is.row, combination_fits e.combination is.combination)

page_fits : (page : Page) → IsPage page → FitsPage page
page_fits (Header p) is =
    let limits = is in (
      tt,
      (
        (omega arith, (omega arith, (omega arith, omega arith))),
        (
          is.preferred.few,
          each (λ before u. Some u) FitsWord (λ before u a. let w = a.weight in
              let most = is.weight_to in omega arith) None p.preferred is.preferred.in_order,
        ),
      ),
    )
page_fits (Forward p) is =
    let top : p.first + 64 ≤ 256 ^ 4 = let a = is.first in let b = is.fits in omega arith in (
      let b = is.fits in omega arith,
      (is.few, each (λ low e. e.number + 1) FitsForwardEntry (forward_entry_fits (p.first + 64) top) p.first p.entries is.entries),
    )
page_fits (Final p) is = (let b = is.fits in omega arith, (is.few, each (λ s e. s) FitsFinalEntry final_entry_fits tt p.entries is.entries))
page_fits (Done rows) is = omega arith

-- a page can be spelled
pub IsPage-fits : (page : Page) → IsPage page → FitsWhole page
IsPage-fits page is = (page_fits page is, let short = short_body page is in omega arith)
