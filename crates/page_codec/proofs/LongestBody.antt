-- A page with the longest body: a Forward page of 64 entries, whose rows and combinations have 2,048 pairs.
use Rattle.std.proofs.Common.{◌≡◌, ℕ, zero, suc, ◌+◌, ◌*◌, ◌≤◌, List, [], ◌∷◌, length, refl, ap, ◌∙◌, arith, length-append}
use Rattle.std.specs.List.{flat_map, AllByRecursion}
use Rattle.std.proofs.Math.Nat.{mul-suc}
use Rattle.std.proofs.lemmas.List.Concat.{flat_map-cons}
use Rattle.page_codec.specs.declared.parts.ForwardEntry.{ForwardEntry}
use Rattle.page_codec.specs.declared.parts.ForwardPage.{ForwardPage}
use Rattle.page_codec.specs.declared.page.Page.{Page}
use Rattle.page_codec.specs.declared.page.Page.TheVariants.{Forward}
use Rattle.page_codec.specs.Bounds.{Chain, IsPair, BeginsWith1, IsRowData, IsCombData, IsForwardEntry, AreForward, IsPage}
use Rattle.page_codec.specs.Spelling.{pair_spelling, row_spelling, combination_spelling, forward_entry, body_of}
use Rattle.page_codec.proofs.Lengths.{all_of}

-- n pairs with the residue 1, whose keys go up from low
pairs_from : ℕ → ℕ → List (ℕ × ℕ)
pairs_from zero low = []
pairs_from (suc n) low = (low, 1) ∷ pairs_from n (low + 1)

length-pairs_from : (n low : ℕ) → length (pairs_from n low) ≡ n
unfolding pairs_from
length-pairs_from zero low = refl
length-pairs_from (suc n) low = ap suc (length-pairs_from n (low + 1))

pairs_from-increase : (high n low : ℕ) → low + n ≤ high → Chain (λ l e. IsPair l high e) (λ l e. e.0 + 1) low (pairs_from n low)
unfolding pairs_from
pairs_from-increase high zero low fits = tt
pairs_from-increase high (suc n) low fits = (
  record { from = omega arith; below = omega arith; residue = omega arith; limit = omega arith },
  pairs_from-increase high n (low + 1) (omega arith),
)

begins_with_1 : (n low : ℕ) → BeginsWith1 (pairs_from (suc n) low)
unfolding pairs_from
begins_with_1 n low = refl

-- as many pairs as there may be
full : List (ℕ × ℕ)
full = pairs_from 2048 0

length-full : length full ≡ 2048
unfolding full
length-full = length-pairs_from 2048 0

full_row : IsRowData full
unfolding full
full_row = record { few = omega (arith, length-pairs_from 2048 0); first = begins_with_1 2047 0; pairs = pairs_from-increase 2048 2048 0 (omega arith) }

full_combination : IsCombData full
unfolding full
full_combination = record {
  some = omega (arith, length-pairs_from 2048 0);
  few = omega (arith, length-pairs_from 2048 0);
  pairs = pairs_from-increase 4294967296 2048 0 (omega arith);
}

-- where all have one length
even_items : {A : Type 0} (s : A → List ℕ) (w : ℕ) (xs : List A) → AllByRecursion (λ x. length (s x) ≡ w) xs → length (flat_map s xs) ≡ w * length xs
even_items s w [] even = omega arith
even_items s w (x ∷ xs) even =
    let others = even_items s w xs even.1 in
    let first = even.0 in
    let whole : length (flat_map s (x ∷ xs)) ≡ length (s x) + length (flat_map s xs) =
    ap length (flat_map-cons s x xs) ∙ length-append (s x) (flat_map s xs) in
    omega (arith, whole, mul-suc w (length xs))

length-row : length (row_spelling full) ≡ 20482
length-row = let items = even_items (pair_spelling 2) 10 full (all_of _ (λ e. omega arith) full) in omega (arith, length-full)

length-combination : length (combination_spelling full) ≡ 24578
length-combination = let items = even_items (pair_spelling 4) 12 full (all_of _ (λ e. omega arith) full) in omega (arith, length-full)

entry_of_number : ℕ → ForwardEntry
entry_of_number n = record { number = n; row = full; combination = full }

length-entry : (n : ℕ) → length (forward_entry (entry_of_number n)) ≡ 45064
unfolding entry_of_number
length-entry n = omega (arith, length-row, length-combination, length-append (row_spelling full) (combination_spelling full))

-- n such entries, whose numbers go up from low
entries_from : ℕ → ℕ → List ForwardEntry
entries_from zero low = []
entries_from (suc n) low = entry_of_number low ∷ entries_from n (low + 1)

length-entries_from : (n low : ℕ) → length (entries_from n low) ≡ n
unfolding entries_from
length-entries_from zero low = refl
length-entries_from (suc n) low = ap suc (length-entries_from n (low + 1))

entries_from-even : (n low : ℕ) → AllByRecursion (λ e. length (forward_entry e) ≡ 45064) (entries_from n low)
unfolding entries_from
entries_from-even zero low = tt
entries_from-even (suc n) low = (length-entry low, entries_from-even n (low + 1))

is_entry : (high low : ℕ) → low + 1 ≤ high → IsForwardEntry low high (entry_of_number low)
unfolding entry_of_number
is_entry high low fits = record { from = omega arith; below = omega arith; row = full_row; combination = full_combination }

entries_from-forward : (high n low : ℕ) → low + n ≤ high → AreForward low high (entries_from n low)
unfolding entries_from entry_of_number
entries_from-forward high zero low fits = tt
entries_from-forward high (suc n) low fits = (is_entry high low (omega arith), entries_from-forward high n (low + 1) (omega arith))

abbrev longest_page : ForwardPage
longest_page = record { first = 0; entries = entries_from 64 0 }

pub longest_body : (page : Page) × IsPage page × (length (body_of page) ≡ 2884101)
longest_body =
    let items = even_items forward_entry 45064 (entries_from 64 0) (entries_from-even 64 0) in
    let many = length-entries_from 64 0 in (
      Forward longest_page,
      record { first = omega arith; fits = omega arith; few = omega arith; entries = entries_from-forward 64 64 0 (omega arith) },
      omega arith,
    )
