-- The lengths of entries, and of the entries so far.
use Rattle.std.proofs.Common.{◌≡◌, ℕ, ◌+◌, ◌*◌, ◌≤◌, ◌<◌, List, [], ◌∷◌, length, take, get_or, ap, ◌∙◌, arith, length-append}
use Rattle.std.specs.List.{flat_map, AllByRecursion}
use Rattle.std.proofs.Math.Nat.{mul-suc}
use Rattle.std.proofs.lemmas.List.Concat.{flat_map-cons}
use Rattle.std.proofs.lemmas.List.Folds.{length-flat_map-take}
use Rattle.zeta_model.specs.declared.Letter.{Letter}
use Rattle.page_codec.specs.declared.parts.ForwardEntry.{ForwardEntry}
use Rattle.page_codec.specs.declared.parts.FinalEntry.{FinalEntry}
use Rattle.page_codec.specs.declared.parts.ForwardPage.{ForwardPage}
use Rattle.page_codec.specs.declared.parts.FinalPage.{FinalPage}
use Rattle.page_codec.specs.Bounds.{IsForwardPage, IsFinalPage}
use Rattle.page_codec.specs.Spelling.{word_spelling, pair_spelling, row_spelling, combination_spelling, forward_entry, final_entry}
use Rattle.page_codec.specs.Inner.{IsShort}
use Rattle.page_codec.proofs.Appending.{flat_map_more}
use Rattle.page_codec.proofs.Lengths.{each, short_items}

pub exact_items : {A : Type 0} (s : A → List ℕ) (w : ℕ) (xs : List A) → ((x : A) → length (s x) ≡ w) → length (flat_map s xs) ≡ w * length xs
exact_items s w [] all = omega arith
exact_items s w (x ∷ xs) all =
    let others = exact_items s w xs all in
    let whole : length (flat_map s (x ∷ xs)) ≡ length (s x) + length (flat_map s xs) =
    ap length (flat_map-cons s x xs) ∙ length-append (s x) (flat_map s xs) in
    omega (arith, whole, all x, mul-suc w (length xs))

pub length-words : (words : List (List Letter)) → length (flat_map word_spelling words) ≡ 5 * length words
length-words words = exact_items word_spelling 5 words (λ w. omega arith)

pub length-row_spelling : (row : List (ℕ × ℕ)) → length (row_spelling row) ≡ 2 + 10 * length row
length-row_spelling row = let items = exact_items (pair_spelling 2) 10 row (λ e. omega arith) in omega arith

pub length-combination_spelling : (combination : List (ℕ × ℕ)) → length (combination_spelling combination) ≡ 2 + 12 * length combination
length-combination_spelling combination = let items = exact_items (pair_spelling 4) 12 combination (λ e. omega arith) in omega arith

pub length-forward_entry : (e : ForwardEntry) → length (forward_entry e) ≡ 8 + 10 * length e.row + 12 * length e.combination
length-forward_entry e = omega (
  arith,
  length-append (row_spelling e.row)
      (combination_spelling e.combination),
  length-row_spelling e.row,
  length-combination_spelling e.combination,
)

pub length-final_entry : (e : FinalEntry) → length (final_entry e) ≡ 4 + 10 * length e.row + 12 * length e.combination
length-final_entry e = omega (
  arith,
  length-append (row_spelling e.row)
      (combination_spelling e.combination),
  length-row_spelling e.row,
  length-combination_spelling e.combination,
)

pub forward_short : (p : ForwardPage) → IsForwardPage p → AllByRecursion (λ e. IsShort e.row e.combination) p.entries
forward_short p is = each (λ low e. e.number + 1) (λ e. IsShort e.row e.combination)
    (λ low e entry. (entry.row.few, entry.combination.few)) p.first p.entries is.entries

pub final_short : (p : FinalPage) → IsFinalPage p → AllByRecursion (λ e. IsShort e.row e.combination) p.entries
final_short p is = each (λ s e. s) (λ e. IsShort e.row e.combination) (λ s e entry. (entry.row.few, entry.combination.few)) tt p.entries is.entries

each_short : {A : Type 0} (s : A → List ℕ) (w : ℕ) (Short : A → Type 0) → ((a : A) → Short a → length (s a) ≤ w) → (xs : List A) → AllByRecursion Short xs
    → AllByRecursion (λ a. length (s a) ≤ w) xs
each_short s w Short give [] all = tt
each_short s w Short give (x ∷ xs) all = (give x all.0, each_short s w Short give xs all.1)

pub forward_total : (es : List ForwardEntry) → length es ≤ 64 → AllByRecursion (λ e. IsShort e.row e.combination) es
    → length (flat_map forward_entry es) ≤ 2884096
forward_total es few all =
    let items = short_items forward_entry 45064 es (each_short forward_entry 45064 (λ e. IsShort e.row e.combination) (λ e short. let r = short.0 in
    let c = short.1 in omega (arith, length-forward_entry e)) es all) in
    omega arith

pub final_total : (es : List FinalEntry) → length es ≤ 64 → AllByRecursion (λ e. IsShort e.row e.combination) es
    → length (flat_map final_entry es) ≤ 2884096
final_total es few all =
    let items = short_items final_entry 45060 es (each_short final_entry 45060 (λ e. IsShort e.row e.combination) (λ e short. let r = short.0 in
    let c = short.1 in omega (arith, length-final_entry e)) es all) in
    omega arith

module _ {A : Type 0} (s : A → List ℕ) (xs : List A) (i : ℕ) (a : A) (h : i < length xs) (e : a ≡ get_or xs i a) where
  pub size_next : length (flat_map s (take (i + 1) xs)) ≡ length (flat_map s (take i xs)) + length (s a)
  size_next = ap length (flat_map_more s xs i a h e) ∙ length-append (flat_map s (take i xs)) (s a)

  pub size_within : length (flat_map s (take i xs)) + length (s a) ≤ length (flat_map s xs)
  size_within = let part = length-flat_map-take s xs i a h in let same : length (s a) ≡ length (s (get_or xs i a)) = ap (λ b. length (s b)) e in omega arith
