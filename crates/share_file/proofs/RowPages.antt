-- The pages of rows, one by one.
use Rattle.std.proofs.Common.{◌≡◌, ℕ, suc, ◌+◌, ◌%◌, ◌≤◌, ◌<◌, ◌⊎◌, inl, inr, List, [], ◌∷◌, ◌++◌, length, take, drop, refl, sym, ap, ◌∙◌, arith}
use Rattle.std.proofs.Common.{add-zero, length-drop}
use Rattle.std.specs.List.{flat_map, AllByRecursion}
use Rattle.std.proofs.lemmas.List.{length-take}
use Rattle.std.proofs.lemmas.List.Concat.{flat_map-cons}
use Rattle.page_codec.specs.declared.parts.FinalEntry.{FinalEntry}
use Rattle.page_codec.specs.declared.page.Page.{Page}
use Rattle.page_codec.specs.declared.page.Page.TheVariants.{Final, Done}
use Rattle.page_codec.specs.Bounds.{IsPage, IsFinalEntry, AreFinal}
use Rattle.page_codec.specs.Places.{block_count}
use Rattle.page_codec.specs.Spelling.{spelling_of}
use Rattle.page_codec.specs.Inner.{page_at}
use Rattle.page_codec.proofs.Exact.{read, pair_is}
use Rattle.page_codec.proofs.Pages.{page_again}
use Rattle.page_codec.proofs.Lengths.{IsPage-fits, each}
use Rattle.file_model.proofs.ListPlaces.{all_take}
use Rattle.share_file.specs.Spelling.{row_pages}
use Rattle.share_file.specs.Inner.{tail_spelling}

both_read : (p q : Page) (x y : List ℕ) → IsPage p → IsPage q → spelling_of p ++ x ≡ spelling_of q ++ y → read p x ≡ read q y
both_read p q x y is other e = sym (page_again p x (IsPage-fits p is)) ∙ ap page_at e ∙ page_again q y (IsPage-fits q other)

pub same_page : (p q : Page) (x y : List ℕ) → IsPage p → IsPage q → spelling_of p ++ x ≡ spelling_of q ++ y → p ≡ q
same_page p q x y is other e = pair_is (λ page l. page) p q x y (both_read p q x y is other e)

pub same_rest : (p q : Page) (x y : List ℕ) → IsPage p → IsPage q → spelling_of p ++ x ≡ spelling_of q ++ y → x ≡ y
same_rest p q x y is other e = pair_is (λ page l. l) p q x y (both_read p q x y is other e)

pub none_or_some : {A : Type 0} (xs : List A) → (xs ≡ []) ⊎ (0 < length xs)
none_or_some [] = inl refl
none_or_some (x ∷ xs) = inr (omega arith)

pub no_items : {A : Type 0} (xs : List A) → length xs ≡ 0 → xs ≡ []
no_items [] e = refl
no_items (x ∷ xs) e = absurd (omega arith)

-- the page of the first 64 rows
abbrev pub row_page : ℕ → List FinalEntry → Page
row_page first rows = Final (record { first = first; entries = take 64 rows })

-- behind no pages, it does not matter which place comes next
same_places : (count a b : ℕ) (rows : List FinalEntry) → (count ≡ 0) ⊎ (a ≡ b) → row_pages count a rows ≡ row_pages count b rows
same_places count a b rows (inl none) = ap (λ k. row_pages k a rows) none ∙ sym (ap (λ k. row_pages k b rows) none)
same_places count a b rows (inr same) = ap (λ k. row_pages count k rows) same

pub tail-none : (first : ℕ) → tail_spelling first [] ≡ spelling_of (Done first) ++ []
tail-none first = flat_map-cons spelling_of (Done (first + 0)) [] ∙ ap (λ n. spelling_of (Done n) ++ []) (add-zero first)

pub tail-some : (first : ℕ) (rows : List FinalEntry) → 0 < length rows
    → tail_spelling first rows ≡ spelling_of (row_page first rows) ++ tail_spelling (first + length (take 64 rows)) (drop 64 rows)
tail-some first rows some =
    let taken = length-take 64 rows in
    let left = length-drop 64 rows in
    let blocks : block_count (length rows) ≡ suc (block_count (length (drop 64 rows))) = omega arith in
    let places : (block_count (length (drop 64 rows)) ≡ 0) ⊎ (first + 64 ≡ first + length (take 64 rows)) = grind arith in
    let total : first + length rows ≡ first + length (take 64 rows) + length (drop 64 rows) = omega arith in
    let pages : row_pages (block_count (length rows)) first rows
    ≡ row_page first rows ∷ row_pages (block_count (length (drop 64 rows))) (first + length (take 64 rows)) (drop 64 rows) =
    ap (λ k. row_pages k first rows) blocks
    ∙ ap (λ l. row_page first rows ∷ l)
    (same_places (block_count (length (drop 64 rows))) (first + 64) (first + length (take 64 rows)) (drop 64 rows) places) in
    (λ i. flat_map spelling_of (pages i ++ Done (total i) ∷ []))
    ∙ flat_map-cons spelling_of (row_page first rows) _

pub are_final : (rows : List FinalEntry) → AllByRecursion IsFinalEntry rows → AreFinal rows
are_final [] all = tt
are_final (e ∷ rows) all = (all.0, are_final rows all.1)

pub are_entries : (rows : List FinalEntry) → AreFinal rows → AllByRecursion IsFinalEntry rows
are_entries rows final = each (λ s e. s) IsFinalEntry (λ s e is. is) tt rows final

pub row_page_is : (first : ℕ) (rows : List FinalEntry) → 0 < length rows → first % 64 ≡ 0 → first ≤ 2048 → AllByRecursion IsFinalEntry rows
    → IsPage (row_page first rows)
row_page_is first rows some even within entries =
    let taken = length-take 64 rows in
    record {
      first = even;
      fits = omega arith;
      some = omega arith;
      few = omega arith;
      entries = are_final (take 64 rows) (all_take IsFinalEntry 64 rows entries);
    }
