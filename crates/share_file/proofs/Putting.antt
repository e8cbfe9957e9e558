-- Pages of rows put one behind the other, as the loop of `put_rows` does.
use Rattle.std.proofs.Common.{◌≡◌, ℕ, suc, ◌+◌, ◌-◌, ◌*◌, ◌≤◌, ◌<◌, inl, inr, List, ◌++◌, length, take, drop, min, sym, ap, subst, ◌∙◌, arith}
use Rattle.std.proofs.Common.{length-drop, append_assoc}
use Rattle.std.specs.List.{flat_map, AllByRecursion}
use Rattle.std.proofs.lemmas.List.{take_all, append-nil, drop-drop}
use Rattle.std.proofs.lemmas.List.Concat.{flat_map-cons}
use Rattle.std.proofs.lemmas.Bool.{cases_lt}
use Rattle.page_codec.specs.declared.parts.FinalEntry.{FinalEntry}
use Rattle.page_codec.specs.Bounds.{IsFinalEntry, IsFinalPage}
use Rattle.page_codec.specs.Places.{block_count}
use Rattle.page_codec.specs.Spelling.{spelling_of}
use Rattle.share_file.specs.Spelling.{row_pages}
use Rattle.share_file.proofs.RowPages.{row_page, row_page_is}
use Rattle.share_file.proofs.Shares.{all_drop}

-- the spellings of so many pages of these rows from page number n on
abbrev pub pages_from : ℕ → ℕ → List FinalEntry → List ℕ
pages_from count n rows = flat_map spelling_of (row_pages count (64 * n) (drop (64 * n) rows))

take_few : (rows : List FinalEntry) → take (min (length rows) 64) rows ≡ take 64 rows
take_few rows = elim (cases_lt (length rows) 64) [
  | inl short ↦ take_all (min (length rows) 64) rows (omega arith) ∙ sym (take_all 64 rows (omega arith))
  | inr long ↦ let n : min (length rows) 64 ≡ 64 = omega arith in ap (λ k. take k rows) n
]

module _ (rows front behind : List FinalEntry) (n k : ℕ) (behind_is : behind ≡ drop (64 * n) rows) (k_is : k ≡ min (length behind) 64)
    (front_is : front ≡ take k behind) where
  pub front_rows : front ≡ take 64 (drop (64 * n) rows)
  front_rows = front_is ∙ ap (λ j. take j behind) k_is ∙ take_few behind ∙ ap (take 64) behind_is

  pub front_page : length rows ≤ 2048 → AllByRecursion IsFinalEntry rows → n < block_count (length rows)
      → IsFinalPage (record { first = 64 * n; entries = front })
  front_page few entries h =
      let some : 0 < length (drop (64 * n) rows) = omega (arith, length-drop (64 * n) rows) in
      let is = row_page_is (64 * n) (drop (64 * n) rows) some (omega arith) (omega arith) (all_drop IsFinalEntry (64 * n) rows entries) in
      subst (λ (l : List FinalEntry). IsFinalPage (record { first = 64 * n; entries = l })) (sym front_rows) is

-- one page more
pub put_on : (rows : List FinalEntry) (count n : ℕ) (before after whole : List ℕ) → n < count
    → after ≡ before ++ spelling_of (row_page (64 * n) (drop (64 * n) rows)) → before ++ pages_from (count - n) n rows ≡ whole
    → after ++ pages_from (count - (n + 1)) (n + 1) rows ≡ whole
put_on rows count n before after whole h put so_far =
    let page = row_page (64 * n) (drop (64 * n) rows) in
    let more : count - n ≡ suc (count - (n + 1)) = omega arith in
    let place : 64 * n + 64 ≡ 64 * (n + 1) = omega arith in
    let left : drop 64 (drop (64 * n) rows) ≡ drop (64 * (n + 1)) rows = drop-drop 64 (64 * n) rows ∙ ap (λ k. drop k rows) place in
    let one : pages_from (count - n) n rows ≡ spelling_of page ++ pages_from (count - (n + 1)) (n + 1) rows =
    ap (λ k. pages_from k n rows) more
    ∙ flat_map-cons spelling_of page _
    ∙ (λ i. spelling_of page ++ flat_map spelling_of (row_pages (count - (n + 1)) (place i) (left i))) in
    ap (λ l. l ++ pages_from (count - (n + 1)) (n + 1) rows) put
    ∙ append_assoc before (spelling_of page) (pages_from (count - (n + 1)) (n + 1) rows)
    ∙ ap (λ l. before ++ l) (sym one)
    ∙ so_far

pub put_start : (rows : List FinalEntry) (count : ℕ) (before : List ℕ)
    → before ++ pages_from (count - 0) 0 rows ≡ before ++ flat_map spelling_of (row_pages count 0 rows)
put_start rows count before = let same : count - 0 ≡ count = omega arith in ap (λ k. before ++ pages_from k 0 rows) same

pub put_end : (rows : List FinalEntry) (count n : ℕ) (out whole : List ℕ) → count ≤ n → out ++ pages_from (count - n) n rows ≡ whole → out ≡ whole
put_end rows count n out whole h so_far =
    let none : count - n ≡ 0 = omega arith in
    sym (append-nil out) ∙ ap (λ k. out ++ pages_from k n rows) (sym none) ∙ so_far
