-- The numbers of the entries of pages, block by block.
use Rattle.std.specs.Prelude.{◌≡◌, ℕ, suc, ◌+◌, ◌*◌, ◌<◌, ◌≤◌, List, [], ◌∷◌, ◌++◌, length}
use Rattle.std.proofs.Common.{refl, sym, ap, subst, arith}
use Rattle.std.specs.List.{AllByRecursion}
use Rattle.std.specs.List.Sorted.{IsStrictlySortedBy}
use Rattle.std.specs.Ordering.{nat_cmp}
use Rattle.std.specs.Cmp.{nat_cmp_is}
use Rattle.std.specs.declared.cmp.Ordering.TheVariants.{Less}
use Rattle.page_codec.specs.declared.parts.ForwardEntry.{ForwardEntry}
use Rattle.page_codec.specs.declared.page.Page.{Page}
use Rattle.file_model.specs.Pages.{numbers_of}
use Rattle.file_model.specs.Resuming.{entries_of_page, entries_of}
use Rattle.file_model.proofs.ListPlaces.{all_append, all_weaker}

numbers-append : (es fs : List ForwardEntry) → numbers_of (es ++ fs) ≡ numbers_of es ++ numbers_of fs
numbers-append [] fs = refl
numbers-append (e ∷ es) fs = ap (λ ns. e.number ∷ ns) (numbers-append es fs)

sorted_append : (bound : ℕ) (xs ys : List ℕ) → IsStrictlySortedBy nat_cmp xs → IsStrictlySortedBy nat_cmp ys → AllByRecursion (λ n. n < bound) xs
    → AllByRecursion (λ n. bound ≤ n) ys → IsStrictlySortedBy nat_cmp (xs ++ ys)
unfolding IsStrictlySortedBy
sorted_append bound [] ys hx hy below above = hy
sorted_append bound (x ∷ xs) ys hx hy below above = (
  all_append (λ y. nat_cmp x y ≡ Less) xs ys hx.0
      (all_weaker (λ n. bound ≤ n) (λ y. nat_cmp x y ≡ Less) (λ y l. sym (nat_cmp_is x y Less (omega (arith, l, below.0)))) ys above),
  sorted_append bound xs ys hx.1 hy below.1 above,
)

-- the numbers of a page increase within its block
pub record IsRanged (b : ℕ) (numbers : List ℕ) : Type 0 where
  pub within : AllByRecursion (λ n. (64 * b ≤ n) × (n < 64 * b + 64)) numbers
  pub rising : IsStrictlySortedBy nat_cmp numbers

-- pages from block b on
abbrev pub AreRanged : ℕ → List Page → Type 0
AreRanged b [] = Unit {0}
AreRanged b (page ∷ pages) = IsRanged b (numbers_of (entries_of_page page)) × AreRanged (suc b) pages

-- the numbers of such pages increase within their blocks
pub record AreInBlocks (b : ℕ) (pages : List Page) : Type 0 where
  pub within : AllByRecursion (λ n. (64 * b ≤ n) × (n < 64 * (b + length pages))) (numbers_of (entries_of pages))
  pub rising : IsStrictlySortedBy nat_cmp (numbers_of (entries_of pages))

pub in_blocks : (b : ℕ) (pages : List Page) → AreRanged b pages → AreInBlocks b pages
unfolding IsStrictlySortedBy
in_blocks b [] h = record { within = tt; rising = tt }
in_blocks b (p ∷ pages) h =
    let own : List ℕ = numbers_of (entries_of_page p) in
    let others : List ℕ = numbers_of (entries_of pages) in
    let first : IsRanged b own = h.0 in
    let later : AreInBlocks (suc b) pages = in_blocks (suc b) pages h.1 in
    let parts : numbers_of (entries_of (p ∷ pages)) ≡ own ++ others = numbers-append (entries_of_page p) (entries_of pages) in record {
      within = subst (AllByRecursion (λ n. (64 * b ≤ n) × (n < 64 * (b + length (p ∷ pages))))) (sym parts)
          (all_append (λ n. (64 * b ≤ n) × (n < 64 * (b + length (p ∷ pages)))) own others
          (all_weaker (λ n. (64 * b ≤ n) × (n < 64 * b + 64)) (λ n. (64 * b ≤ n) × (n < 64 * (b + length (p ∷ pages))))
          (λ n l. (l.0, omega (arith, l.1))) own first.within)
          (all_weaker (λ n. (64 * suc b ≤ n) × (n < 64 * (suc b + length pages))) (λ n. (64 * b ≤ n) × (n < 64 * (b + length (p ∷ pages))))
          (λ n l. (omega (arith, l.0), omega (arith, l.1))) others later.within));
      rising = subst (IsStrictlySortedBy nat_cmp) (sym parts) (sorted_append (64 * b + 64) own others first.rising later.rising
          (all_weaker (λ n. (64 * b ≤ n) × (n < 64 * b + 64)) (λ n. n < 64 * b + 64) (λ n l. l.1) own first.within)
          (all_weaker (λ n. (64 * suc b ≤ n) × (n < 64 * (suc b + length pages))) (λ n. 64 * b + 64 ≤ n) (λ n l. omega (arith, l.0)) others later.within));
    }
