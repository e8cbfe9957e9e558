-- Files whose pages all fit: how many pages there are, and that none stands behind a Done page.
use Rattle.std.proofs.Common.{◌≡◌, ℕ, ◌+◌, ◌-◌, ◌*◌, ◌≤◌, List, [], ◌∷◌, ◌++◌, length, refl, sym, ap, subst, inl, inr, append_assoc, arith}
use Rattle.std.proofs.lemmas.List.{append-nil, length-append}
use Rattle.column_order.specs.Columns.{column_count}
use Rattle.page_codec.specs.declared.params.Params.{Params}
use Rattle.page_codec.specs.declared.walk.Last.{Last}
use Rattle.page_codec.specs.declared.walk.Last.TheVariants.{FrontPage, RowsPage, DonePage}
use Rattle.page_codec.specs.declared.page.Page.{Page}
use Rattle.page_codec.specs.declared.page.Page.TheVariants.{Header, Forward, Final, Done}
use Rattle.page_codec.specs.Bounds.{IsParams}
use Rattle.page_codec.specs.Places.{FitsPlace, FitBehind, AllFit, block_count, row_count, last_of}
use Rattle.page_codec.specs.Inner.{rows_on}
use Rattle.page_codec.proofs.Walking.{row_count-push, last_of-push, final_last}

-- what holds of the number k of pages, by the last of them, where r rows stand on them and f Forward pages come
abbrev Holds : ℕ → ℕ → ℕ → Last → Type 0
Holds f k r FrontPage = k ≤ f + 1
Holds f k r (RowsPage first count) = (f + 2 ≤ k) × (64 * (k - (f + 2)) + count ≤ r) × (r ≤ 2048)
Holds f k r DonePage = (f + 2 ≤ k) × (k ≤ f + 35)

abbrev AllHold : ℕ → List Page → Type 0
AllHold n before = Holds (block_count n) (length before) (row_count before) (last_of before)

rows_hold : (n : ℕ) (before : List Page) (first count : ℕ) → last_of before ≡ RowsPage first count → AllHold n before
    → Holds (block_count n) (length before) (row_count before) (RowsPage first count)
rows_hold n before first count e holds = subst (Holds (block_count n) (length before) (row_count before)) e holds

one_more : (p : Params) (n : ℕ) → column_count p.weight p.depth ≤ 2048 → (before : List Page) (page : Page) → AllHold n before → FitsPlace p n before page
    → Holds (block_count n) (length before + 1) (row_count before + rows_on page) (last_of (before ++ page ∷ []))
one_more p n small before (Header q) holds fits =
    let none : length before ≡ 0 = ap length fits.0 in
    subst (Holds (block_count n) (length before + 1) (row_count before + 0)) (sym (last_of-push before (Header q))) (omega arith)
one_more p n small before (Forward q) holds fits =
    let within = fits.within in
    subst (Holds (block_count n) (length before + 1) (row_count before + 0)) (sym (last_of-push before (Forward q))) (omega arith)
one_more p n small before (Final q) holds fits =
    let rows = fits.rows in
    subst (Holds (block_count n) (length before + 1) (row_count before + length q.entries)) (sym (last_of-push before (Final q)))
    (elim fits.first [
      | inl h ↦ let ends = h.0 in (omega arith, omega arith, omega arith)
      | inr h ↦
          let so_far = rows_hold n before h.0.first (length h.0.entries) (final_last before h.0 h.1) holds in
          let full = h.2 in
          let a = so_far.0 in
          let b = so_far.1 in
          (omega arith, omega arith, omega arith)
    ])
one_more p n small before (Done r) holds fits =
    subst (Holds (block_count n) (length before + 1) (row_count before + 0)) (sym (last_of-push before (Done r)))
    (elim fits.behind [
      | inl h ↦ (omega arith, omega arith)
      | inr h ↦
          let so_far = rows_hold n before h.0.first (length h.0.entries) (final_last before h.0 h.1) holds in
          let a = so_far.0 in
          let b = so_far.1 in
          let c = so_far.2 in
          (omega arith, omega arith)
    ])

pages_hold : (p : Params) (n : ℕ) → column_count p.weight p.depth ≤ 2048 → (before pages : List Page) → AllHold n before → FitBehind p n before pages
    → AllHold n (before ++ pages)
pages_hold p n small before [] holds fit = subst (AllHold n) (sym (append-nil before)) holds
pages_hold p n small before (page ∷ pages) holds fit =
    let long : length before + 1 ≡ length (before ++ page ∷ []) = omega (arith, length-append before (page ∷ [])) in
    let next : AllHold n (before ++ page ∷ []) =
    subst (λ r. Holds (block_count n) (length (before ++ page ∷ [])) r (last_of (before ++ page ∷ []))) (sym (row_count-push before page))
    (subst (λ k. Holds (block_count n) k (row_count before + rows_on page) (last_of (before ++ page ∷ []))) long
    (one_more p n small before page holds fit.0)) in
    subst (AllHold n) (append_assoc before (page ∷ []) pages) (pages_hold p n small (before ++ page ∷ []) pages next fit.1)

few : (f k r : ℕ) (last : Last) → Holds f k r last → k ≤ f + 35
few f k r FrontPage holds = omega arith
few f k r (RowsPage first count) holds = let a = holds.0 in let b = holds.1 in let c = holds.2 in omega arith
few f k r DonePage holds = holds.1

pub few_pages : (p : Params) (n : ℕ) (pages : List Page) → IsParams p → AllFit p n pages → length pages ≤ block_count n + 35
few_pages p n pages is fit = few (block_count n) (length pages) (row_count pages) (last_of pages) (pages_hold p n is.columns [] pages (omega arith) fit)

nothing_fits : (p : Params) (n : ℕ) (before : List Page) (page : Page) → last_of before ≡ DonePage → block_count n + 2 ≤ length before
    → ¬ (FitsPlace p n before page)
nothing_fits p n before (Header q) e long fits = let none : length before ≡ 0 = ap length fits.0 in absurd (omega arith)
nothing_fits p n before (Forward q) e long fits = let within = fits.within in absurd (omega arith)
nothing_fits p n before (Final q) e long fits =
    elim fits.first [ inl h ↦ let ends = h.0 in absurd (omega arith) | inr h ↦ let other = final_last before h.0 h.1 in absurd (cc (e, other)) ]
nothing_fits p n before (Done r) e long fits =
    elim fits.behind [ inl h ↦ absurd (omega arith) | inr h ↦ let other = final_last before h.0 h.1 in absurd (cc (e, other)) ]

parts_fit : (p : Params) (n : ℕ) (before front pages : List Page) → FitBehind p n before (front ++ pages)
    → FitBehind p n before front × FitBehind p n (before ++ front) pages
parts_fit p n before [] pages fit = (tt, subst (λ l. FitBehind p n l pages) (sym (append-nil before)) fit)
parts_fit p n before (page ∷ front) pages fit =
    let others = parts_fit p n (before ++ page ∷ []) front pages fit.1 in
    ((fit.0, others.0), subst (λ l. FitBehind p n l pages) (append_assoc before (page ∷ []) front) others.1)

nothing_more : (p : Params) (n : ℕ) (before after : List Page) → last_of before ≡ DonePage → block_count n + 2 ≤ length before → FitBehind p n before after
    → after ≡ []
nothing_more p n before [] e long fit = refl
nothing_more p n before (page ∷ after) e long fit = absurd (nothing_fits p n before page e long fit.0)

pub done_is_last : (p : Params) (n r : ℕ) (front after : List Page) → IsParams p → AllFit p n (front ++ Done r ∷ after) → after ≡ []
done_is_last p n r front after is fit =
    let parts = parts_fit p n [] front (Done r ∷ after) fit in
    let holds : AllHold n front = pages_hold p n is.columns [] front (omega arith) parts.0 in
    let done = one_more p n is.columns front (Done r) holds parts.1.0 in
    let last = last_of-push front (Done r) in
    let long = (subst (Holds (block_count n) (length front + 1) (row_count front + 0)) last done).0 in
    nothing_more p n (front ++ Done r ∷ []) after last (omega (arith, length-append front (Done r ∷ []))) parts.1.1
