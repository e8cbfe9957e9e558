-- What a walk keeps tells whether a page fits its place.
use Rattle.std.proofs.Common.{◌≡◌, ℕ, ◌+◌, ◌≤◌, min, List, [], ◌∷◌, ◌++◌, length, refl, sym, ap, subst, ◌∙◌, inl, inr, arith, length-append}
use Rattle.column_order.specs.Columns.{column_count}
use Rattle.page_codec.specs.declared.params.Params.{Params}
use Rattle.page_codec.specs.declared.parts.ForwardPage.{ForwardPage}
use Rattle.page_codec.specs.declared.parts.FinalPage.{FinalPage}
use Rattle.page_codec.specs.declared.walk.Last.{Last}
use Rattle.page_codec.specs.declared.walk.Last.TheVariants.{FrontPage, RowsPage, DonePage}
use Rattle.page_codec.specs.declared.page.Page.{Page}
use Rattle.page_codec.specs.declared.page.Page.TheVariants.{Header, Forward, Final, Done}
use Rattle.page_codec.specs.Places.{EndsFinal, ForwardFits, FinalFits, DoneFits, FitsPlace, WalkAt, block_count, row_count, last_is, last_of, walk_of}
use Rattle.page_codec.specs.Inner.{Continues, IsRows, ForwardAt, FinalAt, DoneAt, FitsAt, rows_on, walk_behind}

pub row_count-push : (before : List Page) (page : Page) → row_count (before ++ page ∷ []) ≡ row_count before + rows_on page
row_count-push [] (Header p) = refl
row_count-push [] (Forward p) = refl
row_count-push [] (Final p) = omega arith
row_count-push [] (Done rows) = refl
row_count-push (Header p ∷ before) page = row_count-push before page
row_count-push (Forward p ∷ before) page = row_count-push before page
row_count-push (Final p ∷ before) page = let e = row_count-push before page in omega arith
row_count-push (Done rows ∷ before) page = row_count-push before page

pub last_of-push : (before : List Page) (page : Page) → last_of (before ++ page ∷ []) ≡ last_is page
last_of-push [] page = refl
last_of-push (a ∷ []) page = refl
last_of-push (a ∷ b ∷ before) page = last_of-push (b ∷ before) page

pub walk_of-push : (p : Params) (n : ℕ) (before : List Page) (page : Page) → walk_behind (walk_of p n before) page ≡ walk_of p n (before ++ page ∷ [])
walk_of-push p n before page =
    let place : min (min (length before) (block_count n + 2) + 1) (block_count n + 2) ≡ min (length (before ++ page ∷ [])) (block_count n + 2) =
    omega (arith, length-append before (page ∷ [])) in
    λ i. record { params = p; relations = n; place = place i; rows = sym (row_count-push before page) i; last = sym (last_of-push before page) i }

-- a Final page at the end, by what is kept of the last page
last_final : (before : List Page) (first count : ℕ) → last_of before ≡ RowsPage first count
    → (q : FinalPage) × EndsFinal before q × (q.first ≡ first) × (length q.entries ≡ count)
last_final [] first count e = absurd (cc e)
last_final (Header p ∷ []) first count e = absurd (cc e)
last_final (Forward p ∷ []) first count e = absurd (cc e)
last_final (Final q ∷ []) first count e = (q, ([], refl), cc, cc)
last_final (Done rows ∷ []) first count e = absurd (cc e)
last_final (a ∷ b ∷ before) first count e =
    let found = last_final (b ∷ before) first count e in
    (found.0, (a ∷ found.1.0, ap (λ l. a ∷ l) found.1.1), found.2, found.3)

pub final_last : (before : List Page) (q : FinalPage) → EndsFinal before q → last_of before ≡ RowsPage q.first (length q.entries)
final_last before q ends = ap last_of ends.1 ∙ last_of-push ends.0 (Final q)

continues_from : (l : Last) (first : ℕ) → Continues l first → (before : ℕ) × (l ≡ RowsPage before 64) × (first ≡ before + 64)
continues_from FrontPage first h = absurd h
continues_from (RowsPage before count) first h = (before, ap (RowsPage before) h.0, h.1)
continues_from DonePage first h = absurd h

rows_from : (l : Last) → IsRows l → (before : ℕ) × (count : ℕ) × (l ≡ RowsPage before count)
rows_from FrontPage h = absurd h
rows_from (RowsPage before count) h = (before, count, refl)
rows_from DonePage h = absurd h

module _ (p : Params) (n : ℕ) (before : List Page) where
  place_is : (k : ℕ) → k ≤ block_count n + 1 → min (length before) (block_count n + 2) ≡ k → length before ≡ k
  place_is k small e = omega arith

  forward_to : (page : ForwardPage) → ForwardAt (walk_of p n before) page → ForwardFits p n before page
  forward_to page at = let b = at.behind_header in let w = at.within in let f = at.first in
      record { behind_header = omega arith; within = omega arith; first = omega arith; entries = at.entries }

  forward_back : (page : ForwardPage) → ForwardFits p n before page → ForwardAt (walk_of p n before) page
  forward_back page at = let b = at.behind_header in let w = at.within in let f = at.first in
      record { behind_header = omega arith; within = omega arith; first = omega arith; entries = at.entries }

  final_to : (page : FinalPage) → FinalAt (walk_of p n before) page → FinalFits p n before page
  final_to page at = record {
    first = elim at.first [
      | inl h ↦ inl (place_is (block_count n + 1) (omega arith) h.0, h.1)
      | inr h ↦
          let full = continues_from (last_of before) page.first h in
          let found = last_final before full.0 64 full.1 in
          inr (found.0, found.1, found.3, full.2 ∙ ap (λ k. k + 64) (sym found.2))
    ];
    entries = at.entries;
    rows = at.rows;
  }

  final_back : (page : FinalPage) → FinalFits p n before page → FinalAt (walk_of p n before) page
  final_back page at = record {
    first = elim at.first [
      | inl h ↦ let place = h.0 in inl (omega arith, h.1)
      | inr h ↦ inr (subst (λ l. Continues l page.first) (sym (final_last before h.0 h.1)) (h.2, h.3))
    ];
    entries = at.entries;
    rows = at.rows;
  }

  done_to : (rows : ℕ) → DoneAt (walk_of p n before) rows → DoneFits n before rows
  done_to rows at = record {
    behind = elim at.behind [
      | inl h ↦ inl (place_is (block_count n + 1) (omega arith) h)
      | inr h ↦
          let some = rows_from (last_of before) h in
          let found = last_final before some.0 some.1 some.2 in
          inr (found.0, found.1)
    ];
    counted = at.counted;
  }

  done_back : (rows : ℕ) → DoneFits n before rows → DoneAt (walk_of p n before) rows
  done_back rows at = record {
    behind = elim at.behind [
      | inl h ↦ inl (omega arith)
      | inr h ↦ inr (subst IsRows (sym (final_last before h.0 h.1)) tt)
    ];
    counted = at.counted;
  }

none_before : (before : List Page) (k : ℕ) → min (length before) (k + 2) ≡ 0 → before ≡ []
none_before [] k e = refl
none_before (a ∷ before) k e = absurd (omega arith)

pub fits_to : (p : Params) (n : ℕ) (before : List Page) (page : Page) → FitsAt (walk_of p n before) page → FitsPlace p n before page
fits_to p n before (Header q) at = (none_before before (block_count n) at.0, at.1)
fits_to p n before (Forward page) at = forward_to p n before page at
fits_to p n before (Final page) at = final_to p n before page at
fits_to p n before (Done rows) at = done_to p n before rows at

pub fits_back : (p : Params) (n : ℕ) (before : List Page) (page : Page) → FitsPlace p n before page → FitsAt (walk_of p n before) page
fits_back p n before (Header q) fits = let none = ap length fits.0 in (omega arith, fits.1)
fits_back p n before (Forward page) fits = forward_back p n before page fits
fits_back p n before (Final page) fits = final_back p n before page fits
fits_back p n before (Done rows) fits = done_back p n before rows fits

pub rows_within : (w : WalkAt) (page : Page) → w.rows ≤ column_count w.params.weight w.params.depth → FitsAt w page
    → w.rows + rows_on page ≤ column_count w.params.weight w.params.depth
rows_within w (Header q) h at = omega arith
rows_within w (Forward page) h at = omega arith
rows_within w (Final page) h at = at.rows
rows_within w (Done rows) h at = omega arith
