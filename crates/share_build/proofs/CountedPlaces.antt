-- Places that are told apart are not many: leads of forward rows, and numbers of a combination.
use Rattle.std.specs.Prelude.{◌≡◌, ◌≢◌, ℕ, zero, suc, ◌+◌, ◌%◌, ◌<◌, ◌≤◌, cond, eqb, Bool, List, [], ◌∷◌, length, get_or}
use Rattle.std.proofs.Common.{sym, ◌∙◌, ap, subst, inl, inr, arith, mod-eq_of_lt}
use Rattle.std.proofs.lemmas.Bool.{cases_eq, cases_lt, eq-eqb, ne_eqb}
use Rattle.zeta_model.specs.Modular.{Same}
use Rattle.linear_model.proofs.Triangular.{find_height}
use Rattle.sparse_rows.specs.Entries.{IsRow, IsBelow}
use Rattle.sparse_rows.proofs.EntryLemmas.{entry_of_before}
use Rattle.echelon.specs.Lists.{lead_of, lead_at, row_at, AllFit, AreForward}
use Rattle.file_model.specs.Pages.{Pairs}
use Rattle.file_model.proofs.PairBounds.{IsWithin, first_key, within_behind}

-- heights of n places below top, no two of them equal
record AreApart (n top : ℕ) (height : ℕ → ℕ) : Type 0 where
  below : (i : ℕ) → i < n → height i < top
  apart : (i j : ℕ) → i < n → j < n → height i ≡ height j → i ≡ j

-- where place j has the highest, the last place takes its place
moved : (ℕ → ℕ) → ℕ → ℕ → ℕ → ℕ
moved height n j i = cond (eqb i j) (height n) (height i)

moved-at : (height : ℕ → ℕ) (n j i : ℕ) → i ≡ j → moved height n j i ≡ height n
unfolding moved
moved-at height n j i e = ap (λ b. cond b (height n) (height i)) (eq-eqb i j e)

moved-other : (height : ℕ → ℕ) (n j i : ℕ) → i ≢ j → moved height n j i ≡ height i
unfolding moved
moved-other height n j i ne = ap (λ b. cond b (height n) (height i)) (ne_eqb i j ne)

apart_without : (n top : ℕ) (height : ℕ → ℕ) → AreApart (suc n) (suc top) height → (j : ℕ) → j < suc n → height j ≡ top → AreApart n top (moved height n j)
apart_without n top height h j lj e = record {
  below = λ i l. elim (cases_eq i j) [
    | inl at ↦
        let other : height n ≢ top = λ z. let same : n ≡ j = h.apart n j (omega arith) lj (z ∙ sym e) in omega (arith, same, at, l) in
        let low : height n < suc top = h.below n (omega arith) in
        omega (arith, moved-at height n j i at, low, other)
    | inr ne ↦
        let other : height i ≢ top = λ z. ne (h.apart i j (omega (arith, l)) lj (z ∙ sym e)) in
        let low : height i < suc top = h.below i (omega (arith, l)) in
        omega (arith, moved-other height n j i ne, low, other)
  ];
  apart = λ i k l lk same. elim (cases_eq i j) [
    | inl at ↦ elim (cases_eq k j) [
      | inl too ↦ at ∙ sym too
      | inr ne ↦
          let z : n ≡ k = h.apart n k (omega arith) (omega (arith, lk)) (sym (moved-at height n j i at) ∙ same ∙ moved-other height n j k ne) in
          absurd (omega (arith, z, lk))
    ]
    | inr ne ↦ elim (cases_eq k j) [
      | inl too ↦
          let z : i ≡ n = h.apart i n (omega (arith, l)) (omega arith) (sym (moved-other height n j i ne) ∙ same ∙ moved-at height n j k too) in
          absurd (omega (arith, z, l))
      | inr other ↦ h.apart i k (omega (arith, l)) (omega (arith, lk)) (sym (moved-other height n j i ne) ∙ same ∙ moved-other height n j k other)
    ]
  ];
}

-- they are no more than top
apart_few : (n top : ℕ) (height : ℕ → ℕ) → AreApart n top height → n ≤ top
apart_few zero top height h = omega arith
apart_few (suc n) zero height h = let z : height 0 < 0 = h.below 0 (omega arith) in absurd (omega (arith, z))
apart_few (suc n) (suc top) height h = elim (find_height (suc n) height top) [
  | inl (j, lj, e) ↦ omega (arith, apart_few n top (moved height n j) (apart_without n top height h j lj e))
  | inr none ↦
      let low : AreApart (suc n) top height = record {
        below = λ i l. let b : height i < suc top = h.below i l in omega (arith, b, none i l);
        apart = h.apart;
      } in
      let few : suc n ≤ top = apart_few (suc n) top height low in omega (arith, few)
]

lead_below : {E : Type 0} (n : ℕ) (es : List (ℕ × E)) → IsBelow (λ k. k) n es → 0 < length es → lead_of es < n
lead_below n [] below some = absurd (omega (arith, some))
lead_below n (e ∷ es) below some = below.0

-- forward rows are no more than columns
pub forward_few : {E : Type 0} (m : ℕ) (has : E → Bool) (value : E → ℕ) (nil : E) (columns : ℕ) (rows : List (List (ℕ × E))) → 1 < m
    → AllFit has nil columns rows → AreForward m value rows → length rows ≤ columns
forward_few m has value nil columns rows big fit forward = apart_few (length rows) columns (lead_at rows) (record {
  below = λ i l. let f = fit i l in lead_below columns (get_or rows i []) f.below f.some;
  apart = λ i k l lk same. elim (cases_lt i k) [
    | inl less ↦ absurd (clash i k less lk same)
    | inr more ↦ elim (cases_lt k i) [
      | inl less ↦ absurd (clash k i less l (sym same))
      | inr other ↦ omega (arith, more, other)
    ]
  ];
})
  where
    clash : (i k : ℕ) → i < k → k < length rows → lead_at rows i ≡ lead_at rows k → ⊥
    clash i k less lk same =
        let none : Same m (row_at value rows k (lead_at rows k)) 0 = subst (λ x. Same m (row_at value rows k x) 0) same (forward.clear k i lk less) in
        let one : Same m (row_at value rows k (lead_at rows k)) 1 = forward.one k lk in
        let unit : 1 % m ≡ 1 = mod-eq_of_lt big in
        let zeros : 0 % m ≡ 0 = mod-eq_of_lt (omega (arith, big)) in
        omega (arith, none, one, unit, zeros)

-- q is one of the numbers from place first on
abbrev pub StandsFrom : List ℕ → ℕ → ℕ → Type 0
StandsFrom numbers first q = (i : ℕ) × (first ≤ i) × (i < length numbers) × (get_or numbers i 0 ≡ q)

-- pairs at rising numbers are no more than these
pub pairs_few : (numbers : List ℕ) → ((i k : ℕ) → i < k → k < length numbers → get_or numbers i 0 < get_or numbers k 0) → (first low : ℕ) (es : Pairs)
    → IsRow (λ k. k) 0 low es → IsWithin (StandsFrom numbers first) es → first ≤ length numbers → first + length es ≤ length numbers
pairs_few numbers rising first low [] r held l = omega (arith, l)
pairs_few numbers rising first low (e ∷ es) r held l =
    let (i, from, li, is) = first_key (StandsFrom numbers first) low e es r held in
    let later : IsWithin (StandsFrom numbers (suc i)) es = λ q some.
    let (j, pj, lj, at) = within_behind (StandsFrom numbers first) low e es r held q some in (
      j,
      elim (cases_lt i j) [
        | inl less ↦ omega (arith, less)
        | inr more ↦ elim (cases_lt j i) [
          | inl less ↦ absurd (some (entry_of_before (λ k. k) 0 (λ v. v) (e.0 + 1) q es r.2 (omega (arith, at, is, rising j i less li))))
          | inr other ↦
              let same : i ≡ j = omega (arith, more, other) in
              absurd (some (entry_of_before (λ k. k) 0 (λ v. v) (e.0 + 1) q es r.2 (omega (arith, at, is, ap (λ x. get_or numbers x 0) same))))
        ]
      ],
      lj,
      at,
    ) in
    let rest : suc i + length es ≤ length numbers = pairs_few numbers rising (suc i) (e.0 + 1) es r.2 later (omega (arith, li)) in
    omega (arith, rest, from)
