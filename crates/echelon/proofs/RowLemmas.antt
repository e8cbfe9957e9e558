-- What a row has behind its columns, where it leads, and which columns it has, told by its entries.
use Rattle.std.proofs.Common.{◌≡◌, ◌≢◌, ℕ, suc, ◌+◌, ◌-◌, ◌<◌, ◌≤◌, List, [], ◌∷◌, length, get_or, subst, Bool, true, cond, inl, inr, refl, sym, ◌∙◌, ap, arith}
use Rattle.std.proofs.lemmas.Bool.{cases_order, cases_lt, ne_eqb}
use Rattle.sparse_rows.specs.Entries.{IsRow, IsBelow, AllIn}
use Rattle.sparse_rows.proofs.EntryLemmas.{entry_of_before, entry_of_first}
use Rattle.echelon.specs.Lists.{entries_of, lead_of}

-- from its columns on a row has nothing
pub entries_of_behind : {E : Type 0} (value : E → ℕ) (n q : ℕ) (es : List (ℕ × E)) → IsBelow (λ k. k) n es → n ≤ q → entries_of value es q ≡ 0
entries_of_behind value n q [] b h = refl
entries_of_behind value n q (e ∷ es) b h =
    let other : e.0 ≢ q = omega (arith, b.0) in
    ap (λ t. cond t (value e.1) 0 + entries_of value es q) (ne_eqb e.0 q other) ∙ omega (arith, entries_of_behind value n q es b.1 h)

-- before its lead a row has nothing
pub entries_of_before_lead : {E : Type 0} (value : E → ℕ) (zero : E) (q : ℕ) (es : List (ℕ × E)) → IsRow (λ k. k) zero 0 es → q < lead_of es
    → entries_of value es q ≡ 0
entries_of_before_lead value zero q [] r h = refl
entries_of_before_lead value zero q (e ∷ es) r h = entry_of_before (λ k. k) zero value e.0 q (e ∷ es) (omega arith, r.1, r.2) h

module _ {E : Type 0} (has : E → Bool) (value : E → ℕ) (zero : E) (nonzero : (a : E) → has a ≡ true → a ≢ zero → value a ≢ 0) where
  -- a row of entries that vanish before col and not there leads at col
  pub lead_of_is : (es : List (ℕ × E)) (col : ℕ) → IsRow (λ k. k) zero 0 es → AllIn has es → ((q : ℕ) → q < col → entries_of value es q ≡ 0)
      → entries_of value es col ≢ 0 → (0 < length es) × (lead_of es ≡ col)
  lead_of_is [] col r a before here = absurd (here refl)
  lead_of_is (e ∷ es) col r a before here =
      let first : entries_of value (e ∷ es) e.0 ≡ value e.1 = entry_of_first (λ k. k) zero value 0 e es r in (
        omega arith,
        elim (cases_order e.0 col) [
          | inl same ↦ same
          | inr o ↦ elim o [
            | inl less ↦ absurd (nonzero e.1 a.0 r.1 (sym first ∙ before e.0 less))
            | inr more ↦ absurd (here (entries_of_before_lead value zero col (e ∷ es) r more))
          ]
        ],
      )

  -- the columns of a row are below n where it has nothing from n on
  pub IsBelow_by_entries : (low n : ℕ) (es : List (ℕ × E)) → IsRow (λ k. k) zero low es → AllIn has es → ((q : ℕ) → n ≤ q → entries_of value es q ≡ 0)
      → IsBelow (λ k. k) n es
  IsBelow_by_entries low n [] r a none = tt
  IsBelow_by_entries low n (e ∷ es) r a none =
      let first : entries_of value (e ∷ es) e.0 ≡ value e.1 = entry_of_first (λ k. k) zero value low e es r in (
        elim (cases_lt e.0 n) [
          | inl less ↦ less
          | inr late ↦ absurd (nonzero e.1 a.0 r.1 (sym first ∙ none e.0 late))
        ],
        IsBelow_by_entries (e.0 + 1) n es r.2 a.1 (λ q l. omega (arith, none q l)),
      )

-- a row has its first element at its lead
pub entry_at_lead : {E : Type 0} (value : E → ℕ) (zero : E) (es : List (ℕ × E)) (d : ℕ × E) → IsRow (λ k. k) zero 0 es → 0 < length es
    → entries_of value es (lead_of es) ≡ value (get_or es 0 d).1
entry_at_lead value zero [] d r h = absurd (omega arith)
entry_at_lead value zero (e ∷ es) d r h = entry_of_first (λ k. k) zero value 0 e es r

pub first_in : {E : Type 0} (has : E → Bool) (es : List (ℕ × E)) (d : ℕ × E) → AllIn has es → 0 < length es → has (get_or es 0 d).1 ≡ true
first_in has [] d a h = absurd (omega arith)
first_in has (e ∷ es) d a h = a.0

-- the columns of a row are below one more than its last
pub below_last : {E : Type 0} (zero : E) (low : ℕ) (es : List (ℕ × E)) (d : ℕ × E) → IsRow (λ k. k) zero low es
    → IsBelow (λ k. k) ((get_or es (length es - 1) d).0 + 1) es
below_last zero low [] d r = tt
below_last zero low (e ∷ []) d r =
    let one : length (e ∷ []) - 1 ≡ 0 = omega arith in
    (ap_at one, tt)
  where
    ap_at : length (e ∷ []) - 1 ≡ 0 → e.0 < (get_or (e ∷ []) (length (e ∷ []) - 1) d).0 + 1
    ap_at one = omega (arith, ap (λ i. (get_or (e ∷ []) i d).0) one)
below_last zero low (e ∷ f ∷ es) d r =
    let rest : IsBelow (λ k. k) ((get_or (f ∷ es) (length (f ∷ es) - 1) d).0 + 1) (f ∷ es) = below_last zero (e.0 + 1) (f ∷ es) d r.2 in
    let place : length (e ∷ f ∷ es) - 1 ≡ suc (length (f ∷ es) - 1) = omega arith in
    let same : get_or (f ∷ es) (length (f ∷ es) - 1) d ≡ get_or (e ∷ f ∷ es) (length (e ∷ f ∷ es) - 1) d = ap (λ i. get_or (e ∷ f ∷ es) i d) (sym place) in
    subst (λ x. IsBelow (λ k. k) (x.0 + 1) (e ∷ f ∷ es)) same (omega (arith, r.2.0, rest.0), rest)
