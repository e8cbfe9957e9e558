-- A row times an element: each element is multiplied, and what becomes zero is dropped.
use Rattle.std.proofs.Common.{◌≡◌, ℕ, ◌+◌, ◌*◌, ◌%◌, ◌<◌, ◌≤◌, List, [], ◌∷◌, Bool, true, false, cond, eqb, map, filter, refl, sym, ◌∙◌, ap, subst, not, arith, mod-eq_of_lt}
use Rattle.std.specs.Prelude.{◌≢◌, ◌↔◌}
use Rattle.zeta_model.specs.Modular.{Same}
use Rattle.zeta_model.proofs.ModularLemmas.{same-add, same-mod}
use Rattle.sparse_rows.specs.Entries.{entry_of, IsRow, AllIn}
use Rattle.sparse_rows.proofs.EntryLemmas.{entry_of_below}

-- a row from a number on is a row from a lower one on
row_from_lower : {K E : Type 0} (number : K → ℕ) (zero : E) (low high : ℕ) (es : List (K × E)) → low ≤ high → IsRow number zero high es
    → IsRow number zero low es
row_from_lower number zero low high [] h r = tt
row_from_lower number zero low high (e ∷ es) h r = (omega (arith, r.0), r.1, r.2)

was_true : (b : Bool) → not b ≡ false → b ≡ true
was_true true h = refl
was_true false h = absurd (let e : true ≡ false = h in cc)

was_false : (b : Bool) → not b ≡ true → b ≡ true → ⊥
was_false true h e = absurd (let t : false ≡ true = h in cc)
was_false false h e = absurd (let t : false ≡ true = e in cc)

module _ {K E : Type 0} (number : K → ℕ) (zero : E) (has : E → Bool) (value : E → ℕ) (m c : ℕ) (times : E → E) (keep : E → Bool)
    (dropped : (a : E) → keep a ≡ false → a ≡ zero) (kept : (a : E) → keep a ≡ true → a ≢ zero) (value_zero : value zero ≡ 0)
    (has_times : (a : E) → has a ≡ true → has (times a) ≡ true) (value_times : (a : E) → has a ≡ true → value (times a) ≡ c * value a % m) where
  abbrev pub scaled : List (K × E) → List (K × E)
  scaled es = filter (λ e. keep e.1) (map (λ e. (e.0, times e.1)) es)

  pub IsRow-scaled : (low : ℕ) (es : List (K × E)) → IsRow number zero low es → IsRow number zero low (scaled es)
  IsRow-scaled low [] r = tt
  IsRow-scaled low (e ∷ es) r = go (IsRow-scaled (number e.0 + 1) es r.2) (keep (times e.1)) refl
    where
      go : IsRow number zero (number e.0 + 1) (scaled es) → (b : Bool) → keep (times e.1) ≡ b
          → IsRow number zero low (cond b ((e.0, times e.1) ∷ scaled es) (scaled es))
      go rest true is = (r.0, kept (times e.1) is, rest)
      go rest false is = row_from_lower number zero low (number e.0 + 1) (scaled es) (omega (arith, r.0)) rest

  pub AllIn-scaled : (es : List (K × E)) → AllIn has es → AllIn has (scaled es)
  AllIn-scaled [] all = tt
  AllIn-scaled (e ∷ es) all = go (AllIn-scaled es all.1) (keep (times e.1))
    where
      go : AllIn has (scaled es) → (b : Bool) → AllIn has (cond b ((e.0, times e.1) ∷ scaled es) (scaled es))
      go rest true = (has_times e.1 all.0, rest)
      go rest false = rest

  same-entry_of : (es : List (K × E)) (q : ℕ) → AllIn has es → Same m (entry_of number value (scaled es) q) (c * entry_of number value es q)
  same-entry_of [] q all = ap (λ x. x % m) (omega arith)
  same-entry_of (e ∷ es) q all = go (same-entry_of es q all.1) (keep (times e.1)) refl
    where
      here : Same m (value (times e.1)) (c * value e.1)
      here = ap (λ x. x % m) (value_times e.1 all.0) ∙ same-mod m (c * value e.1)

      both : Same m (entry_of number value (scaled es) q) (c * entry_of number value es q) → (t : Bool)
          → Same m (cond t (value (times e.1)) 0 + entry_of number value (scaled es) q) (c * (cond t (value e.1) 0 + entry_of number value es q))
      both rest true = same-add m _ _ _ _ here rest ∙ ap (λ x. x % m) (omega arith)
      both rest false = ap (λ x. x % m) (omega arith) ∙ rest ∙ ap (λ x. x % m) (omega arith)

      gone : Same m (entry_of number value (scaled es) q) (c * entry_of number value es q) → value (times e.1) ≡ 0 → (t : Bool)
          → Same m (entry_of number value (scaled es) q) (c * (cond t (value e.1) 0 + entry_of number value es q))
      gone rest none true =
          ap (λ x. x % m) (let t : entry_of number value (scaled es) q ≡ value (times e.1) + entry_of number value (scaled es) q = omega arith in t)
          ∙ same-add m _ _ _ _ here rest ∙ ap (λ x. x % m) (omega arith)
      gone rest none false = rest ∙ ap (λ x. x % m) (omega arith)

      go : Same m (entry_of number value (scaled es) q) (c * entry_of number value es q) → (b : Bool) → keep (times e.1) ≡ b
          → Same m (entry_of number value (cond b ((e.0, times e.1) ∷ scaled es) (scaled es)) q) (c * entry_of number value (e ∷ es) q)
      go rest true is = both rest (eqb (number e.0) q)
      go rest false is = gone rest (ap value (dropped (times e.1) is) ∙ value_zero) (eqb (number e.0) q)

  pub entry_of-scaled : (low : ℕ) (es : List (K × E)) (q : ℕ) → 0 < m → ((a : E) → has a ≡ true → value a < m) → IsRow number zero low es → AllIn has es
      → entry_of number value (scaled es) q ≡ c * entry_of number value es q % m
  entry_of-scaled low es q pos below r all =
      sym (mod-eq_of_lt (entry_of_below number zero has value m low q (scaled es) pos below (IsRow-scaled low es r) (AllIn-scaled es all)))
      ∙ same-entry_of es q all

-- what is left after the elements were multiplied and the zeros dropped, where same tells equal elements
pub record IsScaled {K E : Type 0} (number : K → ℕ) (zero : E) (has : E → Bool) (value : E → ℕ) (m c : ℕ) (old new : List (K × E)) : Type 0 where
  pub row : IsRow number zero 0 new
  pub in_ring : AllIn has new
  pub entries : (q : ℕ) → entry_of number value new q ≡ c * entry_of number value old q % m

pub scaled_row : {K E : Type 0} (number : K → ℕ) (zero : E) (has : E → Bool) (value : E → ℕ) (m c : ℕ) (times : E → E) (same : E → E
    → Bool) (old multiplied new : List (K × E))
    → ((a b : E) → (same a b ≡ true) ↔ (a ≡ b)) → 0 < m → ((a : E) → has a ≡ true → value a < m) → value zero ≡ 0
    → ((a : E) → has a ≡ true → has (times a) ≡ true) → ((a : E) → has a ≡ true → value (times a) ≡ c * value a % m)
    → IsRow number zero 0 old → AllIn has old → multiplied ≡ map (λ e. (e.0, times e.1)) old → new ≡ filter (λ e. not (same e.1 zero)) multiplied
    → IsScaled number zero has value m c old new
scaled_row {K} {E} number zero has value m c times same old multiplied new same_is pos below value_zero has_times value_times r all by_times by_filter =
    let keep : E → Bool = λ a. not (same a zero) in
    let dropped : (a : E) → keep a ≡ false → a ≡ zero = λ a h. (same_is a zero).0 (was_true (same a zero) h) in
    let kept : (a : E) → keep a ≡ true → a ≢ zero = λ a h e. was_false (same a zero) h ((same_is a zero).1 e) in
    let is : new ≡ scaled number zero has value m c times keep dropped kept value_zero has_times value_times old =
    by_filter ∙ ap (filter (λ e. keep e.1)) by_times in
    record {
      row = subst (IsRow number zero 0) (sym is) (IsRow-scaled number zero has value m c times keep dropped kept value_zero has_times value_times 0 old r);
      in_ring = subst (AllIn has) (sym is) (AllIn-scaled number zero has value m c times keep dropped kept value_zero has_times value_times old all);
      entries = λ q. ap (λ es. entry_of number value es q) is
          ∙ entry_of-scaled number zero has value m c times keep dropped kept value_zero has_times value_times 0 old q pos below r all;
    }
