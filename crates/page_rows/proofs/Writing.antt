-- What is written of a row: its entries, its bound, and that it tells the row.
use Rattle.std.proofs.Common.{◌≡◌, ℕ, ◌+◌, ◌<◌, Bool, true, List, [], ◌∷◌, ◌++◌, cond, eqb, refl, sym, ◌∙◌, ap}
use Rattle.std.specs.Prelude.{◌↔◌}
use Rattle.std.specs.List.{All}
use Rattle.std.proofs.lemmas.List.Elements.{All-nil, All-cons}
use Rattle.sparse_rows.specs.Entries.{entry_of, IsRow, IsBelow, AllIn}
use Rattle.page_rows.specs.Written.{written, AreResidues}

module _ {K E : Type 0} (number : K → ℕ) (zero : E) (has : E → Bool) (value : E → ℕ) where
  pub entry_of-written : (p : List (K × E)) (n : ℕ) → entry_of number (λ v. v) (written value p) n ≡ entry_of number value p n
  entry_of-written [] n = refl
  entry_of-written (e ∷ es) n = ap (λ x. cond (eqb (number e.0) n) (value e.1) 0 + x) (entry_of-written es n)

  pub bound-written : (p : List (K × E)) (high : ℕ) → IsBelow number high (written value p) ↔ IsBelow number high p
  bound-written [] high = (λ b. b, λ b. b)
  bound-written (e ∷ es) high = (λ b. (b.0, (bound-written es high).0 b.1), λ b. (b.0, (bound-written es high).1 b.1))

  pub written-append : (p : List (K × E)) (k : K) (a : E) → written value (p ++ (k, a) ∷ []) ≡ written value p ++ (k, value a) ∷ []
  written-append [] k a = refl
  written-append (e ∷ es) k a = ap (λ xs. (e.0, value e.1) ∷ xs) (written-append es k a)

  module _ (has_zero : has zero ≡ true) (value_zero : value zero ≡ 0)
      (value_injective : (a b : E) → has a ≡ true → has b ≡ true → value a ≡ value b → a ≡ b) where
    pub written-one : (p q : List (K × E)) → AllIn has p → AllIn has q → written value p ≡ written value q → p ≡ q
    written-one [] [] i j e = refl
    written-one [] (y ∷ ys) i j e = cc
    written-one (x ∷ xs) [] i j e = cc
    written-one (x ∷ xs) (y ∷ ys) i j e =
        let first : ◌≡◌ {A = K × ℕ} (x.0, value x.1) (y.0, value y.1) = cc in
        let rest : written value xs ≡ written value ys = cc in
        let key : x.0 ≡ y.0 = ap (λ t. t.0) first in
        let element : x.1 ≡ y.1 = value_injective x.1 y.1 i.0 j.0 (ap (λ t. t.1) first) in
        let same = written-one xs ys i.1 j.1 rest in
        λ k. (key k, element k) ∷ same k

    row-written : (low : ℕ) (p : List (K × E)) → IsRow number zero low p → AllIn has p → IsRow number 0 low (written value p)
    row-written low [] r i = tt
    row-written low (e ∷ es) r i = (r.0, (λ z. r.1 (value_injective e.1 zero i.0 has_zero (z ∙ sym value_zero))), row-written (number e.0 + 1) es r.2 i.1)

    below-written : (m : ℕ) (p : List (K × E)) → ((a : E) → has a ≡ true → value a < m) → AllIn has p → All (λ e. e.1 < m) (written value p)
    below-written m [] small i = All-nil (λ (e : K × ℕ). e.1 < m)
    below-written m (e ∷ es) small i = All-cons (λ (e : K × ℕ). e.1 < m) (e.0, value e.1) (written value es) (small e.1 i.0) (below-written m es small i.1)

    pub residues-written : (m : ℕ) → ((a : E) → has a ≡ true → value a < m) → (p : List (K × E)) → IsRow number zero 0 p → AllIn has p
        → AreResidues number m (written value p)
    residues-written m small p r i = record { increasing = row-written 0 p r i; below = below-written m p small i }
