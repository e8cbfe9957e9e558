-- The entries of a row, of a row with one pair more, and of two rows that agree everywhere.
use Rattle.std.proofs.Common.{◌≡◌, ℕ, ◌+◌, ◌<◌, ◌≤◌, List, [], ◌∷◌, ◌++◌, Bool, true, false, cond, eqb, refl, sym, ◌∙◌, ap, subst, arith}
use Rattle.std.specs.Prelude.{◌≢◌}
use Rattle.std.proofs.lemmas.Bool.{eqb-true, eq-eqb}
use Rattle.sparse_rows.specs.Entries.{entry_of, IsRow, IsBelow, AllIn}

module _ {K E : Type 0} (number : K → ℕ) where
  pub entry_of-append : (value : E → ℕ) (es : List (K × E)) (key : K) (a : E) (q : ℕ)
      → entry_of number value (es ++ (key, a) ∷ []) q ≡ entry_of number value es q + cond (eqb (number key) q) (value a) 0
  entry_of-append value [] key a q = omega arith
  entry_of-append value (e ∷ es) key a q = omega (arith, entry_of-append value es key a q)

  -- a pair behind all others
  pub IsRow-append : (zero : E) (low : ℕ) (key : K) (a : E) (es : List (K × E)) → low ≤ number key → IsRow number zero low es
      → IsBelow number (number key) es → a ≢ zero → IsRow number zero low (es ++ (key, a) ∷ [])
  IsRow-append zero low key a [] l r b f = (l, f, tt)
  IsRow-append zero low key a (e ∷ es) l r b f = (r.0, r.1, IsRow-append zero (number e.0 + 1) key a es (omega (arith, b.0)) r.2 b.1 f)

  pub IsBelow-append : (high : ℕ) (key : K) (a : E) (es : List (K × E)) → IsBelow number (number key) es → number key < high
      → IsBelow number high (es ++ (key, a) ∷ [])
  IsBelow-append high key a [] b h = (h, tt)
  IsBelow-append high key a (e ∷ es) b h = (omega (arith, b.0), IsBelow-append high key a es b.1 h)

  -- what is below a number is below a greater one
  pub below_more : (low high : ℕ) (es : List (K × E)) → low ≤ high → IsBelow number low es → IsBelow number high es
  below_more low high [] h b = tt
  below_more low high (e ∷ es) h b = (omega (arith, b.0), below_more low high es h b.1)

  pub AllIn-append : (has : E → Bool) (key : K) (a : E) (es : List (K × E)) → AllIn has es → has a ≡ true → AllIn has (es ++ (key, a) ∷ [])
  AllIn-append has key a [] all h = (h, tt)
  AllIn-append has key a (e ∷ es) all h = (all.0, AllIn-append has key a es all.1 h)

  -- before its first number a row has nothing
  pub entry_of_before : (zero : E) (value : E → ℕ) (low q : ℕ) (es : List (K × E)) → IsRow number zero low es → q < low → entry_of number value es q ≡ 0
  entry_of_before zero value low q [] r h = refl
  entry_of_before zero value low q (e ∷ es) r h = go (entry_of_before zero value (number e.0 + 1) q es r.2 (omega (arith, r.0))) (eqb (number e.0) q) refl
    where
      go : entry_of number value es q ≡ 0 → (b : Bool) → eqb (number e.0) q ≡ b → cond b (value e.1) 0 + entry_of number value es q ≡ 0
      go rest true is = absurd (omega (arith, r.0, eqb-true (number e.0) q is))
      go rest false is = omega arith

  -- at its first number a row has its first element
  pub entry_of_first : (zero : E) (value : E → ℕ) (low : ℕ) (e : K × E) (es : List (K × E)) → IsRow number zero low (e ∷ es)
      → entry_of number value (e ∷ es) (number e.0) ≡ value e.1
  entry_of_first zero value low e es r =
      ap (λ b. cond b (value e.1) 0 + entry_of number value es (number e.0)) (eq-eqb (number e.0) (number e.0) refl)
      ∙ omega (arith, entry_of_before zero value (number e.0 + 1) (number e.0) es r.2 (omega arith))

  -- the entries of a row are residues
  pub entry_of_below : (zero : E) (has : E → Bool) (value : E → ℕ) (m low q : ℕ) (es : List (K × E)) → 0 < m → ((a : E) → has a ≡ true → value a < m)
      → IsRow number zero low es → AllIn has es → entry_of number value es q < m
  entry_of_below zero has value m low q [] pos below r all = pos
  entry_of_below zero has value m low q (e ∷ es) pos below r all =
      go (entry_of_below zero has value m (number e.0 + 1) q es pos below r.2 all.1) (eqb (number e.0) q) refl
    where
      go : entry_of number value es q < m → (b : Bool) → eqb (number e.0) q ≡ b → cond b (value e.1) 0 + entry_of number value es q < m
      go rest true is = omega (arith, below e.1 all.0, entry_of_before zero value (number e.0 + 1) q es r.2 (omega (arith, eqb-true (number e.0) q is)))
      go rest false is = omega arith

  -- a row that begins with number q has its first element there
  pub entry_of_begun : (zero : E) (value : E → ℕ) (low q : ℕ) (e : K × E) (row es : List (K × E)) → IsRow number zero low row → row ≡ e ∷ es
      → number e.0 ≡ q → entry_of number value row q ≡ value e.1
  entry_of_begun zero value low q e row es r is same =
      ap (λ xs. entry_of number value xs q) is ∙ ap (entry_of number value (e ∷ es)) (sym same)
      ∙ entry_of_first zero value low e es (subst (IsRow number zero low) is r)
