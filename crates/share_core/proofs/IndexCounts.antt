-- How often a number stands in a list.
use Rattle.std.proofs.Common.{◌≡◌, ℕ, suc, ◌+◌, ◌<◌, ◌⊎◌, Bool, true, false, cond, nat_eq, List, [], ◌∷◌, refl, sym, ◌∙◌}
use Rattle.std.proofs.Common.{subst, inl, inr, arith}
use Rattle.std.specs.Prelude.{◌≢◌, count_by, Contains, AllPairs}
use Rattle.std.proofs.lemmas.Bool.{eqb-true, eq-eqb}
use Rattle.std.proofs.lemmas.List.Elements.{Contains-append_left, Contains-append_right, Contains-append_cases, Contains-push, Contains-push_cases}
use Rattle.std.proofs.lemmas.List.Sums.{sum_by-cons}

module _ {X : Type 0} where
  pub nothing_there : (x : X) → ¬ (Contains [] x)
  nothing_there x (k, inside, at) = absurd (omega (arith, inside))

  -- an element stands first or behind
  pub Contains-cases : (y : X) (ys : List X) (x : X) → Contains (y ∷ ys) x → (y ≡ x) ⊎ Contains ys x
  Contains-cases y ys x there =
      elim (Contains-append_cases (y ∷ []) ys x there) [
        | inl first ↦ elim (Contains-push_cases [] y x first) [ inl never ↦ absurd (nothing_there x never) | inr same ↦ inl same ]
        | inr behind ↦ inr behind
      ]

  pub Contains-first : (y : X) (ys : List X) (x : X) → y ≡ x → Contains (y ∷ ys) x
  Contains-first y ys x same = subst (Contains (y ∷ ys)) same (Contains-append_left (y ∷ []) ys y (Contains-push [] y))

  pub Contains-behind : (y : X) (ys : List X) (x : X) → Contains ys x → Contains (y ∷ ys) x
  Contains-behind y ys x there = Contains-append_right (y ∷ []) ys x there

-- how often i stands in the list
abbrev pub times : ℕ → List ℕ → ℕ
times i numbers = count_by (λ k. nat_eq k i) numbers

times-cons : (i x : ℕ) (xs : List ℕ) → times i (x ∷ xs) ≡ cond (nat_eq x i) 1 0 + times i xs
times-cons i x xs = sum_by-cons (λ k. cond (nat_eq k i) 1 0) x xs

counted_then : (i x rest total : ℕ) (b : Bool) → total ≡ cond b 1 0 + rest → b ≡ true → total ≡ 1 + rest
counted_then i x rest total true e t = omega (arith, e)
counted_then i x rest total false e t = absurd (cc t)

passed_then : (i x rest total : ℕ) (b : Bool) → total ≡ cond b 1 0 + rest → b ≡ false → total ≡ rest
passed_then i x rest total true e t = absurd (cc t)
passed_then i x rest total false e t = omega (arith, e)

number_equal : (i x : ℕ) (xs : List ℕ) → x ≡ i → times i (x ∷ xs) ≡ 1 + times i xs
number_equal i x xs same = counted_then i x (times i xs) (times i (x ∷ xs)) (nat_eq x i) (times-cons i x xs) (eq-eqb x i same)

number_other : (i x : ℕ) (xs : List ℕ) → nat_eq x i ≡ false → times i (x ∷ xs) ≡ times i xs
number_other i x xs other = passed_then i x (times i xs) (times i (x ∷ xs)) (nat_eq x i) (times-cons i x xs) other

absent_cons : (i x : ℕ) (xs : List ℕ) (b : Bool) → b ≡ nat_eq x i → ¬ (Contains (x ∷ xs) i) → times i xs ≡ 0 → times i (x ∷ xs) ≡ 0
absent_cons i x xs true e away rest = absurd (away (Contains-first x xs i (eqb-true x i (sym e))))
absent_cons i x xs false e away rest = number_other i x xs (sym e) ∙ rest

-- a number that does not stand there is counted no time
pub absent : (i : ℕ) (xs : List ℕ) → ¬ (Contains xs i) → times i xs ≡ 0
absent i [] away = refl
absent i (x ∷ xs) away = absent_cons i x xs (nat_eq x i) refl away (absent i xs (λ h. away (Contains-behind x xs i h)))

apart_tail : (x : ℕ) (xs : List ℕ) → AllPairs (λ a b. a ≢ b) (x ∷ xs) → AllPairs (λ a b. a ≢ b) xs
apart_tail x xs apart i j d before inside = apart (suc i) (suc j) d (omega (arith, before)) (omega (arith, inside))

apart_head : (x : ℕ) (xs : List ℕ) → AllPairs (λ a b. a ≢ b) (x ∷ xs) → ¬ (Contains xs x)
apart_head x xs apart (k, inside, at) = apart 0 (suc k) x (omega arith) (omega (arith, inside)) (sym at)

once_cons : (i x : ℕ) (xs : List ℕ) (b : Bool) → b ≡ nat_eq x i → AllPairs (λ a b. a ≢ b) (x ∷ xs) → Contains (x ∷ xs) i
    → (Contains xs i → times i xs ≡ 1) → times i (x ∷ xs) ≡ 1
once_cons i x xs true e apart there rest =
    let same = eqb-true x i (sym e) in
    let away = absent i xs (subst (λ k. ¬ (Contains xs k)) same (apart_head x xs apart)) in
    omega (arith, number_equal i x xs same, away)
once_cons i x xs false e apart there rest =
    elim (Contains-cases x xs i there) [
      | inl same ↦ let yes : nat_eq x i ≡ true = eq-eqb x i same in absurd (cc (yes, e))
      | inr behind ↦ number_other i x xs (sym e) ∙ rest behind
    ]

-- a number that stands there, where no two are equal, is counted once
pub once : (i : ℕ) (xs : List ℕ) → AllPairs (λ a b. a ≢ b) xs → Contains xs i → times i xs ≡ 1
once i [] apart there = absurd (nothing_there i there)
once i (x ∷ xs) apart there = once_cons i x xs (nat_eq x i) refl apart there (once i xs (apart_tail x xs apart))

found_cons : (i x : ℕ) (xs : List ℕ) (b : Bool) → b ≡ nat_eq x i → 0 < times i (x ∷ xs) → (0 < times i xs → Contains xs i) → Contains (x ∷ xs) i
found_cons i x xs true e some rest = Contains-first x xs i (eqb-true x i (sym e))
found_cons i x xs false e some rest = Contains-behind x xs i (rest (omega (arith, some, number_other i x xs (sym e))))

-- a number that is counted stands there
pub found : (i : ℕ) (xs : List ℕ) → 0 < times i xs → Contains xs i
found i [] some = absurd (omega (arith, some))
found i (x ∷ xs) some = found_cons i x xs (nat_eq x i) refl some (found i xs)
