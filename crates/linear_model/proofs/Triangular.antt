-- Triangular systems modulo m: each has exactly one solution.
use Rattle.std.specs.Prelude.{◌≡◌, ◌≢◌, ℕ, zero, suc, ◌+◌, ◌-◌, ◌*◌, ◌%◌, ◌<◌, ◌≤◌, ◌⊎◌, cond, eqb}
use Rattle.std.proofs.Common.{refl, sym, ◌∙◌, ap, subst, inl, inr, arith}
use Rattle.std.proofs.lemmas.Bool.{cases_eq, cases_lt, eq-eqb, ne_eqb}
use Rattle.zeta_model.specs.Modular.{Same}
use Rattle.zeta_model.proofs.ModularLemmas.{same-add, same-add_right, same-mul_left, same-mul_right, same-opposite}
use Rattle.linear_model.specs.Rows.{combination}
use Rattle.linear_model.proofs.Totals.{total_vanishes, same_term}
use Rattle.linear_model.proofs.Combinations.{combination-add, combination-one}
use Rattle.zeta_model.specs.Inverses.{HasInverse}

-- Each of n places has a height of its own. Row i is zero at higher places than its own, and has an inverse at its own.
pub record IsTriangular (m n : ℕ) (height : ℕ → ℕ) (a : ℕ → ℕ → ℕ) : Type 0 where
  pub apart : (i j : ℕ) → i < n → j < n → height i ≡ height j → i ≡ j
  pub above : (i j : ℕ) → i < n → j < n → height i < height j → Same m (a i j) 0
  pub unit : (i : ℕ) → i < n → HasInverse m (a i i)

-- a factor with an inverse can be taken away
pub cancel_unit : (m a p q : ℕ) → HasInverse m a → Same m (p * a) (q * a) → Same m p q
cancel_unit m a p q (b, u) e = whole p ∙ same-mul_right m (p * a) (q * a) b e ∙ sym (whole q)
  where
    whole : (r : ℕ) → Same m r (r * a * b)
    whole r = ap (λ x. x % m) (let t : r ≡ r * 1 = omega arith in t) ∙ same-mul_left m 1 (a * b) r (sym u)
        ∙ ap (λ x. x % m) (let t : r * (a * b) ≡ r * a * b = omega arith in t)

-- a place below n of a height, or that there is none
pub find_height : (n : ℕ) (height : ℕ → ℕ) (k : ℕ) → ((i : ℕ) × (i < n) × (height i ≡ k)) ⊎ ((i : ℕ) → i < n → height i ≢ k)
find_height zero height k = inr (λ i l. absurd (omega arith))
find_height (suc n) height k =
    elim (find_height n height k) [
      | inl (i, l, e) ↦ inl (i, omega arith, e)
      | inr none ↦ elim (cases_eq (height n) k) [
        | inl e ↦ inl (n, omega arith, e)
        | inr ne ↦ inr (λ i l. elim (cases_eq i n) [
          | inl e ↦ subst (λ x. height x ≢ k) (sym e) ne
          | inr other ↦ none i (omega arith)
        ])
      ]
    ]

module _ (m n : ℕ) (height : ℕ → ℕ) (a : ℕ → ℕ → ℕ) (pos : 0 < m) (triangular : IsTriangular m n height a) (top : ℕ) (bounded : (i : ℕ) → i < n
    → height i < top) where
  agree_from : (p q : ℕ → ℕ) → ((j : ℕ) → j < n → Same m (combination n a p j) (combination n a q j)) → (k i : ℕ) → i < n → top ≤ height i + k
      → Same m (p i) (q i)
  agree_from p q e zero i l h = absurd (omega (arith, bounded i l))
  agree_from p q e (suc k) i l h =
      cancel_unit m (a i i) (p i) (q i) (triangular.unit i l)
      (same_term m n (λ c. p c * a c i) (λ c. q c * a c i) i pos l (λ c lc ne. other (agree_from p q e k) c lc ne (cases_lt (height c) (height i))) (e i l))
    where
      other : ((c : ℕ) → c < n → top ≤ height c + k → Same m (p c) (q c)) → (c : ℕ) → c < n → c ≢ i → ((height c < height i) ⊎ (height i ≤ height c))
          → Same m (p c * a c i) (q c * a c i)
      other ih c lc ne (inl low) = vanish p ∙ sym (vanish q)
        where
          vanish : (r : ℕ → ℕ) → Same m (r c * a c i) 0
          vanish r = same-mul_left m (a c i) 0 (r c) (triangular.above c i lc l low) ∙ ap (λ x. x % m) (omega arith)
      other ih c lc ne (inr high) =
          let apart : height i ≢ height c = λ e. ne (triangular.apart c i lc l (sym e)) in
          same-mul_right m (p c) (q c) (a c i) (ih c lc (omega arith))

  -- two combinations that agree at all places have the same coefficients
  pub triangular_unique : (p q : ℕ → ℕ) → ((j : ℕ) → j < n → Same m (combination n a p j) (combination n a q j)) → (i : ℕ) → i < n → Same m (p i) (q i)
  triangular_unique p q e i l = agree_from p q e top i l (omega arith)

  abbrev Solved : (ℕ → ℕ) → Type 0
  Solved s = (r : ℕ → ℕ) × ((j : ℕ) → j < n → Same m (combination n a r j) (s j))

  solve_below : (k : ℕ) (s : ℕ → ℕ) → ((j : ℕ) → j < n → k ≤ height j → Same m (s j) 0) → Solved s
  solve_below zero s none = (
    λ _. 0,
    λ j l. total_vanishes m n (λ i. 0 * a i j) (λ i li. ap (λ x. x % m) (let e : 0 * a i j ≡ 0 = omega arith in e))
        ∙ sym (none j l (omega arith)),
  )
  solve_below (suc k) s none = step (find_height n height k) (solve_below k)
    where
      step : ((i : ℕ) × (i < n) × (height i ≡ k)) ⊎ ((i : ℕ) → i < n → height i ≢ k)
          → ((t : ℕ → ℕ) → ((j : ℕ) → j < n → k ≤ height j → Same m (t j) 0) → Solved t) → Solved s
      step (inr no_place) ih = ih s (λ j l h. let ne : height j ≢ k = no_place j l in none j l (omega arith))
      step (inl (i, li, is)) ih =
          let b : ℕ = (triangular.unit i li).0 in
          let c : ℕ = s i * b in
          let t : ℕ → ℕ = λ j. s j + c * a i j * (m - 1) in
          let at_own : Same m (c * a i i) (s i) =
          ap (λ x. x % m) (let e : s i * b * a i i ≡ s i * (a i i * b) = grind arith in e) ∙ same-mul_left m (a i i * b) 1 (s i) (triangular.unit i li).1
          ∙ ap (λ x. x % m) (omega arith) in
          let zeros : (j : ℕ) → j < n → k ≤ height j → Same m (t j) 0 = λ j l h. elim (cases_eq i j) [
            | inl e ↦ subst (λ x. Same m (t x) 0) e
                (same-add_right m (s i) (0 + c * a i i) (c * a i i * (m - 1)) (sym at_own ∙ ap (λ x. x % m) (omega arith))
                ∙ same-opposite m 0 (c * a i i) pos)
            | inr ne ↦
                let other : height i ≢ height j = λ e. ne (triangular.apart i j li l e) in
                let gone : Same m (c * a i j * (m - 1)) 0 =
                ap (λ x. x % m) (let e : c * a i j * (m - 1) ≡ c * (m - 1) * a i j = grind arith in e)
                ∙ same-mul_left m (a i j) 0 (c * (m - 1)) (triangular.above i j li l (omega arith)) ∙ ap (λ x. x % m) (omega arith) in
                same-add m (s j) 0 (c * a i j * (m - 1)) 0 (none j l (omega arith)) gone ∙ ap (λ x. x % m) (omega arith)
          ] in
          let rest : Solved t = ih t zeros in (
            λ j. rest.0 j + cond (eqb j i) c 0,
            λ j l. ap (λ x. x % m) (combination-add n a rest.0 (λ z. cond (eqb z i) c 0) j)
                ∙ same-add m (combination n a rest.0 j) (t j) (combination n a (λ z. cond (eqb z i) c 0) j) (c * a i j) (rest.1 j l)
                (combination-one m n a i c j li)
                ∙ ap (λ x. x % m) (let e : s j + c * a i j * (m - 1) + c * a i j ≡ s j + c * a i j + c * a i j * (m - 1) = omega arith in e)
                ∙ same-opposite m (s j) (c * a i j) pos,
          )

  -- each row is a combination, at all places
  pub triangular_exists : (s : ℕ → ℕ) → (r : ℕ → ℕ) × ((j : ℕ) → j < n → Same m (combination n a r j) (s j))
  triangular_exists s = solve_below top s (λ j l h. absurd (omega (arith, bounded j l)))
