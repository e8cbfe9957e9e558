-- The shares that count: of each index the first, and none twice.
use Rattle.std.specs.Prelude.{◌≡◌, ◌≢◌, ℕ, zero, suc, ◌<◌, ◌≤◌, ◌⊎◌, ◌||◌, not, nat_eq, eqb, Bool, true, false, cond}
use Rattle.std.specs.Prelude.{List, [], ◌∷◌, ◌++◌, length, map, filter, All, get_or}
use Rattle.std.proofs.Common.{refl, sym, ◌∙◌, ap, subst, inl, inr, arith}
use Rattle.std.specs.List.{list_any, AllByRecursion, AllPairs, IsDistinct}
use Rattle.std.proofs.lemmas.Bool.{cases_eq, ne_eqb, eq-eqb}
use Rattle.std.proofs.lemmas.List.Elements.{filter-append, filter_passes, All-filter, All-cons}
use Rattle.std.proofs.lemmas.List.Kept.{AllPairs-cons, AllPairs-filter}
use Rattle.std.proofs.lemmas.Map.Steps.{length-le_from_distinct_below}
use Rattle.std.proofs.lemmas.List.{length-map, append-nil}
use Rattle.zeta_model.proofs.ListLemmas.{contains-filter}
use Rattle.share_model.specs.Checked.{Checked}
use Rattle.share_merge.specs.Turns.{HasIndex, counted}

module _ {R E : Type 0} where
  -- d has another index than c
  abbrev other : Checked R E → Checked R E → Bool
  other c d = not (nat_eq c.id.index d.id.index)

  here : (c : Checked R E) (cs : List (Checked R E)) (i : ℕ) → c.id.index ≡ i → HasIndex (c ∷ cs) i
  here c cs i e = (0, c, omega arith, refl, e)

  behind : (c : Checked R E) (cs : List (Checked R E)) (i : ℕ) → HasIndex cs i → HasIndex (c ∷ cs) i
  behind c cs i (k, x, l, at, e) = (suc k, x, omega (arith, l), at, e)

  first_or_behind : (c : Checked R E) (cs : List (Checked R E)) (i : ℕ) → HasIndex (c ∷ cs) i → (c.id.index ≡ i) ⊎ HasIndex cs i
  first_or_behind c cs i (zero, x, l, at, e) = inl (ap (λ (d : Checked R E). d.id.index) at ∙ e)
  first_or_behind c cs i (suc k, x, l, at, e) = inr (k, x, omega (arith, l), at, e)

  none : (i : ℕ) → ¬ (HasIndex {R = R} {E = E} [] i)
  none i (k, x, l, at, e) = absurd (omega (arith, l))

  pub has_or_not : (cs : List (Checked R E)) (i : ℕ) → HasIndex cs i ⊎ ¬ (HasIndex cs i)
  has_or_not [] i = inr (none i)
  has_or_not (c ∷ cs) i = elim (cases_eq c.id.index i) [
    | inl e ↦ inl (here c cs i e)
    | inr ne ↦ elim (has_or_not cs i) [
      | inl h ↦ inl (behind c cs i h)
      | inr absent ↦ inr (λ h. elim (first_or_behind c cs i h) [ inl e ↦ ne e | inr later ↦ absent later ])
    ]
  ]

  kept : (c x : Checked R E) → c.id.index ≢ x.id.index → filter (other c) (x ∷ []) ≡ x ∷ []
  kept c x ne = ap (λ b. cond (not b) (x ∷ []) []) (ne_eqb c.id.index x.id.index ne)

  left_out : (c x : Checked R E) → c.id.index ≡ x.id.index → filter (other c) (x ∷ []) ≡ []
  left_out c x e = ap (λ b. cond (not b) (x ∷ []) []) (eq-eqb c.id.index x.id.index e)

  -- a share with a new index counts
  pub counted-new : (cs : List (Checked R E)) (x : Checked R E) → ¬ (HasIndex cs x.id.index) → counted (cs ++ x ∷ []) ≡ counted cs ++ x ∷ []
  counted-new [] x absent = refl
  counted-new (c ∷ cs) x absent =
      ap (λ ys. c ∷ filter (other c) ys) (counted-new cs x (λ h. absent (behind c cs x.id.index h)))
      ∙ ap (λ ys. c ∷ ys) (filter-append (other c) (counted cs) (x ∷ []) ∙ ap (λ ys. filter (other c) (counted cs) ++ ys)
      (kept c x (λ e. absent (here c cs x.id.index e))))

  -- one with an index that an earlier one has does not
  pub counted-again : (cs : List (Checked R E)) (x : Checked R E) → HasIndex cs x.id.index → counted (cs ++ x ∷ []) ≡ counted cs
  counted-again [] x h = absurd (none x.id.index h)
  counted-again (c ∷ cs) x h = elim (has_or_not cs x.id.index) [
    | inl later ↦ ap (λ ys. c ∷ filter (other c) ys) (counted-again cs x later)
    | inr absent ↦ elim (first_or_behind c cs x.id.index h) [
      | inl e ↦ ap (λ ys. c ∷ filter (other c) ys) (counted-new cs x absent)
          ∙ ap (λ ys. c ∷ ys) (filter-append (other c) (counted cs) (x ∷ []) ∙ ap (λ ys. filter (other c) (counted cs) ++ ys) (left_out c x e)
          ∙ append-nil (filter (other c) (counted cs)))
      | inr later ↦ absurd (absent later)
    ]
  ]

  -- what holds of each share holds of each that counts
  pub counted_all : (P : Checked R E → Type 0) (cs : List (Checked R E)) → All P cs → All P (counted cs)
  counted_all P [] all = all
  counted_all P (c ∷ cs) all =
      All-cons P c (filter (other c) (counted cs)) (all 0 c (omega arith))
      (All-filter (other c) P (counted cs) (counted_all P cs (λ k d l. all (suc k) d (omega (arith, l)))))

  -- each index that occurs is that of a share that counts
  pub counted_has : (cs : List (Checked R E)) (i : ℕ) → HasIndex cs i → HasIndex (counted cs) i
  counted_has [] i h = absurd (none i h)
  counted_has (c ∷ cs) i h = elim (cases_eq c.id.index i) [
    | inl e ↦ here c (filter (other c) (counted cs)) i e
    | inr ne ↦ elim (first_or_behind c cs i h) [
      | inl e ↦ absurd (ne e)
      | inr later ↦
          let (k, x, l, at, e) = counted_has cs i later in
          let passes : other c x ≡ true = ap (λ b. not b) (ne_eqb c.id.index x.id.index (λ z. ne (z ∙ e))) in
          let (j, lj, atj) = contains-filter (other c) (counted cs) x (k, l, at) passes in
          behind c (filter (other c) (counted cs)) i (j, x, lj, atj, e)
    ]
  ]

  -- no two that count have one index
  abbrev Apart : Checked R E → Checked R E → Type 0
  Apart c d = c.id.index ≢ d.id.index

  counted_apart : (cs : List (Checked R E)) → AllPairs Apart (counted cs)
  counted_apart [] = λ i j d l lj. absurd (omega (arith, lj))
  counted_apart (c ∷ cs) =
      AllPairs-cons Apart c (filter (other c) (counted cs))
      (λ k d l e. not_same c (get_or (filter (other c) (counted cs)) k d) (filter_passes (other c) (counted cs) k d l) e)
      (AllPairs-filter Apart (other c) (counted cs) (counted_apart cs))
    where
      not_same : (c d : Checked R E) → other c d ≡ true → c.id.index ≢ d.id.index
      not_same c d passes e = let absent : false ≡ true = sym (ap (λ b. not b) (eq-eqb c.id.index d.id.index e)) ∙ passes in cc

  abbrev index_of : Checked R E → ℕ
  index_of c = c.id.index

  head_apart : (c : Checked R E) (cs : List (Checked R E)) → All (Apart c) cs → AllByRecursion (λ y. eqb c.id.index y ≡ false) (map index_of cs)
  head_apart c [] all = tt
  head_apart c (d ∷ ds) all = (
    ne_eqb c.id.index d.id.index (all 0 d (omega arith)),
    head_apart c ds (λ k e l. all (suc k) e (omega (arith, l))),
  )

  distinct : (cs : List (Checked R E)) → AllPairs Apart cs → IsDistinct eqb (map index_of cs)
  unfolding IsDistinct
  distinct [] apart = tt
  distinct (c ∷ cs) apart = (
    head_apart c cs (λ k d l. apart 0 (suc k) d (omega arith) (omega (arith, l))),
    distinct cs (λ i j d l lj. apart (suc i) (suc j) d (omega (arith, l)) (omega (arith, lj))),
  )

  indices_below : (n : ℕ) (cs : List (Checked R E)) → All (λ c. c.id.index < n) cs → (q : ℕ) → list_any (eqb q) (map index_of cs) ≡ true → q < n
  indices_below n [] all q found = cc
  indices_below n (c ∷ cs) all q found = elim (cases_eq q c.id.index) [
    | inl e ↦ subst (λ x. x < n) (sym e) (all 0 c (omega arith))
    | inr ne ↦ indices_below n cs (λ k d l. all (suc k) d (omega (arith, l))) q
        (sym (ap (λ b. b || list_any (eqb q) (map index_of cs)) (ne_eqb q c.id.index ne)) ∙ found)
  ]

  -- no more shares count than there are indices
  pub counted_few : (n : ℕ) (cs : List (Checked R E)) → All (λ c. c.id.index < n) (counted cs) → length (counted cs) ≤ n
  counted_few n cs all =
      let few : length (map index_of (counted cs)) ≤ n =
      length-le_from_distinct_below (map index_of (counted cs)) n (distinct (counted cs) (counted_apart cs))
      (indices_below n (counted cs) all) in
      omega (arith, few, length-map (counted cs) index_of)
