-- Sums that are made one after the other, each of those before it.
use Rattle.std.specs.Prelude.{◌≡◌, ℕ, zero, suc, ◌+◌, ◌-◌, ◌*◌, ◌%◌, ◌<◌, ◌≤◌, Some, List, [], ◌∷◌, ◌++◌, length, get_or, slice_get}
use Rattle.std.proofs.Common.{refl, sym, ◌∙◌, ap, subst, inl, inr, arith}
use Rattle.std.proofs.lemmas.Bool.{cases_lt}
use Rattle.std.proofs.lemmas.List.{get_or_append_left}
use Rattle.std.proofs.lemmas.Option.{slice_get-get_or, slice_get_within, get_or_from_slice_get}
use Rattle.zeta_model.proofs.ModularLemmas.{same-add_right}
use Rattle.linear_model.specs.Rows.{total, combination, SameRow}
use Rattle.echelon.specs.Lists.{entries_of, row_at}
use Rattle.table_build.proofs.GrownLists.{last_one, length-last}

-- what holds at each place of a list, and of one more element at its place, holds at each place of the two
pub each_grown : {A : Type 0} (xs : List A) (x d : A) (P : ℕ → A → Type 0) → ((k : ℕ) → k < length xs → P k (get_or xs k d)) → P (length xs) x
    → (i : ℕ) → i < length (xs ++ x ∷ []) → P i (get_or (xs ++ x ∷ []) i d)
each_grown xs x d P before last i l = elim (cases_lt i (length xs)) [
  | inl less ↦ subst (P i) (sym (get_or_append_left xs (x ∷ []) d i less)) (before i less)
  | inr late ↦
      let at : length xs ≡ i = omega (arith, l, late, length-last xs x) in
      subst (λ k. P k (get_or (xs ++ x ∷ []) k d)) at (subst (P (length xs)) (sym (last_one xs x d)) last)
]

-- the same of what stands at the places
pub each_pushed : {A : Type 0} (xs : List A) (x : A) (P : ℕ → A → Type 0) → ((k : ℕ) (e : A) → slice_get xs k ≡ Some e → P k e) → P (length xs) x
    → (k : ℕ) (e : A) → slice_get (xs ++ x ∷ []) k ≡ Some e → P k e
each_pushed xs x P before last k e at =
    subst (P k) (get_or_from_slice_get (xs ++ x ∷ []) k e x at)
    (each_grown xs x x P (λ k l. before k (get_or xs k x) (slice_get-get_or xs k x l)) last k (slice_get_within (xs ++ x ∷ []) k e at))

-- a sum in two parts
pub total_parts : (a b : ℕ) (f : ℕ → ℕ) → total (a + b) f ≡ total a f + total b (λ i. f (a + i))
total_parts a zero f = ap (λ k. total k f) (let e : a + zero ≡ a = omega arith in e) ∙ (let e : total a f ≡ total a f + 0 = omega arith in e)
total_parts a (suc b) f =
    let e : a + suc b ≡ suc (a + b) = omega arith in
    ap (λ k. total k f) e ∙ ap (λ x. x + f (a + b)) (total_parts a b f) ∙ omega arith

pub alike_below : (n : ℕ) (f g : ℕ → ℕ) → ((i : ℕ) → i < n → f i ≡ g i) → total n f ≡ total n g
alike_below zero f g h = refl
alike_below (suc n) f g h = λ z. alike_below n f g (λ i l. h i (omega (arith, l))) z + h n (omega arith) z

-- a combination of the first rows, plus one of those behind them
pub added_behind : (m done end : ℕ) (rows : ℕ → ℕ → ℕ) (c start before after : ℕ → ℕ) → done ≤ end → SameRow m before (λ q. start q + combination done rows c q)
    → SameRow m after (λ q. before q + combination (end - done) (λ i. rows (done + i)) (λ i. c (done + i)) q)
    → SameRow m after (λ q. start q + combination end rows c q)
added_behind m done end rows c start before after l first then q =
    let more : ℕ = combination (end - done) (λ i. rows (done + i)) (λ i. c (done + i)) q in
    let parts : combination done rows c q + more ≡ combination end rows c q =
    sym (total_parts done (end - done) (λ i. c i * rows i q)) ∙ ap (λ k. combination k rows c q) (let e : done + (end - done) ≡ end = omega (arith, l) in e) in
    then q ∙ same-add_right m (before q) (start q + combination done rows c q) more (first q)
    ∙ ap (λ x. x % m) (let e : start q + combination done rows c q + more ≡ start q + (combination done rows c q + more) = omega arith in
    e ∙ ap (λ x. start q + x) parts)

module _ {E : Type 0} (m : ℕ) (value : E → ℕ) (starts : List (List (ℕ × E))) (uses : ℕ → ℕ → ℕ) where
  -- each is its start plus those before it
  abbrev pub AreInTurn : List (List (ℕ × E)) → Type 0
  AreInTurn ys = (j : ℕ) → j < length ys → SameRow m (row_at value ys j) (λ q. row_at value starts j q + combination j (row_at value ys) (uses j) q)

  pub in_turn_more : (ys : List (List (ℕ × E))) (y : List (ℕ × E)) → AreInTurn ys
      → SameRow m (entries_of value y) (λ q. row_at value starts (length ys) q + combination (length ys) (row_at value ys) (uses (length ys)) q)
      → AreInTurn (ys ++ y ∷ [])
  in_turn_more ys y before last =
      let all : List (List (ℕ × E)) = ys ++ y ∷ [] in
      let same : (j : ℕ) → j ≤ length ys → SameRow m (λ q. row_at value starts j q + combination j (row_at value ys) (uses j) q)
      (λ q. row_at value starts j q + combination j (row_at value all) (uses j) q) =
      λ j l q. ap (λ x. (row_at value starts j q + x) % m) (alike_below j (λ i. uses j i * row_at value ys i q) (λ i. uses j i * row_at value all i q)
      (λ i li. ap (λ es. uses j i * entries_of value es q) (sym (get_or_append_left ys (y ∷ []) [] i (omega (arith, l, li)))))) in
      each_grown ys y [] (λ j es. SameRow m (entries_of value es) (λ q. row_at value starts j q + combination j (row_at value all) (uses j) q))
      (λ j l q. before j l q ∙ same j (omega (arith, l)) q) (λ q. last q ∙ same (length ys) (omega arith) q)
