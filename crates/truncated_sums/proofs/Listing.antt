-- The lists of a truncated sum are the strictly decreasing ones, each once.
use Rattle.std.proofs.Common.{◌≡◌, ℕ, zero, suc, ◌+◌, ◌-◌, ◌<◌, ◌≤◌, Bool, false, ◌&&◌, cond, List, [], ◌∷◌, map, nat_eq, nat_lt, nat_le, refl, sym}
use Rattle.std.proofs.Common.{ap, ◌∙◌, inl, inr, arith}
use Rattle.std.specs.List.{sum_by, count_by}
use Rattle.std.proofs.lemmas.Bool.{cases_lt, cases_eq, eq-eqb, ne_eqb}
use Rattle.std.proofs.lemmas.List.Sums.{sum_by-append, sum_by-cons}
use Rattle.truncated_sums.specs.DecreasingLists.{decreasing_lists, is_decreasing, same_list}
use Rattle.truncated_sums.proofs.ListSums.{sum_by-map}

-- how often the list l stands among some lists
places : List ℕ → List (List ℕ) → ℕ
places l ls = sum_by (λ k. cond (same_list l k) 1 0) ls

sum_by-zero : (f : List ℕ → ℕ) (ls : List (List ℕ)) → ((k : List ℕ) → f k ≡ 0) → sum_by f ls ≡ 0
sum_by-zero f [] h = refl
sum_by-zero f (l ∷ ls) h = omega (arith, sum_by-cons f l ls, sum_by-zero f ls h, h l)

sum_by-alike : (f g : List ℕ → ℕ) (ls : List (List ℕ)) → ((k : List ℕ) → f k ≡ g k) → sum_by f ls ≡ sum_by g ls
sum_by-alike f g ls h i = sum_by (λ k. h k i) ls

-- the lists that begin with a
behind_none : (a : ℕ) (ls : List (List ℕ)) → count_by (same_list []) (map (λ l. a ∷ l) ls) ≡ 0
behind_none a ls = sum_by-map (λ k. cond (same_list [] k) 1 0) (λ l. a ∷ l) ls ∙ sum_by-zero (λ l. 0) ls (λ l. refl)

behind_same : (k a : ℕ) (l : List ℕ) (ls : List (List ℕ)) → k ≡ a → count_by (same_list (k ∷ l)) (map (λ l. a ∷ l) ls) ≡ count_by (same_list l) ls
behind_same k a l ls e =
    sum_by-map (λ t. cond (same_list (k ∷ l) t) 1 0) (λ t. a ∷ t) ls
    ∙ sum_by-alike (λ t. cond (nat_eq k a && same_list l t) 1 0) (λ t. cond (same_list l t) 1 0) ls (λ t. ap (λ b. cond (b && same_list l t) 1 0) (eq-eqb k a e))

behind_other : (k a : ℕ) (l : List ℕ) (ls : List (List ℕ)) → (k ≡ a → ⊥) → count_by (same_list (k ∷ l)) (map (λ l. a ∷ l) ls) ≡ 0
behind_other k a l ls e =
    sum_by-map (λ t. cond (same_list (k ∷ l) t) 1 0) (λ t. a ∷ t) ls
    ∙ sum_by-zero (λ t. cond (nat_eq k a && same_list l t) 1 0) ls (λ t. ap (λ b. cond (b && same_list l t) 1 0) (ne_eqb k a e))

-- the test of the first number
first_over : (n k : ℕ) (b : Bool) → n < k → (nat_lt 0 k && nat_le k n && b) ≡ false
first_over n k b h = grind arith

first_none : (n k : ℕ) (b : Bool) → k ≤ 0 → (nat_lt 0 k && nat_le k n && b) ≡ false
first_none n k b h = grind arith

first_same : (n k : ℕ) (b : Bool) → k ≡ suc n → (nat_lt 0 k && nat_le k (suc n) && b) ≡ b
first_same n k b h = grind arith

first_other : (n k : ℕ) (b : Bool) → (k ≡ suc n → ⊥) → (nat_lt 0 k && nat_le k n && b) ≡ (nat_lt 0 k && nat_le k (suc n) && b)
first_other n k b h = grind arith

pub counted_lists : (n r : ℕ) (l : List ℕ) → count_by (same_list l) (decreasing_lists n r) ≡ cond (is_decreasing n r l) 1 0
counted_lists n zero [] = refl
counted_lists n zero (k ∷ l) = refl
counted_lists zero (suc r) [] = refl
counted_lists zero (suc r) (k ∷ l) =
    elim (cases_lt 0 k) [
      | inl some ↦ ap {B = ℕ} (λ b. cond b 1 0) (sym (first_over 0 k (is_decreasing (k - 1) r l) some))
      | inr none ↦ ap {B = ℕ} (λ b. cond b 1 0) (sym (first_none 0 k (is_decreasing (k - 1) r l) none))
    ]
counted_lists (suc n) (suc r) [] =
    sum_by-append (λ k. cond (same_list [] k) 1 0) (map (λ l. suc n ∷ l) (decreasing_lists n r)) (decreasing_lists n (suc r))
    ∙ (λ i. behind_none (suc n) (decreasing_lists n r) i + counted_lists n (suc r) [] i)
counted_lists (suc n) (suc r) (k ∷ l) =
    let split = sum_by-append (λ t. cond (same_list (k ∷ l) t) 1 0) (map (λ l. suc n ∷ l) (decreasing_lists n r)) (decreasing_lists n (suc r)) in
    let rest : Bool = is_decreasing (k - 1) r l in
    elim (cases_eq k (suc n)) [
      | inl same ↦
          let down : k - 1 ≡ n = omega arith in
          let none : count_by (same_list (k ∷ l)) (decreasing_lists n (suc r)) ≡ 0 = counted_lists n (suc r) (k ∷ l)
          ∙ ap {B = ℕ} (λ b. cond b 1 0) (first_over n k rest (omega arith)) in
          let some : count_by (same_list l) (decreasing_lists n r) ≡ cond rest 1 0 = counted_lists n r l
          ∙ ap (λ j. cond (is_decreasing j r l) 1 0) (sym down) in
          let front = behind_same k (suc n) l (decreasing_lists n r) same in
          omega (arith, split, front, none, some, ap {B = ℕ} (λ b. cond b 1 0) (first_same n k rest same))
      | inr other ↦
          let back : count_by (same_list (k ∷ l)) (decreasing_lists n (suc r)) ≡ cond (nat_lt 0 k && nat_le k (suc n) && rest) 1 0 = counted_lists n (suc r) (k ∷ l) ∙ ap {B = ℕ} (λ b. cond b 1 0) (first_other n k rest other) in
          let front = behind_other k (suc n) l (decreasing_lists n r) other in
          omega (arith, split, front, back)
    ]
