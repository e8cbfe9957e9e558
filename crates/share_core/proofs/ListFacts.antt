-- Facts of indices that are counted or granted.
use Rattle.std.proofs.Common.{◌≡◌, ℕ, ◌+◌, ◌≤◌, ◌<◌, ◌⊎◌, Bool, true, false, not, cond, eqb, List, [], ◌∷◌, ◌++◌, length, get_or, refl, sym}
use Rattle.std.proofs.Common.{subst, inl, inr, arith, Contains, All, AllPairs, filter, count_by, map, IsTrue}
use Rattle.std.specs.Prelude.{◌≢◌, ◌↔◌}
use Rattle.std.proofs.lemmas.Bool.{eqb-true}
use Rattle.std.proofs.lemmas.Bool.Decides.{Decides-eqb}
use Rattle.std.proofs.lemmas.List.{get_or-map, length-map}
use Rattle.std.proofs.lemmas.List.Elements.{Contains-append_left, Contains-push, Contains-push_cases, All-contains, All-map}
use Rattle.std.proofs.lemmas.List.Folds.{Any-from_list_any}
use Rattle.std.proofs.lemmas.List.Sums.{sum_by-cons}
use Rattle.std.proofs.lemmas.Map.Made.{IsDistinct-from_AllPairs}
use Rattle.std.proofs.lemmas.Map.Steps.{length-le_from_distinct_below}
use Rattle.share_model.specs.Checked.{Checked}
use Rattle.share_merge.specs.Turns.{HasIndex}
use Rattle.share_core.specs.Lists.{Lists, IsGranted, IsFree}

-- pairs of elements of a list give pairs of what a function makes of them
pub AllPairs-map : {X Y : Type 0} (R : Y → Y → Type 0) (f : X → Y) (xs : List X) → AllPairs (λ a b. R (f a) (f b)) xs → AllPairs R (map f xs)
AllPairs-map R f [] all i j d before inside = absurd (omega (arith, inside))
AllPairs-map R f (x ∷ xs) all i j d before inside =
    let inside_first : j < length (x ∷ xs) = subst (λ n. j < n) (length-map (x ∷ xs) f) inside in
    let at_j = get_or-map f (x ∷ xs) j x d inside_first in
    let at_i = get_or-map f (x ∷ xs) i x d (omega (arith, before, inside_first)) in
    subst (λ b. R (get_or (map f (x ∷ xs)) i d) b) (sym at_j) (subst (λ a. R a (f (get_or (x ∷ xs) j x))) (sym at_i) (all i j x before inside_first))

-- numbers below n with no two equal are at most n
pub length-granted : (n : ℕ) (granted : List (ℕ × ℕ)) → All (λ g. g.0 < n) granted → AllPairs (λ g h. g.0 ≢ h.0) granted → length granted ≤ n
length-granted n granted below apart =
    let firsts : List ℕ = map (λ (g : ℕ × ℕ). g.0) granted in
    let all : All (λ k. k < n) firsts = All-map (λ k. k < n) (λ (g : ℕ × ℕ). g.0) granted below in
    let few = length-le_from_distinct_below firsts n
    (IsDistinct-from_AllPairs (λ a b. Decides-eqb a b) firsts (AllPairs-map (λ a b. a ≢ b) (λ (g : ℕ × ℕ). g.0) granted apart))
    (λ q some. let found = Any-from_list_any (eqb q) firsts some in
    subst (λ k. k < n) (sym (eqb-true q found.1 found.4)) (All-contains (λ k. k < n) firsts found.1 all (found.0, found.2, found.3))) in
    subst (λ k. k ≤ n) (length-map granted (λ (g : ℕ × ℕ). g.0)) few

without_cons : {X : Type 0} (p : X → Bool) (x : X) (xs : List X) (b : Bool) → length (filter (λ y. not (p y)) xs) + count_by p xs ≡ length xs
    → length (cond (not b) (x ∷ filter (λ y. not (p y)) xs) (filter (λ y. not (p y)) xs)) + (cond b 1 0 + count_by p xs) ≡ length (x ∷ xs)
without_cons p x xs true e = omega (arith, e)
without_cons p x xs false e = omega (arith, e)

-- what fails a test and what passes it make up the list
pub length-without : {X : Type 0} (p : X → Bool) (xs : List X) → length (filter (λ x. not (p x)) xs) + count_by p xs ≡ length xs
length-without p [] = refl
length-without p (x ∷ xs) = subst (λ n. length (filter (λ y. not (p y)) (x ∷ xs)) + n ≡ length (x ∷ xs)) (sym (sum_by-cons (λ y. cond (p y) 1 0) x xs))
    (without_cons p x xs (p x) (length-without p xs))

module _ {R E : Type 0} where
  index_found : (list : List (Checked R E)) (c : Checked R E) (i : ℕ) → Contains list c → c.id.index ≡ i → HasIndex list i
  index_found list c i there is = (there.0, c, there.1, there.2, is)

  -- the index of a share that is put last
  pub HasIndex-push : (list : List (Checked R E)) (c : Checked R E) → HasIndex (list ++ c ∷ []) c.id.index
  HasIndex-push list c = index_found (list ++ c ∷ []) c c.id.index (Contains-push list c) refl

  -- shares that are put behind leave what was there
  pub HasIndex-more : (list : List (Checked R E)) (c : Checked R E) (i : ℕ) → HasIndex list i → HasIndex (list ++ c ∷ []) i
  HasIndex-more list c i (k, d, inside, at, is) =
      index_found (list ++ c ∷ []) d i (Contains-append_left list (c ∷ []) d (k, inside, at)) is

  -- an index is found in front of the last share, or is that of the last share
  pub HasIndex-cases : (list : List (Checked R E)) (c : Checked R E) (i : ℕ) → HasIndex (list ++ c ∷ []) i → HasIndex list i ⊎ (c.id.index ≡ i)
  HasIndex-cases list c i (k, d, inside, at, is) =
      elim (Contains-push_cases list c d (k, inside, at)) [
        | inl there ↦ inl (index_found list d i there is)
        | inr last ↦ inr (subst (λ (e : Checked R E). e.id.index ≡ i) (sym last) is)
      ]

  -- whether an index is free, where it is not counted
  pub free_if_not_granted : (lists : Lists R E) (i : ℕ) (counted granted : Bool) → counted ≡ false → (IsTrue counted ↔ HasIndex lists.counted i)
      → (IsTrue granted ↔ IsGranted lists.granted i) → IsTrue (not granted) ↔ IsFree lists i
  free_if_not_granted lists i is_counted true none c g = (λ e. absurd (cc e), λ free. absurd (free.not_granted (g.0 refl)))
  free_if_not_granted lists i is_counted false none c g = (
    λ e. record {
      not_counted = λ h. let found = c.1 h in absurd (cc (found, none));
      not_granted = λ h. let found = g.1 h in absurd (cc found);
    },
    λ free. refl,
  )

  -- an index that is counted is not free
  pub not_free_if_counted : (lists : Lists R E) (i : ℕ) (counted : Bool) → counted ≡ true → (IsTrue counted ↔ HasIndex lists.counted i)
      → IsTrue (not counted) ↔ IsFree lists i
  not_free_if_counted lists i true found c = (λ e. absurd (cc e), λ free. absurd (free.not_counted (c.0 refl)))
  not_free_if_counted lists i false found c = absurd (cc found)

  pub same_lists : {a b : List (Checked R E)} {x y : List (ℕ × ℕ)} → a ≡ b → x ≡ y
      → (let one : Lists R E = record { counted = a; granted = x } in one) ≡ record { counted = b; granted = y }
  same_lists counted granted = λ i. record { counted = counted i; granted = granted i }
