-- Lists in a strict order: put together, made of any list, and searched by halves.
use Rattle.std.proofs.Common.{◌≡◌, ℕ, ◌<◌, ◌≤◌, ◌⊎◌, ◌↔◌, inl, inr, Some, List, [], ◌∷◌, ◌++◌, length, get_or, slice_get, refl, sym, ap, subst, ◌∙◌, arith}
use Rattle.std.specs.List.{AllByRecursion, Contains, HoldsAt}
use Rattle.std.specs.List.Sorted.{IsStrictlySortedBy, IsNonDecreasingBy, IsPartitionPoint}
use Rattle.std.specs.declared.cmp.Ordering.{Ordering}
use Rattle.std.specs.declared.cmp.Ordering.TheVariants.{Less, Equal, Greater}
use Rattle.std.specs.Ordering.{ordering_index, ordering_reverse}
use Rattle.std.specs.Cmp.{IsTotalOrder, tied_itself}
use Rattle.std.specs.FinMap.{IsAntisymmetric}
use Rattle.std.proofs.lemmas.Bool.{cases_order, cases_lt}
use Rattle.std.proofs.lemmas.List.Elements.{Contains-append_cases}
use Rattle.std.proofs.lemmas.Map.Keys.{sorted_tail, Less-from_sorted}
use Rattle.std.proofs.lemmas.Option.{slice_get-get_or, slice_get_within, get_or_from_slice_get}
use Rattle.column_order.proofs.Distinct.{none_contained, Contains-head, Contains-tail, Contains_cases, after_head}

all_contained : {A : Type 0} (P : A → Type 0) (xs : List A) → ((z : A) → Contains xs z → P z) → AllByRecursion P xs
all_contained P [] f = tt
all_contained P (x ∷ xs) f = (f x (Contains-head x xs), all_contained P xs (λ z c. f z (Contains-tail x xs z c)))

module _ {A : Type 0} (R : A → A → Ordering) where
  pub sorted-cons : (x : A) (xs : List A) → ((z : A) → Contains xs z → R x z ≡ Less) → IsStrictlySortedBy R xs → IsStrictlySortedBy R (x ∷ xs)
  unfolding IsStrictlySortedBy
  sorted-cons x xs f s = (all_contained (λ y. R x y ≡ Less) xs f, s)

  pub sorted-nothing : IsStrictlySortedBy R []
  unfolding IsStrictlySortedBy
  sorted-nothing = tt

  pub sorted-alone : (x : A) → IsStrictlySortedBy R (x ∷ [])
  sorted-alone x = sorted-cons x [] (λ z c. absurd (none_contained z c)) sorted-nothing

  -- each of the first is before each of the others
  pub sorted-append : (xs ys : List A) → IsStrictlySortedBy R xs → IsStrictlySortedBy R ys → ((x y : A) → Contains xs x → Contains ys y → R x y ≡ Less)
      → IsStrictlySortedBy R (xs ++ ys)
  sorted-append [] ys s t f = t
  sorted-append (x ∷ xs) ys s t f =
      sorted-cons x (xs ++ ys)
      (λ z c. elim (Contains-append_cases xs ys z c) [ inl p ↦ after_head R x xs z s p | inr q ↦ f x z (Contains-head x xs) q ])
      (sorted-append xs ys (sorted_tail R x xs s) t (λ a b p q. f a b (Contains-tail x xs a p) q))

  -- an element stands at one place
  pub one_index : ((x : A) → ¬ (R x x ≡ Less)) → (xs : List A) (i j : ℕ) (x : A) → IsStrictlySortedBy R xs → slice_get xs i ≡ Some x
      → slice_get xs j ≡ Some x → j ≡ i
  one_index apart xs i j x s a b =
      let at : (k : ℕ) → slice_get xs k ≡ Some x → get_or xs k x ≡ x = λ k e. get_or_from_slice_get xs k x x e in
      elim (cases_order i j) [
        | inl e ↦ sym e
        | inr r ↦ elim r [
          | inl h ↦ absurd (apart x (sym (λ t. R (at i a t) (at j b t)) ∙ Less-from_sorted R xs i j x s h (slice_get_within xs j x b)))
          | inr h ↦ absurd (apart x (sym (λ t. R (at j b t) (at i a t)) ∙ Less-from_sorted R xs j i x s h (slice_get_within xs i x a)))
        ]
      ]

-- a strict order in which no two differ and tie
module _ {A : Type 0} (R : A → A → Ordering) (o : IsTotalOrder R) (same : IsAntisymmetric R) where
  abbrev Holds : List A → (A → Type 0) → Type 0
  Holds zs P = (z : A) → Contains zs z ↔ P z

  abbrev Inserted : A → List A → Type 0
  Inserted x ys = (zs : List A) × IsStrictlySortedBy R zs × Holds zs (λ z. (x ≡ z) ⊎ Contains ys z)

  inserted : (x : A) (ys : List A) → IsStrictlySortedBy R ys → Inserted x ys
  inserted x [] s = (
    x ∷ [],
    sorted-alone R x,
    λ z. (
      λ c. Contains_cases x [] z c,
      λ e. elim e [
        | inl p ↦ subst (Contains (x ∷ [])) p (Contains-head x [])
        | inr q ↦ absurd (none_contained z q)
      ],
    ),
  )
  inserted x (y ∷ ys) s = go (inserted x ys (sorted_tail R y ys s)) (R x y) refl
    where
      go : Inserted x ys → (r : Ordering) → R x y ≡ r → Inserted x (y ∷ ys)
      go again Less e = (
        x ∷ y ∷ ys,
        sorted-cons R x (y ∷ ys) (λ z c. elim (Contains_cases y ys z c) [
          | inl p ↦ subst (λ t. R x t ≡ Less) p e
          | inr q ↦ o.trans x y z e (after_head R y ys z s q)
        ]) s,
        λ z. (
          λ c. Contains_cases x (y ∷ ys) z c,
          λ d. elim d [
            | inl p ↦ subst (Contains (x ∷ y ∷ ys)) p (Contains-head x (y ∷ ys))
            | inr q ↦ Contains-tail x (y ∷ ys) z q
          ],
        ),
      )
      go again Equal e = (
        y ∷ ys,
        s,
        λ z. (λ c. inr c, λ d. elim d [ inl p ↦ subst (Contains (y ∷ ys)) (sym (same x y e) ∙ p) (Contains-head y ys) | inr q ↦ q ]),
      )
      go again Greater e =
          let less : R y x ≡ Less = o.antisymm y x ∙ ap ordering_reverse e in
          let holds : Holds again.0 (λ z. (x ≡ z) ⊎ Contains ys z) = again.2 in (
            y ∷ again.0,
            sorted-cons R y again.0 (λ z c. elim ((holds z).0 c) [ inl p ↦ subst (λ t. R y t ≡ Less) p less | inr q ↦ after_head R y ys z s q ]) again.1,
            λ z. (
              λ c. elim (Contains_cases y again.0 z c) [
                | inl p ↦ inr (subst (Contains (y ∷ ys)) p (Contains-head y ys))
                | inr q ↦ elim ((holds z).0 q) [ inl p ↦ inl p | inr r ↦ inr (Contains-tail y ys z r) ]
              ],
              λ d. elim d [
                | inl p ↦ Contains-tail y again.0 z ((holds z).1 (inl p))
                | inr c ↦ elim (Contains_cases y ys z c) [
                  | inl p ↦ subst (Contains (y ∷ again.0)) p (Contains-head y again.0)
                  | inr q ↦ Contains-tail y again.0 z ((holds z).1 (inr q))
                ]
              ],
            ),
          )

  -- each list has its elements in a list that is in order
  pub sorted_list : (xs : List A) → (zs : List A) × IsStrictlySortedBy R zs × ((z : A) → Contains zs z ↔ Contains xs z)
  sorted_list [] = ([], sorted-nothing R, λ z. (λ c. c, λ c. c))
  sorted_list (x ∷ xs) =
      let rest : (zs : List A) × IsStrictlySortedBy R zs × ((z : A) → Contains zs z ↔ Contains xs z) = sorted_list xs in
      let all : Inserted x rest.0 = inserted x rest.0 rest.1 in (
        all.0,
        all.1,
        λ z. (
          λ c. elim ((all.2 z).0 c) [
            | inl p ↦ subst (Contains (x ∷ xs)) p (Contains-head x xs)
            | inr q ↦ Contains-tail x xs z ((rest.2 z).0 q)
          ],
          λ c. elim (Contains_cases x xs z c) [
            | inl p ↦ (all.2 z).1 (inl p)
            | inr q ↦ (all.2 z).1 (inr ((rest.2 z).1 q))
          ],
        ),
      )

  index-le : (r s : Ordering) → r ≡ Less → ordering_index r ≤ ordering_index s
  index-le r Less e = rw e (omega arith)
  index-le r Equal e = rw e (omega arith)
  index-le r Greater e = rw e (omega arith)

  index-greater : (r s : Ordering) → s ≡ Greater → ordering_index r ≤ ordering_index s
  index-greater Less s e = rw e (omega arith)
  index-greater Equal s e = rw e (omega arith)
  index-greater Greater s e = rw e (omega arith)

  before_not_behind : (x y w : A) → R x y ≡ Less → ordering_index (R x w) ≤ ordering_index (R y w)
  before_not_behind x y w h = go (R y w) refl
    where
      go : (s : Ordering) → R y w ≡ s → ordering_index (R x w) ≤ ordering_index (R y w)
      go Less e = index-le (R x w) (R y w) (o.trans x y w h e)
      go Equal e = index-le (R x w) (R y w) (subst (λ t. R x t ≡ Less) (same y w e) h)
      go Greater e = index-greater (R x w) (R y w) e

  -- the comparisons with w do not fall along a list that is in order
  pub rises : (xs : List A) (w : A) → IsStrictlySortedBy R xs → IsNonDecreasingBy (λ y. ordering_index (R y w)) xs
  rises xs w s = λ i j d h k. elim (cases_lt i j) [
    | inl l ↦ before_not_behind (get_or xs i d) (get_or xs j d) w (Less-from_sorted R xs i j d s l k)
    | inr g ↦ let e : i ≡ j = omega arith in omega (arith, ap (λ t. ordering_index (R (get_or xs t d) w)) e)
  ]

  -- where w would stand and does not, it is nowhere
  pub absent : (xs : List A) (w : A) (i : ℕ) → IsPartitionPoint (λ y. R y w ≡ Less) (λ y. R y w ≡ Greater) xs i → ¬ (Contains xs w)
  absent xs w i h c =
      let tied : R (get_or xs c.0 w) w ≡ Equal = ap (λ t. R t w) c.2 ∙ tied_itself o w in
      elim (cases_lt c.0 i) [
        | inl l ↦ let r : R (get_or xs c.0 w) w ≡ Less = h.0 c.0 w (omega arith) l in let no : Equal ≡ Less = sym tied ∙ r in cc
        | inr g ↦ let r : R (get_or xs c.0 w) w ≡ Greater = h.1 c.0 w g c.1 in let no : Equal ≡ Greater = sym tied ∙ r in cc
      ]

  pub found_at : (xs : List A) (w : A) (i : ℕ) → i < length xs → HoldsAt (λ y. R y w ≡ Equal) xs i → slice_get xs i ≡ Some w
  found_at xs w i h e = slice_get-get_or xs i w h ∙ ap Some (same (get_or xs i w) w (e w))
