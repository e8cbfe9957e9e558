-- Lists without repeats: those with the same elements have the same length.
use Rattle.std.proofs.Common.{◌≡◌, ℕ, ◌<◌, ◌≤◌, zero, suc, ◌⊎◌, inl, inr, List, [], ◌∷◌, ◌++◌, length, map, get_or, refl, sym, ap, subst, ◌∙◌, arith, length-append}
use Rattle.std.specs.declared.cmp.Ordering.{Ordering}
use Rattle.std.specs.declared.cmp.Ordering.TheVariants.{Less}
use Rattle.std.specs.List.{Contains}
use Rattle.std.specs.List.Sorted.{IsStrictlySortedBy}
use Rattle.std.proofs.lemmas.List.Elements.{Contains-get_or, Contains-append_left, Contains-append_right, Contains-append_cases, Contains-push, Contains-push_cases, All-contains, All-from_recursion}
use Rattle.std.proofs.lemmas.Map.Keys.{sorted_head, sorted_tail}

abbrev pub AllDistinct : {A : Type 0} → List A → Type 0
AllDistinct [] = Unit {0}
AllDistinct (x ∷ xs) = ¬ (Contains xs x) × AllDistinct xs

pub none_contained : {A : Type 0} (x : A) → Contains [] x → ⊥
none_contained x c = let k : c.0 < 0 = c.1 in absurd (omega arith)

pub Contains-head : {A : Type 0} (x : A) (xs : List A) → Contains (x ∷ xs) x
Contains-head x xs = Contains-append_left (x ∷ []) xs x (Contains-push [] x)

pub Contains-tail : {A : Type 0} (y : A) (xs : List A) (x : A) → Contains xs x → Contains (y ∷ xs) x
Contains-tail y xs x c = Contains-append_right (y ∷ []) xs x c

pub Contains_cases : {A : Type 0} (y : A) (xs : List A) (x : A) → Contains (y ∷ xs) x → (y ≡ x) ⊎ Contains xs x
Contains_cases y xs x c = elim (Contains-append_cases (y ∷ []) xs x c) [
  | inl p ↦ elim (Contains-push_cases [] y x p) [ inl n ↦ absurd (none_contained x n) | inr e ↦ inl e ]
  | inr q ↦ inr q
]

-- where x stands in the list
record Occurrence {A : Type 0} (xs : List A) (x : A) : Type 0 where
  front : List A
  back : List A
  is : xs ≡ front ++ x ∷ back

occurrence : {A : Type 0} (xs : List A) (x : A) → Contains xs x → Occurrence xs x
occurrence [] x c = absurd (none_contained x c)
occurrence (y ∷ xs) x c = elim (Contains_cases y xs x c) [
  | inl e ↦ record { front = []; back = xs; is = λ i. e i ∷ xs }
  | inr q ↦ let s : Occurrence xs x = occurrence xs x q in record { front = y ∷ s.front; back = s.back; is = λ i. y ∷ s.is i }
]

without : {A : Type 0} (front back : List A) (x z : A) → Contains (front ++ x ∷ back) z → ¬ (x ≡ z) → Contains (front ++ back) z
without front back x z c n = elim (Contains-append_cases front (x ∷ back) z c) [
  | inl p ↦ Contains-append_left front back z p
  | inr q ↦ elim (Contains_cases x back z q) [ inl e ↦ absurd (n e) | inr r ↦ Contains-append_right front back z r ]
]

within : {A : Type 0} (front back : List A) (x z : A) → Contains (front ++ back) z → Contains (front ++ x ∷ back) z
within front back x z c = elim (Contains-append_cases front back z c) [
  | inl p ↦ Contains-append_left front (x ∷ back) z p
  | inr q ↦ Contains-append_right front (x ∷ back) z (Contains-tail x back z q)
]

pub length-le_from_within : {A : Type 0} (xs ys : List A) → AllDistinct xs → ((z : A) → Contains xs z → Contains ys z) → length xs ≤ length ys
length-le_from_within [] ys d f = omega arith
length-le_from_within (x ∷ xs) ys d f =
    let s : Occurrence ys x = occurrence ys x (f x (Contains-head x xs)) in
    let rest : length xs ≤ length (s.front ++ s.back) =
    length-le_from_within xs (s.front ++ s.back) d.1
    (λ z c. without s.front s.back x z (subst (λ t. Contains t z) s.is (f z (Contains-tail x xs z c))) (λ e. d.0 (subst (Contains xs) (sym e) c))) in
    omega (arith, ap length s.is, length-append s.front (x ∷ s.back), length-append s.front s.back)

AllDistinct-without : {A : Type 0} (front back : List A) (x : A) → AllDistinct (front ++ x ∷ back) → AllDistinct (front ++ back)
AllDistinct-without [] back x d = d.1
AllDistinct-without (y ∷ front) back x d = (λ c. d.0 (within front back x y c), AllDistinct-without front back x d.1)

once : {A : Type 0} (front back : List A) (x : A) → AllDistinct (front ++ x ∷ back) → ¬ (Contains (front ++ back) x)
once [] back x d c = d.0 c
once (y ∷ front) back x d c = elim (Contains_cases y (front ++ back) x c) [
  | inl e ↦ d.0 (subst (Contains (front ++ x ∷ back)) (sym e) (Contains-append_right front (x ∷ back) x (Contains-head x back)))
  | inr q ↦ once front back x d.1 q
]

-- a list with the elements of one without repeats, and no longer
pub AllDistinct-from_same : {A : Type 0} (xs ys : List A) → AllDistinct ys → length xs ≤ length ys → ((z : A) → Contains xs z → Contains ys z)
    → ((z : A) → Contains ys z → Contains xs z) → AllDistinct xs
AllDistinct-from_same [] ys d h f g = tt
AllDistinct-from_same (x ∷ xs) ys d h f g =
    let fresh : ¬ (Contains xs x) = λ c. absurd
    (omega (arith, length-le_from_within ys xs d (λ z p. elim (Contains_cases x xs z (g z p)) [ inl e ↦ subst (Contains xs) e c | inr q ↦ q ]))) in
    let s : Occurrence ys x = occurrence ys x (f x (Contains-head x xs)) in
    let there : AllDistinct (s.front ++ x ∷ s.back) = subst AllDistinct s.is d in (
      fresh,
      AllDistinct-from_same xs (s.front ++ s.back) (AllDistinct-without s.front s.back x there)
          (omega (arith, ap length s.is, length-append s.front (x ∷ s.back), length-append s.front s.back))
          (λ z c. without s.front s.back x z (subst (λ t. Contains t z) s.is (f z (Contains-tail x xs z c))) (λ e. fresh (subst (Contains xs) (sym e) c)))
          (λ z c. elim (Contains_cases x xs z (g z (subst (λ t. Contains t z) (sym s.is) (within s.front s.back x z c)))) [
            | inl e ↦ absurd
                (once s.front s.back x there (subst (Contains (s.front ++ s.back)) (sym e) c))
            | inr q ↦ q
          ]),
    )

pub Contains-map : {A B : Type 0} (f : A → B) (xs : List A) (x : A) → Contains xs x → Contains (map f xs) (f x)
Contains-map f [] x c = absurd (none_contained x c)
Contains-map f (y ∷ xs) x c = elim (Contains_cases y xs x c) [
  | inl e ↦ subst (Contains (f y ∷ map f xs)) (ap f e) (Contains-head (f y) (map f xs))
  | inr q ↦ Contains-tail (f y) (map f xs) (f x) (Contains-map f xs x q)
]

pub Contains-from_map : {A B : Type 0} (f : A → B) (xs : List A) (y : B) → Contains (map f xs) y → (x : A) × Contains xs x × (f x ≡ y)
Contains-from_map f [] y c = absurd (none_contained y c)
Contains-from_map {A = A} f (x ∷ xs) y c = elim (Contains_cases (f x) (map f xs) y c) [
  | inl e ↦ (x, Contains-head x xs, e)
  | inr q ↦ let r : (z : A) × Contains xs z × (f z ≡ y) = Contains-from_map f xs y q in (r.0, Contains-tail x xs r.0 r.1, r.2)
]

pub AllDistinct-from_map : {A B : Type 0} (f : A → B) (xs : List A) → AllDistinct (map f xs) → AllDistinct xs
AllDistinct-from_map f [] d = tt
AllDistinct-from_map f (x ∷ xs) d = (λ c. d.0 (Contains-map f xs x c), AllDistinct-from_map f xs d.1)

-- a function that tells the elements apart
pub AllDistinct-map : {A B : Type 0} (f : A → B) (xs : List A) → ((x y : A) → Contains xs x → Contains xs y → f x ≡ f y → x ≡ y) → AllDistinct xs
    → AllDistinct (map f xs)
AllDistinct-map f [] apart d = tt
AllDistinct-map {A = A} f (x ∷ xs) apart d = (
  λ c. let r : (z : A) × Contains xs z × (f z ≡ f x) = Contains-from_map f xs (f x) c in
      d.0 (subst (Contains xs) (apart r.0 x (Contains-tail x xs r.0 r.1) (Contains-head x xs) r.2) r.1),
  AllDistinct-map f xs (λ y z p q. apart y z (Contains-tail x xs y p) (Contains-tail x xs z q)) d.1,
)

pub AllDistinct-apart : {A : Type 0} (xs : List A) (i j : ℕ) (d : A) → AllDistinct xs → i < j → j < length xs → ¬ (get_or xs i d ≡ get_or xs j d)
AllDistinct-apart [] i j d a h k e = absurd (omega arith)
AllDistinct-apart (x ∷ xs) i zero d a h k e = absurd (omega arith)
AllDistinct-apart (x ∷ xs) zero (suc j) d a h k e = a.0 (subst (Contains xs) (sym e) (Contains-get_or xs j d (omega arith)))
AllDistinct-apart (x ∷ xs) (suc i) (suc j) d a h k e = AllDistinct-apart xs i j d a.1 (omega arith) (omega arith) e

pub AllDistinct-from_sorted : {A : Type 0} (R : A → A → Ordering) → ((x : A) → ¬ (R x x ≡ Less)) → (xs : List A) → IsStrictlySortedBy R xs → AllDistinct xs
AllDistinct-from_sorted R n [] s = tt
AllDistinct-from_sorted R n (x ∷ xs) s = (
  λ c. n x (All-contains (λ y. R x y ≡ Less) xs x (All-from_recursion (λ y. R x y ≡ Less) xs (sorted_head R x xs s)) c),
  AllDistinct-from_sorted R n xs (sorted_tail R x xs s),
)

pub after_head : {A : Type 0} (R : A → A → Ordering) (x : A) (xs : List A) (z : A) → IsStrictlySortedBy R (x ∷ xs) → Contains xs z → R x z ≡ Less
after_head R x xs z s c = All-contains (λ y. R x y ≡ Less) xs z (All-from_recursion (λ y. R x y ≡ Less) xs (sorted_head R x xs s)) c

-- two lists in one order with the same elements are one
pub same_sorted : {A : Type 0} (R : A → A → Ordering) → ((x : A) → ¬ (R x x ≡ Less)) → ((x y z : A) → R x y ≡ Less → R y z ≡ Less → R x z ≡ Less)
    → (xs ys : List A) → IsStrictlySortedBy R xs → IsStrictlySortedBy R ys → ((z : A) → Contains xs z → Contains ys z)
    → ((z : A) → Contains ys z → Contains xs z) → xs ≡ ys
same_sorted R n t [] [] s u f g = refl
same_sorted R n t [] (y ∷ ys) s u f g = absurd (none_contained y (g y (Contains-head y ys)))
same_sorted R n t (x ∷ xs) [] s u f g = absurd (none_contained x (f x (Contains-head x xs)))
same_sorted R n t (x ∷ xs) (y ∷ ys) s u f g =
    let head : x ≡ y = elim (Contains_cases y ys x (f x (Contains-head x xs))) [
      | inl e ↦ sym e
      | inr p ↦ elim (Contains_cases x xs y (g y (Contains-head y ys))) [
        | inl e ↦ e
        | inr q ↦ absurd
            (n x (t x y x (after_head R x xs y s q) (after_head R y ys x u p)))
      ]
    ] in
    let rest : xs ≡ ys = same_sorted R n t xs ys (sorted_tail R x xs s) (sorted_tail R y ys u)
    (λ z c. elim (Contains_cases y ys z (f z (Contains-tail x xs z c))) [
      | inl e ↦ absurd
          (n z (subst (λ k. R k z ≡ Less) (head ∙ e) (after_head R x xs z s c)))
      | inr q ↦ q
    ])
    (λ z c. elim (Contains_cases x xs z (g z (Contains-tail y ys z c))) [
      | inl e ↦ absurd
          (n z (subst (λ k. R k z ≡ Less) (sym head ∙ e) (after_head R y ys z u c)))
      | inr q ↦ q
    ]) in
    λ i. head i ∷ rest i
