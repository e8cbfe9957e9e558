-- The list of the admissible words of a weight up to a depth: it is whole, increases, and has the length of a binomial sum.
use Rattle.std.proofs.Common.{◌≡◌, ℕ, zero, suc, ◌+◌, ◌-◌, ◌≤◌, ◌<◌, inl, inr, nat_le, Bool, true, false, cond, List, [], ◌∷◌, ◌++◌, length, map, filter, Contains, Less, refl, sym, ap, subst, ◌∙◌, arith}
use Rattle.std.specs.Prelude.{nat_eq, ◌↔◌}
use Rattle.std.specs.List.{count_by, AllByRecursion}
use Rattle.std.specs.List.Sorted.{IsStrictlySortedBy}
use Rattle.std.proofs.lemmas.Bool.Decides.{nat_tests}
use Rattle.std.proofs.lemmas.List.Elements.{Contains-append_left, Contains-append_right, Contains-append_cases, Contains-push}
use Rattle.std.proofs.lemmas.List.Kept.{IsStrictlySortedBy-filter}
use Rattle.std.proofs.lemmas.List.Recursion.{is_count_by}
use Rattle.zeta_model.specs.declared.Letter.{Letter}
use Rattle.zeta_model.specs.declared.Letter.TheVariants.{X, Y}
use Rattle.zeta_model.specs.Words.{word_cmp, depth_of, ends_with_y, is_admissible}
use Rattle.zeta_model.specs.Product.{total}
use Rattle.zeta_model.specs.WordLists.{all_words, admissible_words, admissible_within, binomial, binomial_sum}
use Rattle.zeta_model.proofs.DepthLemmas.{depth_of-x, depth_of-y, depth_of-some, admissible-deep}
use Rattle.zeta_model.proofs.ListLemmas.{From, none_contained, contains_cases, contains-map, from-map, contains-filter, from-filter}
use Rattle.zeta_model.proofs.Totals.{total-append, total-map, total-plus, total-zero}

abbrev Word : Type 0
Word = List Letter

-- the words of a weight and nothing else
held : (w : Word) → Contains (all_words (length w)) w
unfolding all_words
held [] = Contains-push [] []
held (X ∷ w) = Contains-append_left (map (λ t. X ∷ t) (all_words (length w))) (map (λ t. Y ∷ t) (all_words (length w))) (X ∷ w)
    (contains-map (λ t. X ∷ t) (all_words (length w)) w (held w))
held (Y ∷ w) = Contains-append_right (map (λ t. X ∷ t) (all_words (length w))) (map (λ t. Y ∷ t) (all_words (length w))) (Y ∷ w)
    (contains-map (λ t. Y ∷ t) (all_words (length w)) w (held w))

found : (k : ℕ) (w : Word) → Contains (all_words k) w → length w ≡ k
unfolding all_words
found zero w c = elim (contains_cases [] w [] c) [ inl e ↦ ap length (sym e) | inr n ↦ absurd (none_contained w n) ]
found (suc k) w c = elim (Contains-append_cases (map (λ t. X ∷ t) (all_words k)) (map (λ t. Y ∷ t) (all_words k)) w c) [
  | inl p ↦ let r : From (λ t. X ∷ t) (all_words k) w = from-map (λ t. X ∷ t) (all_words k) w p in
      ap length (sym r.gives) ∙ ap suc (found k r.origin r.held)
  | inr p ↦ let r : From (λ t. Y ∷ t) (all_words k) w = from-map (λ t. Y ∷ t) (all_words k) w p in
      ap length (sym r.gives) ∙ ap suc (found k r.origin r.held)
]

le_test : (m n : ℕ) → m ≤ n → nat_le m n ≡ true
le_test m n h = grind (arith, nat_tests)

le_tells : (m n : ℕ) → nat_le m n ≡ true → m ≤ n
le_tells m n h = grind (arith, nat_tests)

pub admissible_within-whole : (k d : ℕ) (w : Word) → Contains (admissible_within k d) w ↔ ((is_admissible w ≡ true) × (length w ≡ k) × (depth_of w ≤ d))
unfolding admissible_within
admissible_within-whole k d w = (forth, back)
  where
    forth : Contains (filter (λ w. nat_le (depth_of w) d) (admissible_words k)) w → (is_admissible w ≡ true) × (length w ≡ k) × (depth_of w ≤ d)
    forth c =
        let r = from-filter (λ w. nat_le (depth_of w) d) (admissible_words k) w c in
        let s = from-filter is_admissible (all_words k) w r.0 in
        (s.1, found k w s.0, le_tells (depth_of w) d r.1)

    back : (is_admissible w ≡ true) × (length w ≡ k) × (depth_of w ≤ d) → Contains (filter (λ w. nat_le (depth_of w) d) (admissible_words k)) w
    back h = contains-filter (λ w. nat_le (depth_of w) d) (admissible_words k) w
        (contains-filter is_admissible (all_words k) w (subst (λ n. Contains (all_words n) w) h.1 (held w)) h.0) (le_test (depth_of w) d h.2)

-- the words increase
all-append : (P : Word → Type 0) (us vs : List Word) → AllByRecursion P us → AllByRecursion P vs → AllByRecursion P (us ++ vs)
all-append P [] vs h g = g
all-append P (u ∷ us) vs h g = (h.0, all-append P us vs h.1 g)

all_behind : (a : Letter) (u : Word) (ws : List Word) → AllByRecursion (λ v. word_cmp u v ≡ Less) ws
    → AllByRecursion (λ v. word_cmp (a ∷ u) v ≡ Less) (map (λ t. a ∷ t) ws)
all_behind a u [] h = tt
all_behind X u (w ∷ ws) h = (h.0, all_behind X u ws h.1)
all_behind Y u (w ∷ ws) h = (h.0, all_behind Y u ws h.1)

x_below : (u : Word) (ws : List Word) → AllByRecursion (λ v. word_cmp (X ∷ u) v ≡ Less) (map (λ t. Y ∷ t) ws)
x_below u [] = tt
x_below u (w ∷ ws) = (refl, x_below u ws)

increases_behind : (a : Letter) (ws : List Word) → IsStrictlySortedBy word_cmp ws → IsStrictlySortedBy word_cmp (map (λ t. a ∷ t) ws)
unfolding IsStrictlySortedBy
increases_behind a [] h = tt
increases_behind a (w ∷ ws) h = (all_behind a w ws h.0, increases_behind a ws h.1)

increases_joined : (us vs : List Word) → IsStrictlySortedBy word_cmp us → IsStrictlySortedBy word_cmp vs
    → IsStrictlySortedBy word_cmp (map (λ t. X ∷ t) us ++ map (λ t. Y ∷ t) vs)
unfolding IsStrictlySortedBy
increases_joined [] vs h g = increases_behind Y vs g
increases_joined (u ∷ us) vs h g = (
  all-append (λ v. word_cmp (X ∷ u) v ≡ Less) (map (λ t. X ∷ t) us) (map (λ t. Y ∷ t) vs) (all_behind X u us h.0)
      (x_below u vs),
  increases_joined us vs h.1 g,
)

increases : (k : ℕ) → IsStrictlySortedBy word_cmp (all_words k)
unfolding all_words IsStrictlySortedBy
increases zero = (tt, tt)
increases (suc k) = increases_joined (all_words k) (all_words k) (increases k) (increases k)

pub admissible_within-increases : (k d : ℕ) → IsStrictlySortedBy word_cmp (admissible_within k d)
unfolding admissible_within
admissible_within-increases k d =
    IsStrictlySortedBy-filter word_cmp (λ w. nat_le (depth_of w) d) (admissible_words k)
    (IsStrictlySortedBy-filter word_cmp is_admissible (all_words k) (increases k))

-- how many words there are
count_by-total : (p : Word → Bool) (ws : List Word) → count_by p ws ≡ total (λ w. cond (p w) 1 0) ws
count_by-total p ws = sym (is_count_by (λ vs. total (λ w. cond (p w) 1 0) vs) p refl (λ w vs. step (p w) (total (λ w. cond (p w) 1 0) vs)) ws)
  where
    step : (b : Bool) (n : ℕ) → cond b 1 0 + n ≡ cond b (1 + n) n
    step true n = refl
    step false n = omega arith

length-filter : (p : Word → Bool) (ws : List Word) → length (filter p ws) ≡ total (λ w. cond (p w) 1 0) ws
length-filter p [] = refl
length-filter p (w ∷ ws) = elim (p w) as (λ b. length (cond b (w ∷ filter p ws) (filter p ws)) ≡ cond b 1 0 + total (λ w. cond (p w) 1 0) ws) [
  | true ↦ omega (arith, length-filter p ws)
  | false ↦ omega (arith, length-filter p ws)
]

total-filter : (f : Word → ℕ) (p : Word → Bool) (ws : List Word) → total f (filter p ws) ≡ total (λ w. cond (p w) (f w) 0) ws
total-filter f p [] = refl
total-filter f p (w ∷ ws) = elim (p w) as (λ b. total f (cond b (w ∷ filter p ws) (filter p ws)) ≡ cond b (f w) 0 + total (λ w. cond (p w) (f w) 0) ws) [
  | true ↦ ap (λ n. f w + n) (total-filter f p ws)
  | false ↦ omega (arith, total-filter f p ws)
]

total-cong : (f g : Word → ℕ) (ws : List Word) → ((w : Word) → f w ≡ g w) → total f ws ≡ total g ws
total-cong f g [] e = refl
total-cong f g (w ∷ ws) e = λ i. e w i + total-cong f g ws e i

total-letters : (f : Word → ℕ) (k : ℕ) → total f (all_words (suc k)) ≡ total (λ t. f (X ∷ t)) (all_words k) + total (λ t. f (Y ∷ t)) (all_words k)
unfolding all_words
total-letters f k = total-append f (map (λ t. X ∷ t) (all_words k)) (map (λ t. Y ∷ t) (all_words k))
    ∙ (λ i. total-map f (λ t. X ∷ t) (all_words k) i + total-map f (λ t. Y ∷ t) (all_words k) i)

-- two functions that agree behind each letter
total-longer : (f g : Word → ℕ) (k : ℕ) → ((a : Letter) (t : Word) → f (a ∷ t) ≡ g (a ∷ t)) → total f (all_words (suc k)) ≡ total g (all_words (suc k))
total-longer f g k e = total-letters f k
    ∙ (λ i. total-cong (λ t. f (X ∷ t)) (λ t. g (X ∷ t)) (all_words k) (e X) i + total-cong (λ t. f (Y ∷ t)) (λ t. g (Y ∷ t)) (all_words k) (e Y) i)
    ∙ sym (total-letters g k)

-- one at the words that end with y and have depth r
abbrev ends_at : ℕ → Word → ℕ
ends_at r t = cond (ends_with_y t) (cond (nat_eq (depth_of t) r) 1 0) 0

ends_at-x : (r : ℕ) (a : Letter) (t : Word) → ends_at r (X ∷ a ∷ t) ≡ ends_at r (a ∷ t)
ends_at-x r a t = ap (λ n. cond (ends_with_y (a ∷ t)) (cond (nat_eq n r) 1 0) 0) (depth_of-x (a ∷ t))

ends_at-y : (r : ℕ) (a : Letter) (t : Word) → ends_at (suc r) (Y ∷ a ∷ t) ≡ ends_at r (a ∷ t)
ends_at-y r a t = ap (λ n. cond (ends_with_y (a ∷ t)) (cond (nat_eq n (suc r)) 1 0) 0) (depth_of-y (a ∷ t))
    ∙ ap (λ b. cond (ends_with_y (a ∷ t)) (cond b 1 0) 0) (less (depth_of (a ∷ t)) r)
  where
    less : (m n : ℕ) → nat_eq (1 + m) (suc n) ≡ nat_eq m n
    less m n = grind (arith, nat_tests)

above_none : (n : ℕ) → 0 < n → nat_eq n 0 ≡ false
above_none n h = grind (arith, nat_tests)

ends_at-none : (t : Word) → ends_at 0 t ≡ 0
ends_at-none t = elim (ends_with_y t) as (λ b. ends_with_y t ≡ b → ◌≡◌ {A = ℕ} (cond b (cond (nat_eq (depth_of t) 0) 1 0) 0) 0) [
  | true ↦ λ e. ap (λ b. cond b 1 0) (above_none (depth_of t) (depth_of-some t e))
  | false ↦ λ e. refl
] refl

deeper : (r : ℕ) → nat_eq (depth_of (Y ∷ [])) (suc (suc r)) ≡ false
deeper r = grind (arith, nat_tests, depth_of-y [])

total-ends_at : (n r : ℕ) → total (ends_at (suc r)) (all_words (suc n)) ≡ binomial n r
unfolding all_words binomial
total-ends_at zero zero = refl
total-ends_at zero (suc r) = ap (λ b. 0 + (cond {A = ℕ} b 1 0 + 0)) (deeper r)
total-ends_at (suc n) zero =
    let xs : total (λ t. ends_at 1 (X ∷ t)) (all_words (suc n)) ≡ total (ends_at 1) (all_words (suc n)) =
    total-longer (λ t. ends_at 1 (X ∷ t)) (ends_at 1) n (ends_at-x 1) in
    let ys : total (λ t. ends_at 1 (Y ∷ t)) (all_words (suc n)) ≡ total (ends_at 0) (all_words (suc n)) =
    total-longer (λ t. ends_at 1 (Y ∷ t)) (ends_at 0) n (ends_at-y 0) in
    let none : total (ends_at 0) (all_words (suc n)) ≡ 0 =
    total-cong (ends_at 0) (λ t. 0) (all_words (suc n)) ends_at-none ∙ total-zero (all_words (suc n)) in
    omega (arith, total-letters (ends_at 1) (suc n), xs, ys, none, total-ends_at n zero)
total-ends_at (suc n) (suc r) =
    let xs : total (λ t. ends_at (suc (suc r)) (X ∷ t)) (all_words (suc n)) ≡ total (ends_at (suc (suc r))) (all_words (suc n)) =
    total-longer (λ t. ends_at (suc (suc r)) (X ∷ t)) (ends_at (suc (suc r))) n (ends_at-x (suc (suc r))) in
    let ys : total (λ t. ends_at (suc (suc r)) (Y ∷ t)) (all_words (suc n)) ≡ total (ends_at (suc r)) (all_words (suc n)) =
    total-longer (λ t. ends_at (suc (suc r)) (Y ∷ t)) (ends_at (suc r)) n (ends_at-y (suc r)) in
    omega (arith, total-letters (ends_at (suc (suc r))) (suc n), xs, ys, total-ends_at n (suc r), total-ends_at n r)

-- one at the admissible words of depth r
abbrev admissible_at : ℕ → Word → ℕ
admissible_at r w = cond (is_admissible w) (cond (nat_eq (depth_of w) r) 1 0) 0

admissible_at-x : (r : ℕ) (a : Letter) (t : Word) → admissible_at r (X ∷ a ∷ t) ≡ ends_at r (a ∷ t)
admissible_at-x r a t = ends_at-x r a t

total-admissible_at : (n r : ℕ) → total (admissible_at (suc r)) (all_words (suc (suc n))) ≡ binomial n r
total-admissible_at n r =
    let xs : total (λ t. admissible_at (suc r) (X ∷ t)) (all_words (suc n)) ≡ total (ends_at (suc r)) (all_words (suc n)) =
    total-longer (λ t. admissible_at (suc r) (X ∷ t)) (ends_at (suc r)) n (admissible_at-x (suc r)) in
    let ys : total (λ t. admissible_at (suc r) (Y ∷ t)) (all_words (suc n)) ≡ 0 =
    total-cong (λ t. admissible_at (suc r) (Y ∷ t)) (λ t. 0) (all_words (suc n)) (λ t. refl) ∙ total-zero (all_words (suc n)) in
    omega (arith, total-letters (admissible_at (suc r)) (suc n), xs, ys, total-ends_at n r)

of_depth : (n r : ℕ) → total (λ w. cond (nat_eq (depth_of w) (suc r)) 1 0) (admissible_words (suc (suc n))) ≡ binomial n r
of_depth n r = total-filter (λ w. cond (nat_eq (depth_of w) (suc r)) 1 0) is_admissible (all_words (suc (suc n))) ∙ total-admissible_at n r

pub count-of_depth : (k r : ℕ) → 2 ≤ k → 1 ≤ r → count_by (λ w. nat_eq (depth_of w) r) (admissible_words k) ≡ binomial (k - 2) (r - 1)
count-of_depth zero r h g = absurd (omega arith)
count-of_depth (suc zero) r h g = absurd (omega arith)
count-of_depth (suc (suc n)) zero h g = absurd (omega arith)
count-of_depth (suc (suc n)) (suc r) h g =
    let m : n ≡ suc (suc n) - 2 = omega arith in
    let s : r ≡ suc r - 1 = omega arith in
    count_by-total (λ w. nat_eq (depth_of w) (suc r)) (admissible_words (suc (suc n))) ∙ of_depth n r ∙ (λ i. binomial (m i) (s i))

-- one more depth
next : (m d : ℕ) → cond (nat_le m (suc d)) 1 0 ≡ cond (nat_le m d) 1 0 + cond (nat_eq m (suc d)) 1 0
next m d = grind (arith, nat_tests)

none_flat : (w : Word) → ◌≡◌ {A = ℕ} (cond (is_admissible w) (cond (nat_le (depth_of w) 0) 1 0) 0) 0
none_flat w = elim (is_admissible w) as (λ b. is_admissible w ≡ b → ◌≡◌ {A = ℕ} (cond b (cond (nat_le (depth_of w) 0) 1 0) 0) 0) [
  | true ↦ λ e. ap (λ b. cond b 1 0) (above (depth_of w) (admissible-deep w e))
  | false ↦ λ e. refl
] refl
  where
    above : (n : ℕ) → 0 < n → nat_le n 0 ≡ false
    above n h = grind (arith, nat_tests)

up_to : (n d : ℕ) → total (λ w. cond (nat_le (depth_of w) d) 1 0) (admissible_words (suc (suc n))) ≡ binomial_sum n d
unfolding binomial_sum
up_to n zero = total-filter (λ w. cond (nat_le (depth_of w) 0) 1 0) is_admissible (all_words (suc (suc n)))
    ∙ total-cong (λ w. cond (is_admissible w) (cond (nat_le (depth_of w) 0) 1 0) 0) (λ w. 0) (all_words (suc (suc n))) none_flat
    ∙ total-zero (all_words (suc (suc n)))
up_to n (suc d) =
    let ws : List Word = admissible_words (suc (suc n)) in
    total-cong (λ w. cond (nat_le (depth_of w) (suc d)) 1 0) (λ w. cond (nat_le (depth_of w) d) 1 0 + cond (nat_eq (depth_of w) (suc d)) 1 0) ws
    (λ w. next (depth_of w) d)
    ∙ total-plus (λ w. cond (nat_le (depth_of w) d) 1 0) (λ w. cond (nat_eq (depth_of w) (suc d)) 1 0) ws
    ∙ (λ i. up_to n d i + of_depth n d i)

pub length-admissible_within : (k d : ℕ) → 2 ≤ k → length (admissible_within k d) ≡ binomial_sum (k - 2) d
unfolding admissible_within
length-admissible_within zero d h = absurd (omega arith)
length-admissible_within (suc zero) d h = absurd (omega arith)
length-admissible_within (suc (suc n)) d h =
    let m : n ≡ suc (suc n) - 2 = omega arith in
    length-filter (λ w. nat_le (depth_of w) d) (admissible_words (suc (suc n))) ∙ up_to n d ∙ ap (λ j. binomial_sum j d) m
