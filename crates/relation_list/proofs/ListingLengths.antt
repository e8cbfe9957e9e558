-- How long a listing is: at most 24 times 24 names for each admissible word of its weight that is not too deep.
use Rattle.std.proofs.Common.{◌≡◌, ℕ, zero, suc, ◌+◌, ◌-◌, ◌*◌, ◌<◌, ◌≤◌, max, nat_le, Bool, true, false, cond, List, [], ◌∷◌, ◌++◌, length, map, filter, Contains, inl, inr, refl, sym, ap, subst, ◌∙◌, arith}
use Rattle.std.specs.List.{flat_map, range_with_len}
use Rattle.std.proofs.lemmas.List.{append-nil}
use Rattle.std.proofs.lemmas.Bool.Decides.{nat_tests}
use Rattle.std.proofs.lemmas.Nat.{mul-le}
use Rattle.zeta_model.specs.declared.Letter.{Letter}
use Rattle.zeta_model.specs.declared.Letter.TheVariants.{X, Y}
use Rattle.zeta_model.specs.Words.{depth_of, ends_with_y, is_admissible}
use Rattle.zeta_model.specs.Duality.{dual_of}
use Rattle.zeta_model.specs.Regularise.{y_word}
use Rattle.zeta_model.specs.WordLists.{all_words, admissible_words, admissible_within}
use Rattle.zeta_model.proofs.DepthLemmas.{depth_of-append, depth_of-y_word}
use Rattle.zeta_model.proofs.WordLemmas.{length-y_word}
use Rattle.relation_list.specs.declared.names.Direct.{Direct}
use Rattle.relation_list.specs.declared.names.Direct.TheVariants.{Fin, Reg, Dual}
use Rattle.relation_list.specs.declared.names.RelName.{RelName}
use Rattle.relation_list.specs.declared.names.RelName.TheVariants.{Plain, Prod}
use Rattle.relation_list.specs.Names.{in_order, below_dual, direct_depth_of, depth_of_name}
use Rattle.relation_list.specs.Listings.{fins_by, fins_from, fins, regs_from, regs, duals, directs, prods_by, prods_from, prods, names, listing_of}
use Rattle.relation_list.proofs.Members.{none_contained, contains_cases}
use Rattle.relation_list.proofs.WholeListing.{contains-all_words}

abbrev Word : Type 0
Word = List Letter

-- the sum of f over a list
abbrev sums : {A : Type 0} → (A → ℕ) → List A → ℕ
sums f [] = 0
sums f (x ∷ xs) = f x + sums f xs

sums-append : {A : Type 0} (f : A → ℕ) (xs ys : List A) → sums f (xs ++ ys) ≡ sums f xs + sums f ys
sums-append f [] ys = omega arith
sums-append f (x ∷ xs) ys = omega (arith, sums-append f xs ys)

sums-map : {A B : Type 0} (f : B → ℕ) (g : A → B) (xs : List A) → sums f (map g xs) ≡ sums (λ x. f (g x)) xs
sums-map f g [] = refl
sums-map f g (x ∷ xs) = ap (λ n. f (g x) + n) (sums-map f g xs)

sums-flat_map : {A B : Type 0} (f : B → ℕ) (g : A → List B) (xs : List A) → sums f (flat_map g xs) ≡ sums (λ x. sums f (g x)) xs
sums-flat_map f g [] = refl
sums-flat_map f g (x ∷ xs) = sums-append f (g x) (flat_map g xs) ∙ ap (λ n. sums f (g x) + n) (sums-flat_map f g xs)

sums-le : {A : Type 0} (f g : A → ℕ) (xs : List A) → ((x : A) → f x ≤ g x) → sums f xs ≤ sums g xs
sums-le f g [] h = omega arith
sums-le f g (x ∷ xs) h = omega (arith, h x, sums-le f g xs h)

sums-filter : {A : Type 0} (p : A → Bool) (f : A → ℕ) (xs : List A) → sums f (filter p xs) ≡ sums (λ x. cond (p x) (f x) 0) xs
sums-filter p f [] = refl
sums-filter {A} p f (x ∷ xs) = by (p x) (sums-filter p f xs)
  where
    by : (b : Bool) → sums f (filter p xs) ≡ sums (λ z. cond (p z) (f z) 0) xs
        → sums f (cond b (x ∷ filter p xs) (filter p xs)) ≡ cond b (f x) 0 + sums (λ z. cond (p z) (f z) 0) xs
    by true e = ap (λ n. f x + n) e
    by false e = e ∙ omega arith

part_of : (b : Bool) (n : ℕ) → cond b n 0 ≤ n
part_of true n = omega arith
part_of false n = omega arith

sums-filter-le : {A : Type 0} (p : A → Bool) (f : A → ℕ) (xs : List A) → sums f (filter p xs) ≤ sums f xs
sums-filter-le p f xs = omega (arith, sums-filter p f xs, sums-le (λ x. cond (p x) (f x) 0) f xs (λ x. part_of (p x) (f x)))

sums-at : {A : Type 0} (f : A → ℕ) (xs : List A) (x : A) → Contains xs x → f x ≤ sums f xs
sums-at f [] x c = absurd (none_contained x c)
sums-at f (z ∷ xs) x c = elim (contains_cases z x xs c) [ inl e ↦ omega (arith, ap f e) | inr p ↦ omega (arith, sums-at f xs x p) ]

length-sums : {A : Type 0} (xs : List A) → length xs ≡ sums (λ x. 1) xs
length-sums [] = refl
length-sums (x ∷ xs) = omega (arith, length-sums xs)

-- a sum over a range, each of whose numbers is at most m
sums-range : (f : ℕ → ℕ) (m a n b : ℕ) → a + n ≤ b → ((k : ℕ) → k < b → f k ≤ m) → sums f (range_with_len a n) ≤ n * m
sums-range f m a zero b h each = omega arith
sums-range f m a (suc n) b h each =
    let more : suc n * m ≡ m + n * m = grind arith in
    omega (arith, each a (omega arith), sums-range f m (a + 1) n b (omega arith) each, more)

-- the same where the number at k is at most (2 k - 1) m: odd numbers add up to squares
sums-odd : (f : ℕ → ℕ) (m c n b : ℕ) → c + 1 + n ≤ b → ((k : ℕ) → k + 1 < b → f (k + 1) ≤ (k + k + 1) * m)
    → sums f (range_with_len (c + 1) n) + c * c * m ≤ (c + n) * (c + n) * m
sums-odd f m c zero b h each =
    let none : (c + 0) * (c + 0) * m ≡ c * c * m = grind arith in
    omega (arith, none)
sums-odd f m c (suc n) b h each =
    let square : (c + 1) * (c + 1) * m ≡ c * c * m + (c + c + 1) * m = grind arith in
    let whole : (c + suc n) * (c + suc n) * m ≡ (c + 1 + n) * (c + 1 + n) * m = grind arith in
    omega (arith, each c (omega arith), sums-odd f m (c + 1) n b (omega arith) each, square, whole)

-- the words of a + b letters are those of a letters, each with those of b letters behind it
sums-all_words : (h : Word → ℕ) (a b : ℕ) → sums h (all_words (a + b)) ≡ sums (λ u. sums (λ v. h (u ++ v)) (all_words b)) (all_words a)
unfolding all_words
sums-all_words h zero b =
    let at : 0 + b ≡ b = omega arith in
    let none : sums h (all_words b) ≡ sums h (all_words b) + 0 = omega arith in
    ap (λ k. sums h (all_words k)) at ∙ none
sums-all_words h (suc a) b =
    let F : Word → ℕ = λ u. sums (λ v. h (u ++ v)) (all_words b) in
    let at : suc a + b ≡ suc (a + b) = omega arith in
    ap (λ k. sums h (all_words k)) at ∙ sums-append h (map (λ w. X ∷ w) (all_words (a + b))) (map (λ w. Y ∷ w) (all_words (a + b)))
    ∙ (λ i. (sums-map h (λ w. X ∷ w) (all_words (a + b)) ∙ sums-all_words (λ w. h (X ∷ w)) a b) i +
    (sums-map h (λ w. Y ∷ w) (all_words (a + b)) ∙ sums-all_words (λ w. h (Y ∷ w)) a b) i)
    ∙ sym (sums-append F (map (λ w. X ∷ w) (all_words a)) (map (λ w. Y ∷ w) (all_words a))
    ∙ (λ i. sums-map F (λ w. X ∷ w) (all_words a) i + sums-map F (λ w. Y ∷ w) (all_words a) i))

ends-behind : (u v : Word) → ends_with_y v ≡ true → ends_with_y (u ++ v) ≡ true
ends-behind [] v h = h
ends-behind (a ∷ []) [] h = cc
ends-behind (a ∷ []) (b ∷ v) h = h
ends-behind (a ∷ b ∷ u) v h = ends-behind (b ∷ u) v h

both-admissible : (u v : Word) → is_admissible u ≡ true → is_admissible v ≡ true → is_admissible (u ++ v) ≡ true
both-admissible [] v h g = cc
both-admissible (Y ∷ u) v h g = cc
both-admissible (X ∷ u) [] h g = cc
both-admissible (X ∷ u) (Y ∷ v) h g = cc
both-admissible (X ∷ u) (X ∷ v) h g = ends-behind (X ∷ u) (X ∷ v) g

y_word-ends : (m : ℕ) → ends_with_y (y_word (suc m)) ≡ true
y_word-ends zero = refl
y_word-ends (suc m) = y_word-ends m

y_behind-admissible : (u : Word) (m : ℕ) → is_admissible u ≡ true → is_admissible (u ++ y_word m) ≡ true
y_behind-admissible [] m h = cc
y_behind-admissible (Y ∷ u) m h = cc
y_behind-admissible (X ∷ u) zero h = ap is_admissible (append-nil (X ∷ u)) ∙ h
y_behind-admissible (X ∷ u) (suc m) h = ends-behind (X ∷ u) (y_word (suc m)) (y_word-ends m)

-- g of the depth where the word is admissible
abbrev weigh : (ℕ → ℕ) → Word → ℕ
weigh g t = cond (is_admissible t) (g (depth_of t)) 0

weigh-admissible : (g : ℕ → ℕ) (t : Word) → is_admissible t ≡ true → weigh g t ≡ g (depth_of t)
weigh-admissible g t h = ap (λ b. cond b (g (depth_of t)) 0) h

-- the sum of g of the depth over the admissible words of k letters
abbrev weighed : (ℕ → ℕ) → ℕ → ℕ
weighed g k = sums (weigh g) (all_words k)

weighed-admissible : (g : ℕ → ℕ) (k : ℕ) → sums (λ t. g (depth_of t)) (admissible_words k) ≡ weighed g k
weighed-admissible g k = sums-filter is_admissible (λ t. g (depth_of t)) (all_words k)

cond-le : (b : Bool) (n m : ℕ) → (b ≡ true → n ≤ m) → cond b n 0 ≤ m
cond-le true n m h = h refl
cond-le false n m h = omega arith

-- two admissible words behind each other are one
pairs-le : (g : ℕ → ℕ) (a b : ℕ) → sums (λ u. sums (λ v. g (depth_of u + depth_of v)) (admissible_words b)) (admissible_words a) ≤ weighed g (a + b)
pairs-le g a b =
    let inner : (u : Word) → sums (λ v. g (depth_of u + depth_of v)) (admissible_words b) ≡ sums (λ v. cond (is_admissible v) (g (depth_of u + depth_of v)) 0)
    (all_words b) = λ u. sums-filter is_admissible (λ v. g (depth_of u + depth_of v)) (all_words b) in
    let outer = sums-filter is_admissible (λ u. sums (λ v. g (depth_of u + depth_of v)) (admissible_words b)) (all_words a) in
    let less = sums-le (λ u. cond (is_admissible u) (sums (λ v. g (depth_of u + depth_of v)) (admissible_words b)) 0)
    (λ u. sums (λ v. weigh g (u ++ v)) (all_words b)) (all_words a)
    (λ u. cond-le (is_admissible u) (sums (λ v. g (depth_of u + depth_of v)) (admissible_words b)) (sums (λ v. weigh g (u ++ v)) (all_words b))
    (λ hu. subst (λ n. n ≤ sums (λ v. weigh g (u ++ v)) (all_words b)) (sym (inner u))
    (sums-le (λ v. cond (is_admissible v) (g (depth_of u + depth_of v)) 0) (λ v. weigh g (u ++ v)) (all_words b)
    (λ v. cond-le (is_admissible v) (g (depth_of u + depth_of v)) (weigh g (u ++ v)) (λ hv. at u v hu hv))))) in
    omega (arith, outer, less, sums-all_words (weigh g) a b)
  where
    at : (u v : Word) → is_admissible u ≡ true → is_admissible v ≡ true → g (depth_of u + depth_of v) ≤ weigh g (u ++ v)
    at u v hu hv = omega (arith, weigh-admissible g (u ++ v) (both-admissible u v hu hv), ap g (depth_of-append u v))

-- an admissible word with letters y behind it is one
behind-le : (g : ℕ → ℕ) (b m : ℕ) → sums (λ v. g (m + depth_of v)) (admissible_words b) ≤ weighed g (b + m)
behind-le g b m =
    let outer = sums-filter is_admissible (λ v. g (m + depth_of v)) (all_words b) in
    let less = sums-le (λ v. cond (is_admissible v) (g (m + depth_of v)) 0) (λ v. sums (λ s. weigh g (v ++ s)) (all_words m)) (all_words b)
    (λ v. cond-le (is_admissible v) (g (m + depth_of v)) (sums (λ s. weigh g (v ++ s)) (all_words m)) (λ hv. at v hv)) in
    omega (arith, outer, less, sums-all_words (weigh g) b m)
  where
    at : (v : Word) → is_admissible v ≡ true → g (m + depth_of v) ≤ sums (λ s. weigh g (v ++ s)) (all_words m)
    at v hv =
        let there : Contains (all_words m) (y_word m) = subst (λ k. Contains (all_words k) (y_word m)) (length-y_word m) (contains-all_words (y_word m)) in
        let deep : depth_of (v ++ y_word m) ≡ m + depth_of v = omega (arith, depth_of-append v (y_word m), depth_of-y_word m) in
        omega (
          arith,
          sums-at (λ s. weigh g (v ++ s)) (all_words m) (y_word m) there,
          weigh-admissible g (v ++ y_word m)
              (y_behind-admissible v m hv),
          ap g deep,
        )

-- more depth gives no more
abbrev Falls : (ℕ → ℕ) → Type 0
Falls g = (a b : ℕ) → a ≤ b → g b ≤ g a

-- the direct names of weight k, each by g of its depth
directs-le : (g : ℕ → ℕ) → Falls g → (k : ℕ) → sums (λ r. g (direct_depth_of r)) (directs (k + 1)) ≤ (k + k + 1) * weighed g (k + 1)
unfolding fins regs duals
directs-le g falls k =
    let G : Direct → ℕ = λ r. g (direct_depth_of r) in
    let w : ℕ = k + 1 in
    let W : ℕ = weighed g w in
    let by_u : (n : ℕ) (u : Word) → sums G (fins_by n u) ≤ sums (λ v. g (depth_of u + depth_of v)) (admissible_words n) =
    λ n u. omega (
      arith,
      sums-map G (λ v. Fin u v) (filter (in_order u) (admissible_words n)),
      sums-filter-le (in_order u)
          (λ v. g (depth_of u + depth_of v)) (admissible_words n),
    ) in
    let from : (j : ℕ) → j < w → sums G (fins_from w j) ≤ W = λ j h. let at : j + (w - j) ≡ w = omega arith in
    omega (
      arith,
      sums-flat_map G (fins_by (w - j)) (admissible_words j),
      sums-le (λ u. sums G (fins_by (w - j) u))
          (λ u. sums (λ v. g (depth_of u + depth_of v)) (admissible_words (w - j))) (admissible_words j) (by_u (w - j)),
      pairs-le g j (w - j),
      ap
          (weighed g) at,
    ) in
    let reg : (m : ℕ) → m < w → sums G (regs_from w m) ≤ W = λ m h. let at : (w - m) + m ≡ w = omega arith in
    omega (arith, sums-map G (λ v. Reg m v) (admissible_words (w - m)), behind-le g (w - m) m, ap (weighed g) at) in
    let fs : sums G (fins w) ≤ (w - 1) * W =
    omega (arith, sums-flat_map G (fins_from w) (range_with_len 1 (w - 1)), sums-range (λ j. sums G (fins_from w j)) W 1 (w - 1) w (omega arith) from) in
    let rs : sums G (regs w) ≤ (w - 1) * W =
    omega (arith, sums-flat_map G (regs_from w) (range_with_len 1 (w - 1)), sums-range (λ m. sums G (regs_from w m)) W 1 (w - 1) w (omega arith) reg) in
    let ds : sums G (duals w) ≤ W =
    omega (
      arith,
      sums-map G (λ u. Dual u) (filter below_dual (admissible_words w)),
      sums-filter-le below_dual
          (λ u. g (max (depth_of u) (depth_of (dual_of u)))) (admissible_words w),
      sums-le (λ u. g (max (depth_of u) (depth_of (dual_of u))))
          (λ u. g (depth_of u)) (admissible_words w)
          (λ u. falls (depth_of u) (max (depth_of u) (depth_of (dual_of u))) (omega arith)),
      weighed-admissible g w,
    ) in
    let all : (k + k + 1) * W ≡ k * W + k * W + W = grind arith in
    let less : (w - 1) * W ≡ k * W = ap (λ n. n * W) (omega arith) in
    omega (arith, sums-append G (fins w) (regs w ++ duals w), sums-append G (regs w) (duals w), fs, rs, ds, all, less)

-- 1 where the depth is at most d
abbrev is_within : ℕ → ℕ → ℕ
is_within d e = cond (nat_le e d) 1 0

is_within-falls : (d : ℕ) → Falls (is_within d)
is_within-falls d a b h = by (nat_le a d) (nat_le b d) refl refl
  where
    by : (p q : Bool) → nat_le a d ≡ p → nat_le b d ≡ q → cond q 1 0 ≤ cond p 1 0
    by true true e f = omega arith
    by true false e f = omega arith
    by false false e f = omega arith
    by false true e f = absurd (omega (arith, above a d e, below b d f))
      where
        above : (k n : ℕ) → nat_le k n ≡ false → n < k
        above k n e = grind (arith, nat_tests)

        below : (k n : ℕ) → nat_le k n ≡ true → k ≤ n
        below k n e = grind (arith, nat_tests)

-- the products of weight w over direct names of weight k
prods-le : (w d k : ℕ) → k + 1 < w → sums (λ n. is_within d (depth_of_name n)) (prods_from w (k + 1)) ≤ (k + k + 1) * weighed (is_within d) w
prods-le w d k h =
    let P : RelName → ℕ = λ n. is_within d (depth_of_name n) in
    let g : ℕ → ℕ = λ e. sums (λ u. is_within d (e + depth_of u)) (admissible_words (w - (k + 1))) in
    let falls : Falls g = λ a b l. sums-le (λ u. is_within d (b + depth_of u)) (λ u. is_within d (a + depth_of u)) (admissible_words (w - (k + 1)))
    (λ u. is_within-falls d (a + depth_of u) (b + depth_of u) (omega arith)) in
    let each : (r : Direct) → sums P (prods_by (w - (k + 1)) r) ≤ g (direct_depth_of r) =
    λ r. omega (arith, sums-map P (λ u. Prod r u) (admissible_words (w - (k + 1)))) in
    let at : k + 1 + (w - (k + 1)) ≡ w = omega arith in
    let most : weighed g (k + 1) ≤ weighed (is_within d) w =
    omega (arith, weighed-admissible g (k + 1), pairs-le (is_within d) (k + 1) (w - (k + 1)), ap (weighed (is_within d)) at) in
    let times : (k + k + 1) * weighed g (k + 1) ≤ (k + k + 1) * weighed (is_within d) w =
    mul-le (k + k + 1) (weighed g (k + 1)) (k + k + 1) (weighed (is_within d) w) (omega arith) most in
    omega (
      arith,
      sums-flat_map P (prods_by (w - (k + 1))) (directs (k + 1)),
      sums-le (λ r. sums P (prods_by (w - (k + 1)) r)) (λ r. g (direct_depth_of r))
          (directs (k + 1)) each,
      directs-le g falls k,
      times,
    )

-- the words that are counted
counted : (w d : ℕ) → weighed (is_within d) w ≡ length (admissible_within w d)
unfolding admissible_within
counted w d = sym (length-sums (filter (λ t. nat_le (depth_of t) d) (admissible_words w))
    ∙ sums-filter (λ t. nat_le (depth_of t) d) (λ t. 1) (admissible_words w) ∙ weighed-admissible (is_within d) w)

listing-sums : (w d : ℕ) → length (listing_of w d) ≡ sums (λ r. is_within d (direct_depth_of r)) (directs w) + sums (λ n. is_within d (depth_of_name n))
    (prods w)
unfolding listing_of
listing-sums w d =
    length-sums (filter (λ n. nat_le (depth_of_name n) d) (names w)) ∙ sums-filter (λ n. nat_le (depth_of_name n) d) (λ n. 1) (names w)
    ∙ sums-append (λ n. is_within d (depth_of_name n)) (map (λ r. Plain r) (directs w)) (prods w)
    ∙ ap (λ n. n + sums (λ n. is_within d (depth_of_name n)) (prods w)) (sums-map (λ n. is_within d (depth_of_name n)) (λ r. Plain r) (directs w))

-- at most 576 names for each word
listing-long : (w d : ℕ) → w + 1 ≤ 24 → length (listing_of (w + 1) d) ≤ 576 * length (admissible_within (w + 1) d)
unfolding prods
listing-long w d h =
    let W : ℕ = weighed (is_within d) (w + 1) in
    let P : RelName → ℕ = λ n. is_within d (depth_of_name n) in
    let n : ℕ = w + 1 - 4 in
    let ps : sums (λ k. sums P (prods_from (w + 1) k)) (range_with_len 3 n) + 2 * 2 * W ≤ (2 + n) * (2 + n) * W = odd n (omega arith) in
    let square : (2 + n) * (2 + n) ≤ 22 * 22 = mul-le (2 + n) (2 + n) 22 22 (omega arith) (omega arith) in
    let most : (2 + n) * (2 + n) * W ≤ 22 * 22 * W = mul-le ((2 + n) * (2 + n)) W (22 * 22) W square (omega arith) in
    let flat : sums P (prods (w + 1)) ≡ sums (λ k. sums P (prods_from (w + 1) k)) (range_with_len 3 n) =
    sums-flat_map P (prods_from (w + 1)) (range_with_len 3 n) in
    let ds : sums (λ r. is_within d (direct_depth_of r)) (directs (w + 1)) ≤ (w + w + 1) * W = directs-le (is_within d) (is_within-falls d) w in
    let few : (w + w + 1) * W ≤ 47 * W = mul-le (w + w + 1) W 47 W (omega arith) (omega arith) in
    omega (arith, listing-sums (w + 1) d, ps, most, flat, ds, few, counted (w + 1) d)
  where
    odd : (n : ℕ) → n ≤ w + 1 - 4 → sums (λ k. sums (λ m. is_within d (depth_of_name m)) (prods_from (w + 1) k)) (range_with_len 3 n) + 2 * 2 * weighed
        (is_within d) (w + 1) ≤ (2 + n) * (2 + n) * weighed (is_within d) (w + 1)
    odd zero l = omega arith
    odd (suc n) l = sums-odd (λ k. sums (λ m. is_within d (depth_of_name m)) (prods_from (w + 1) k)) (weighed (is_within d) (w + 1)) 2 (suc n) (w + 1)
        (omega arith) (λ k g. prods-le (w + 1) d k g)

-- no names have the weight 0
none_of_no_weight : (d : ℕ) → length (listing_of 0 d) ≡ 0
unfolding listing_of fins regs duals prods all_words
none_of_no_weight d = refl

-- a listing within the limits: with at most 2,048 admissible words that are not too deep
pub listing-small : (w d : ℕ) → w ≤ 24 → length (admissible_within w d) ≤ 2048 → length (listing_of w d) ≤ 1179648
listing-small zero d h few = omega (arith, none_of_no_weight d)
listing-small (suc w) d h few =
    let at : w + 1 ≡ suc w = omega arith in
    let long : length (listing_of (w + 1) d) ≤ 576 * length (admissible_within (w + 1) d) = listing-long w d (omega arith) in
    let same : length (admissible_within (w + 1) d) ≡ length (admissible_within (suc w) d) = ap (λ k. length (admissible_within k d)) at in
    let names : length (listing_of (w + 1) d) ≡ length (listing_of (suc w) d) = ap (λ k. length (listing_of k d)) at in
    omega (arith, long, same, names)
