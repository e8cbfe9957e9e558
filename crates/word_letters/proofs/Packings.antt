-- What packing keeps.
use Rattle.std.proofs.Common.{◌≡◌, ℕ, zero, suc, ◌+◌, ◌-◌, ◌*◌, ◌/◌, ◌%◌, ◌^◌, ◌≤◌, ◌<◌, List, [], ◌∷◌, ◌++◌, length, length-append, drop, length-drop, slice_get, Some, refl, sym, ap, ◌∙◌, arith}
use Rattle.std.specs.Ordering.{nat_cmp}
use Rattle.std.specs.declared.cmp.Ordering.TheVariants.{Less, Greater}
use Rattle.std.proofs.lemmas.Bool.Decides.{nat_tests}
use Rattle.std.proofs.Math.Nat.{mul-div-mul_right, pow-suc, mul-add-div_right, mul-add-mod_self_right}
use Rattle.std.proofs.lemmas.Nat.{pow-add, pow_pos, div-mul-add, mod-mul-add, ones_cat}
use Rattle.std.specs.Int.Count.{ones}
use Rattle.zeta_model.specs.declared.Letter.{Letter}
use Rattle.zeta_model.specs.declared.Letter.TheVariants.{X, Y}
use Rattle.zeta_model.specs.Words.{letter_rank, letter_at_rank, letter_at_rank-rank, word_cmp, depth_of}
use Rattle.zeta_model.proofs.DepthLemmas.{depth_of-x, depth_of-y}
use Rattle.word_letters.specs.Packing.{digits_of, letters_of, packed_of, word_of, IsPacked}

pub digits_of-lt : (k : ℕ) (w : List Letter) → length w ≤ k → digits_of k w < 2 ^ k
unfolding digits_of
digits_of-lt k [] h = pow_pos k
digits_of-lt zero (a ∷ w) h = absurd (omega arith)
digits_of-lt (suc k) (X ∷ w) h = omega (arith, digits_of-lt k w (omega arith), pow-suc 2 k)
digits_of-lt (suc k) (Y ∷ w) h = omega (arith, digits_of-lt k w (omega arith), pow-suc 2 k)

pub letters_of-digits_of : (k : ℕ) (w : List Letter) → length w ≤ k → letters_of k (length w) (digits_of k w) ≡ w
unfolding digits_of letters_of
letters_of-digits_of k [] h = refl
letters_of-digits_of zero (a ∷ w) h = absurd (omega arith)
letters_of-digits_of (suc k) (a ∷ w) h =
    let below = digits_of-lt k w (omega arith) in
    let high : (letter_rank a * 2 ^ k + digits_of k w) / 2 ^ k ≡ letter_rank a = div-mul-add (letter_rank a) (2 ^ k) (digits_of k w) below in
    let low : (letter_rank a * 2 ^ k + digits_of k w) % 2 ^ k ≡ digits_of k w = mod-mul-add (letter_rank a) (2 ^ k) (digits_of k w) below in
    λ i. (ap letter_at_rank high ∙ letter_at_rank-rank a) i ∷ (ap (letters_of k (length w)) low ∙ letters_of-digits_of k w (omega arith)) i

pub letters_part : (w : List Letter) → length w ≤ 24 → packed_of w / 32 ≡ digits_of 24 w
unfolding packed_of
letters_part w h = div-mul-add (digits_of 24 w) 32 (length w) (omega arith)

pub weight_part : (w : List Letter) → length w ≤ 24 → packed_of w % 32 ≡ length w
unfolding packed_of
weight_part w h = mod-mul-add (digits_of 24 w) 32 (length w) (omega arith)

pub word_of-packed_of : (w : List Letter) → length w ≤ 24 → word_of (packed_of w) ≡ w
unfolding word_of
word_of-packed_of w h = (λ i. letters_of 24 (weight_part w h i) (letters_part w h i)) ∙ letters_of-digits_of 24 w h

-- the number of a word is packed, and is seen as that word
pub IsPacked-from : (n : ℕ) (w : List Letter) → n ≡ packed_of w → length w ≤ 24 → IsPacked n
IsPacked-from n w e h =
    let back : word_of n ≡ w = ap word_of e ∙ word_of-packed_of w h in
    record { kept = ap packed_of back ∙ sym e; within = omega (arith, ap length back) }

pub word_of-from : (n : ℕ) (w : List Letter) → n ≡ packed_of w → length w ≤ 24 → word_of n ≡ w
word_of-from n w e h = ap word_of e ∙ word_of-packed_of w h

pub weight_of : (n : ℕ) → IsPacked n → n % 32 ≡ length (word_of n)
weight_of n p = ap (λ m. m % 32) (sym p.kept) ∙ weight_part (word_of n) p.within

pub letters_from : (n : ℕ) → IsPacked n → n / 32 ≡ digits_of 24 (word_of n)
letters_from n p = ap (λ m. m / 32) (sym p.kept) ∙ letters_part (word_of n) p.within

pub digits_of-suc : (k : ℕ) (w : List Letter) → length w ≤ k → digits_of (suc k) w ≡ digits_of k w * 2
unfolding digits_of
digits_of-suc k [] h = refl
digits_of-suc zero (a ∷ w) h = absurd (omega arith)
digits_of-suc (suc k) (X ∷ w) h = omega (arith, digits_of-suc k w (omega arith))
digits_of-suc (suc k) (Y ∷ w) h = omega (arith, digits_of-suc k w (omega arith), pow-suc 2 k)

-- one more letter in front
pub packed_of-front : (n : ℕ) (a : Letter) (first : ℕ) → IsPacked n → length (word_of n) < 24 → first ≡ letter_rank a * 2 ^ 23
    → (first + n / 32 / 2) * 32 + (n % 32 + 1) ≡ packed_of (a ∷ word_of n)
unfolding packed_of digits_of
packed_of-front n a first p h e =
    let letters : n / 32 ≡ digits_of 24 (word_of n) = letters_from n p in
    let twice : digits_of 24 (word_of n) ≡ digits_of 23 (word_of n) * 2 = digits_of-suc 23 (word_of n) (omega arith) in
    let half : n / 32 / 2 ≡ digits_of 23 (word_of n) = omega arith in
    let weight : n % 32 ≡ length (word_of n) = weight_of n p in
    omega arith

pub nat_cmp-less : (x y : ℕ) → x < y → nat_cmp x y ≡ Less
nat_cmp-less x y h = grind (arith, nat_tests)

pub nat_cmp-greater : (x y : ℕ) → y < x → nat_cmp x y ≡ Greater
nat_cmp-greater x y h = grind (arith, nat_tests)

pub nat_cmp-step : (r d e m n : ℕ) → nat_cmp ((r + d) * 32 + suc m) ((r + e) * 32 + suc n) ≡ nat_cmp (d * 32 + m) (e * 32 + n)
nat_cmp-step r d e m n = grind (arith, nat_tests)

-- the order of words is that of their numbers
pub word_cmp_is : (k : ℕ) (u v : List Letter) → length u ≤ k → length v ≤ k → k < 32
    → word_cmp u v ≡ nat_cmp (digits_of k u * 32 + length u) (digits_of k v * 32 + length v)
unfolding digits_of
word_cmp_is k [] [] hu hv hk = refl
word_cmp_is k [] (b ∷ v) hu hv hk =
    sym (nat_cmp-less (digits_of k [] * 32 + 0) (digits_of k (b ∷ v) * 32 + length (b ∷ v)) (omega arith))
word_cmp_is k (a ∷ u) [] hu hv hk =
    sym (nat_cmp-greater (digits_of k (a ∷ u) * 32 + length (a ∷ u)) (digits_of k [] * 32 + 0) (omega arith))
word_cmp_is zero (a ∷ u) (b ∷ v) hu hv hk = absurd (omega arith)
word_cmp_is (suc k) (X ∷ u) (X ∷ v) hu hv hk =
    word_cmp_is k u v (omega arith) (omega arith) (omega arith)
    ∙ sym (nat_cmp-step (letter_rank X * 2 ^ k) (digits_of k u) (digits_of k v) (length u) (length v))
word_cmp_is (suc k) (X ∷ u) (Y ∷ v) hu hv hk =
    sym (nat_cmp-less (digits_of (suc k) (X ∷ u) * 32 + length (X ∷ u)) (digits_of (suc k) (Y ∷ v) * 32 + length (Y ∷ v))
    (omega (arith, digits_of-lt k u (omega arith))))
word_cmp_is (suc k) (Y ∷ u) (X ∷ v) hu hv hk =
    sym (nat_cmp-greater (digits_of (suc k) (Y ∷ u) * 32 + length (Y ∷ u)) (digits_of (suc k) (X ∷ v) * 32 + length (X ∷ v))
    (omega (arith, digits_of-lt k v (omega arith))))
word_cmp_is (suc k) (Y ∷ u) (Y ∷ v) hu hv hk =
    word_cmp_is k u v (omega arith) (omega arith) (omega arith)
    ∙ sym (nat_cmp-step (letter_rank Y * 2 ^ k) (digits_of k u) (digits_of k v) (length u) (length v))

pub word_cmp_packed : (n m : ℕ) → IsPacked n → IsPacked m → word_cmp (word_of n) (word_of m) ≡ nat_cmp n m
unfolding packed_of
word_cmp_packed n m p q = word_cmp_is 24 (word_of n) (word_of m) p.within q.within (omega arith) ∙ (λ i. nat_cmp (p.kept i) (q.kept i))

ones_zero : ones 0 ≡ 0
unfolding ones
ones_zero = refl

ones_one : ones 1 ≡ 1
unfolding ones
ones_one = refl

pub ones-digits_of : (k : ℕ) (w : List Letter) → length w ≤ k → ones (digits_of k w) ≡ depth_of w
unfolding digits_of
ones-digits_of k [] h = ones_zero
ones-digits_of zero (a ∷ w) h = absurd (omega arith)
ones-digits_of (suc k) (X ∷ w) h =
    omega (arith, ones_zero, ones_cat k 0 (digits_of k w) (digits_of-lt k w (omega arith)), ones-digits_of k w (omega arith), depth_of-x w)
ones-digits_of (suc k) (Y ∷ w) h =
    omega (arith, ones_one, ones_cat k 1 (digits_of k w) (digits_of-lt k w (omega arith)), ones-digits_of k w (omega arith), depth_of-y w)

pub ones-letters : (n : ℕ) → IsPacked n → ones (n / 32) ≡ depth_of (word_of n)
ones-letters n p = ap ones (letters_from n p) ∙ ones-digits_of 24 (word_of n) p.within

-- what stands above the place j + 1 does not change the digit at j
low_digit : (r i j d : ℕ) → (r * 2 ^ (i + suc j) + d) / 2 ^ j % 2 ≡ d / 2 ^ j % 2
low_digit r i j d =
    let split : r * 2 ^ (i + suc j) ≡ r * 2 ^ i * 2 * 2 ^ j = rw (pow-add 2 i (suc j), pow-suc 2 j) (grind arith) in
    let shifted : (r * 2 ^ i * 2 * 2 ^ j + d) / 2 ^ j ≡ r * 2 ^ i * 2 + d / 2 ^ j = mul-add-div_right (pow_pos j) (r * 2 ^ i * 2) d in
    ap (λ t. (t + d) / 2 ^ j % 2) split ∙ ap (λ t. t % 2) shifted ∙ mul-add-mod_self_right (r * 2 ^ i) 2 (d / 2 ^ j)

digit_of_rank : (a : Letter) → letter_at_rank (letter_rank a % 2) ≡ a
digit_of_rank X = refl
digit_of_rank Y = refl

pub digit_at : (k i j : ℕ) (w : List Letter) → length w ≤ k → i < length w → i + suc j ≡ k
    → slice_get w i ≡ Some (letter_at_rank (digits_of k w / 2 ^ j % 2))
unfolding digits_of
digit_at k i j [] h hi e = absurd (omega arith)
digit_at zero i j (a ∷ w) h hi e = absurd (omega arith)
digit_at (suc k) zero j (a ∷ w) h hi e =
    let je : j ≡ k = omega arith in
    let high : (letter_rank a * 2 ^ k + digits_of k w) / 2 ^ k ≡ letter_rank a =
    div-mul-add (letter_rank a) (2 ^ k) (digits_of k w) (digits_of-lt k w (omega arith)) in
    sym (ap Some ((λ t. letter_at_rank ((letter_rank a * 2 ^ k + digits_of k w) / 2 ^ je t % 2)) ∙ ap (λ q. letter_at_rank (q % 2)) high ∙ digit_of_rank a))
digit_at (suc k) (suc i) j (a ∷ w) h hi e =
    let ke : k ≡ i + suc j = omega arith in
    let same : (letter_rank a * 2 ^ k + digits_of k w) / 2 ^ j % 2 ≡ digits_of k w / 2 ^ j % 2 =
    (λ t. (letter_rank a * 2 ^ ke t + digits_of k w) / 2 ^ j % 2) ∙ low_digit (letter_rank a) i j (digits_of k w) in
    digit_at k i j w (omega arith) (omega arith) (omega arith) ∙ sym (ap (λ q. Some (letter_at_rank q)) same)

pub letter_at : (n i : ℕ) → IsPacked n → i < length (word_of n) → slice_get (word_of n) i ≡ Some (letter_at_rank (n / 32 / 2 ^ (23 - i) % 2))
letter_at n i p h =
    let within = p.within in
    digit_at 24 i (23 - i) (word_of n) p.within h (omega arith) ∙ ap (λ d. Some (letter_at_rank (d / 2 ^ (23 - i) % 2))) (sym (letters_from n p))

-- without the first letter
packed_of-behind : (n : ℕ) (w : List Letter) → IsPacked n → word_of n ≡ w → 0 < length w → n / 32 % 2 ^ 23 * 2 * 32 + (n % 32 - 1) ≡ packed_of (drop 1 w)
unfolding packed_of digits_of
packed_of-behind n [] p e h = absurd (omega arith)
packed_of-behind n (a ∷ u) p e h =
    let within = p.within in
    let len : length (word_of n) ≡ suc (length u) = ap length e in
    let letters : n / 32 ≡ letter_rank a * 2 ^ 23 + digits_of 23 u = letters_from n p ∙ ap (digits_of 24) e in
    let low : (letter_rank a * 2 ^ 23 + digits_of 23 u) % 2 ^ 23 ≡ digits_of 23 u =
    mod-mul-add (letter_rank a) (2 ^ 23) (digits_of 23 u) (digits_of-lt 23 u (omega arith)) in
    let cut : n / 32 % 2 ^ 23 ≡ digits_of 23 u = ap (λ d. d % 2 ^ 23) letters ∙ low in
    let twice : digits_of 24 u ≡ digits_of 23 u * 2 = digits_of-suc 23 u (omega arith) in
    let weight : n % 32 ≡ length (word_of n) = weight_of n p in
    omega arith

pub IsPacked-behind : (n : ℕ) → IsPacked n → 0 < length (word_of n) → IsPacked (n / 32 % 2 ^ 23 * 2 * 32 + (n % 32 - 1))
IsPacked-behind n p h = let within = p.within in
    IsPacked-from _ (drop 1 (word_of n)) (packed_of-behind n (word_of n) p refl h) (omega (arith, length-drop 1 (word_of n)))

pub word_of-behind : (n : ℕ) → IsPacked n → 0 < length (word_of n) → word_of (n / 32 % 2 ^ 23 * 2 * 32 + (n % 32 - 1)) ≡ drop 1 (word_of n)
word_of-behind n p h = let within = p.within in
    word_of-from _ (drop 1 (word_of n)) (packed_of-behind n (word_of n) p refl h) (omega (arith, length-drop 1 (word_of n)))

half-shift : (d n : ℕ) → d * 2 / 2 ^ suc n ≡ d / 2 ^ n
half-shift d n =
    let e : 2 ^ suc n ≡ 2 ^ n * 2 = omega (arith, pow-suc 2 n) in
    ap (λ m. d * 2 / m) e ∙ mul-div-mul_right d (2 ^ n) (omega arith)

-- one word behind another
digits_of-append : (k : ℕ) (u v : List Letter) → length u + length v ≤ k → digits_of k (u ++ v) ≡ digits_of k u + digits_of k v / 2 ^ length u
unfolding digits_of
digits_of-append k [] v h = omega arith
digits_of-append zero (a ∷ u) v h = absurd (omega arith)
digits_of-append (suc k) (a ∷ u) v h =
    let twice : digits_of (suc k) v ≡ digits_of k v * 2 = digits_of-suc k v (omega arith) in
    let cut : digits_of (suc k) v / 2 ^ suc (length u) ≡ digits_of k v / 2 ^ length u =
    ap (λ d. d / 2 ^ suc (length u)) twice ∙ half-shift (digits_of k v) (length u) in
    omega (arith, digits_of-append k u v (omega arith), cut)

-- the number of one word behind another: f and g are their weights
module _ (n m : ℕ) (u v : List Letter) (p : IsPacked n) (q : IsPacked m) (eu : word_of n ≡ u) (ev : word_of m ≡ v) (f g : ℕ) (ef : f ≡ length u) (eg : g
    ≡ length v) (h : f + g ≤ 24) where
  letters-append : n / 32 + m / 32 / 2 ^ f ≡ digits_of 24 (u ++ v)
  letters-append =
      let front : n / 32 ≡ digits_of 24 u = letters_from n p ∙ ap (digits_of 24) eu in
      let behind : m / 32 ≡ digits_of 24 v = letters_from m q ∙ ap (digits_of 24) ev in
      let low : m / 32 / 2 ^ f ≡ digits_of 24 v / 2 ^ length u = λ i. behind i / 2 ^ ef i in
      omega (arith, digits_of-append 24 u v (omega arith), low, front)

  pub letters-append-lt : n / 32 + m / 32 / 2 ^ f < 2 ^ 24
  letters-append-lt = omega (arith, letters-append, digits_of-lt 24 (u ++ v) (omega (arith, length-append u v)))

  packed_of-append : (n / 32 + m / 32 / 2 ^ f) * 32 + (f + g) ≡ packed_of (u ++ v)
  unfolding packed_of
  packed_of-append = omega (arith, letters-append, length-append u v)

  pub IsPacked-append : IsPacked ((n / 32 + m / 32 / 2 ^ f) * 32 + (f + g))
  IsPacked-append = IsPacked-from _ (u ++ v) packed_of-append (omega (arith, length-append u v))

  pub word_of-append : word_of ((n / 32 + m / 32 / 2 ^ f) * 32 + (f + g)) ≡ u ++ v
  word_of-append = word_of-from _ (u ++ v) packed_of-append (omega (arith, length-append u v))
