-- The numbers of powers of y, of the letters z_k, and of a word without its first letters.
use Rattle.std.proofs.Common.{◌≡◌, ℕ, zero, suc, ◌+◌, ◌*◌, ◌/◌, ◌%◌, ◌^◌, ◌-◌, ◌≤◌, ◌<◌, List, [], ◌∷◌, length, length-drop, drop, refl, sym, ap, ◌∙◌, arith}
use Rattle.std.proofs.Math.Nat.{pow-suc, mul-add-mod_self_right, mod-eq_of_lt, mod-lt, div-lt_iff_lt-mul, mul-div_cancel}
use Rattle.std.proofs.Math.Pow.{pow_mono, split}
use Rattle.std.proofs.lemmas.Nat.{pow-add, pow_pos}
use Rattle.zeta_model.specs.declared.Letter.{Letter}
use Rattle.zeta_model.specs.Words.{letter_rank, letter_at_rank}
use Rattle.zeta_model.specs.Indices.{z_word}
use Rattle.zeta_model.specs.Regularise.{y_word}
use Rattle.zeta_model.proofs.RegularisedWords.{length-y_word}
use Rattle.zeta_model.proofs.StuffleLetters.{length-z_word}
use Rattle.word_letters.specs.Packing.{digits_of, letters_of, packed_of, word_of, IsPacked}
use Rattle.word_letters.proofs.Packings.{digits_of-lt, digits_of-suc, letters_from}

-- a one moved up by i places
shift : (i : ℕ) → i ≤ 24 → 1 * 2 ^ i % 4294967296 ≡ 2 ^ i
shift i h =
    let small : 2 ^ i ≤ 2 ^ 24 = pow_mono h in
    let one : 1 * 2 ^ i ≡ 2 ^ i = omega arith in
    let below : 2 ^ i < 4294967296 = omega arith in
    ap (λ n. n % 4294967296) one ∙ mod-eq_of_lt below

digits_of-y_word : (k i j : ℕ) → i + j ≡ k → digits_of k (y_word j) + 2 ^ i ≡ 2 ^ k
unfolding digits_of
digits_of-y_word k i zero e = let same : i ≡ k = omega arith in omega (arith, ap (λ n. 2 ^ n) same)
digits_of-y_word zero i (suc j) e = absurd (omega arith)
digits_of-y_word (suc k) i (suc j) e = omega (arith, digits_of-y_word k i j (omega arith), pow-suc 2 k)

digits_of-z_word : (k i j : ℕ) → 0 < j → i + j ≡ k → digits_of k (z_word j) ≡ 2 ^ i
unfolding digits_of
digits_of-z_word k i zero h e = absurd (omega arith)
digits_of-z_word zero i (suc j) h e = absurd (omega arith)
digits_of-z_word (suc k) i (suc zero) h e = let same : k ≡ i = omega arith in omega (arith, ap (λ n. 2 ^ n) same)
digits_of-z_word (suc k) i (suc (suc j)) h e = omega (arith, digits_of-z_word k i (suc j) (omega arith) (omega arith))

-- the number of y^j
module _ (j : ℕ) (h : j ≤ 24) where
  pub power-within : 1 * 2 ^ (24 - j) % 4294967296 ≤ 16777216
  power-within = let place : 24 - j ≤ 24 = omega arith in let small : 2 ^ (24 - j) ≤ 2 ^ 24 = pow_mono place in omega (arith, shift (24 - j) (omega arith))

  pub power-packed : (16777216 - 1 * 2 ^ (24 - j) % 4294967296) * 32 + j ≡ packed_of (y_word j)
  unfolding packed_of
  power-packed = omega (arith, shift (24 - j) (omega arith), digits_of-y_word 24 (24 - j) j (omega arith), length-y_word j)

-- the number of z_k
module _ (k : ℕ) (some : 0 < k) (h : k ≤ 24) where
  pub z-within : 1 * 2 ^ (24 - k) % 4294967296 ≤ 16777216
  z-within = let place : 24 - k ≤ 24 = omega arith in let small : 2 ^ (24 - k) ≤ 2 ^ 24 = pow_mono place in omega (arith, shift (24 - k) (omega arith))

  pub z-packed : 1 * 2 ^ (24 - k) % 4294967296 * 32 + k ≡ packed_of (z_word k)
  unfolding packed_of
  z-packed = omega (arith, shift (24 - k) (omega arith), digits_of-z_word 24 (24 - k) k some (omega arith), length-z_word k)

-- what stands above the place i is not seen below it
low : (r i n d : ℕ) → (r * 2 ^ (i + n) + d) % 2 ^ i ≡ d % 2 ^ i
low r i n d =
    let split : r * 2 ^ (i + n) ≡ r * 2 ^ n * 2 ^ i = rw (pow-add 2 i n) (grind arith) in
    ap (λ t. (t + d) % 2 ^ i) split ∙ mul-add-mod_self_right (r * 2 ^ n) (2 ^ i) d

digits_of-drop : (k i n : ℕ) (w : List Letter) → length w ≤ k → n ≤ length w → i + n ≡ k → digits_of k (drop n w) ≡ digits_of k w % 2 ^ i * 2 ^ n
unfolding digits_of
digits_of-drop k i zero w h g e =
    let same : k ≡ i = omega arith in
    let whole : digits_of k w % 2 ^ k ≡ digits_of k w = mod-eq_of_lt (digits_of-lt k w h) in
    omega (arith, whole, ap (λ n. digits_of k w % 2 ^ n) same)
digits_of-drop k i (suc n) [] h g e = absurd (omega arith)
digits_of-drop zero i (suc n) (a ∷ w) h g e = absurd (omega arith)
digits_of-drop (suc k) i (suc n) (a ∷ w) h g e =
    let at : k ≡ i + n = omega arith in
    let twice : digits_of (suc k) (drop n w) ≡ digits_of k (drop n w) * 2 = digits_of-suc k (drop n w) (omega (arith, length-drop n w)) in
    let rest : digits_of k (drop n w) ≡ digits_of k w % 2 ^ i * 2 ^ n = digits_of-drop k i n w (omega arith) (omega arith) (omega arith) in
    let below : (letter_rank a * 2 ^ k + digits_of k w) % 2 ^ i ≡ digits_of k w % 2 ^ i =
    ap (λ m. (letter_rank a * 2 ^ m + digits_of k w) % 2 ^ i) at ∙ low (letter_rank a) i n (digits_of k w) in
    let double : digits_of k w % 2 ^ i * 2 ^ n * 2 ≡ digits_of k w % 2 ^ i * 2 ^ suc n = rw (pow-suc 2 n) (grind arith) in
    twice ∙ ap (λ m. m * 2) rest ∙ double ∙ ap (λ m. m * 2 ^ suc n) (sym below)

-- the number of a word without its first n letters
module _ (m : ℕ) (w : List Letter) (p : IsPacked m) (e : word_of m ≡ w) (n : ℕ) (h : n ≤ length w) where
  pub length-kept : length (drop n w) ≤ 24
  length-kept = let within = p.within in omega (arith, length-drop n w, ap length e)

  letters-drop : m / 32 % (1 * 2 ^ (24 - n) % 4294967296) * (1 * 2 ^ n % 4294967296) ≡ digits_of 24 (drop n w)
  letters-drop =
      let within = p.within in
      let small : n ≤ 24 = omega (arith, ap length e) in
      let letters : m / 32 ≡ digits_of 24 w = letters_from m p ∙ ap (digits_of 24) e in
      (λ i. letters i % shift (24 - n) (omega arith) i * shift n small i)
      ∙ sym (digits_of-drop 24 (24 - n) n w (omega (arith, ap length e)) h (omega arith))

  pub letters-drop-lt : m / 32 % (1 * 2 ^ (24 - n) % 4294967296) * (1 * 2 ^ n % 4294967296) < 16777216
  letters-drop-lt = omega (arith, letters-drop, digits_of-lt 24 (drop n w) length-kept)

  pub drop-packed : (g : ℕ) → g ≡ length w → m / 32 % (1 * 2 ^ (24 - n) % 4294967296) * (1 * 2 ^ n % 4294967296) * 32 + (g - n) ≡ packed_of (drop n w)
  unfolding packed_of
  drop-packed g is = omega (arith, letters-drop, length-drop n w)

-- more places put zeros behind the digits
digits_of-more : (n i : ℕ) (w : List Letter) → length w ≤ n → digits_of (n + i) w ≡ digits_of n w * 2 ^ i
digits_of-more n zero w h = let same : n + 0 ≡ n = omega arith in omega (arith, ap (λ k. digits_of k w) same)
digits_of-more n (suc i) w h =
    let same : n + suc i ≡ suc (n + i) = omega arith in
    let twice : digits_of (suc (n + i)) w ≡ digits_of (n + i) w * 2 = digits_of-suc (n + i) w (omega arith) in
    let double : digits_of n w * 2 ^ i * 2 ≡ digits_of n w * 2 ^ suc i = rw (pow-suc 2 i) (grind arith) in
    ap (λ k. digits_of k w) same ∙ twice ∙ ap (λ d. d * 2) (digits_of-more n i w h) ∙ double

-- the digits of a word, from its number
module _ (m : ℕ) (w : List Letter) (p : IsPacked m) (e : word_of m ≡ w) (g : ℕ) (is : g ≡ length w) where
  pub bits-digits_of : m / 32 / 2 ^ (24 - g) ≡ digits_of (length w) w
  bits-digits_of =
      let within = p.within in
      let places : 24 ≡ length w + (24 - g) = omega (arith, ap length e) in
      let letters : m / 32 ≡ digits_of 24 w = letters_from m p ∙ ap (digits_of 24) e in
      let shifted : digits_of 24 w ≡ digits_of (length w) w * 2 ^ (24 - g) =
      ap (λ k. digits_of k w) places ∙ digits_of-more (length w) (24 - g) w (omega arith) in
      ap (λ d. d / 2 ^ (24 - g)) (letters ∙ shifted) ∙ mul-div_cancel (digits_of (length w) w) (pow_pos (24 - g))

pub length-letters_of : (k n : ℕ) → length (letters_of k k n) ≡ k
unfolding letters_of
length-letters_of zero n = refl
length-letters_of (suc k) n = let e = length-letters_of k (n % 2 ^ k) in omega arith

rank-letter : (r : ℕ) → r < 2 → letter_rank (letter_at_rank r) ≡ r
rank-letter zero h = refl
rank-letter (suc zero) h = refl
rank-letter (suc (suc r)) h = absurd (omega arith)

pub digits_of-letters_of : (k n : ℕ) → n < 2 ^ k → digits_of k (letters_of k k n) ≡ n
unfolding letters_of digits_of
digits_of-letters_of zero n h = omega arith
digits_of-letters_of (suc k) n h =
    let twice : n < 2 * 2 ^ k = omega (arith, pow-suc 2 k) in
    let high : n / 2 ^ k < 2 = (div-lt_iff_lt-mul (pow_pos k)).1 twice in
    let low = digits_of-letters_of k (n % 2 ^ k) (mod-lt n (pow_pos k)) in
    (λ i. rank-letter (n / 2 ^ k) high i * 2 ^ k + low i) ∙ split n k

-- the number of the word of k letters with these digits
module _ (k n : ℕ) (h : k ≤ 24) (fits : n < 2 ^ k) where
  pub shifted-digits_of : n * (1 * 2 ^ (24 - k) % 4294967296) ≡ digits_of 24 (letters_of k k n)
  shifted-digits_of =
      let places : k + (24 - k) ≡ 24 = omega arith in
      let long = length-letters_of k n in
      ap (λ t. n * t) (shift (24 - k) (omega arith))
      ∙ sym (ap (λ j. digits_of j (letters_of k k n)) (sym places) ∙ digits_of-more k (24 - k) (letters_of k k n) (omega arith)
      ∙ ap (λ d. d * 2 ^ (24 - k)) (digits_of-letters_of k n fits))

  pub shifted-lt : n * (1 * 2 ^ (24 - k) % 4294967296) < 16777216
  shifted-lt = let long = length-letters_of k n in omega (arith, shifted-digits_of, digits_of-lt 24 (letters_of k k n) (omega arith))

  pub bits-packed : n * (1 * 2 ^ (24 - k) % 4294967296) * 32 + k ≡ packed_of (letters_of k k n)
  unfolding packed_of
  bits-packed = omega (arith, shifted-digits_of, length-letters_of k n)
