-- The alternating identity of the regularisation: y^j x u is the alternating sum of y^(j-i) times x (y^i times u).
use Rattle.std.proofs.Common.{◌≡◌, ℕ, zero, suc, ◌+◌, ◌-◌, ◌*◌, ◌%◌, ◌≤◌, List, ◌∷◌, ◌++◌, length, refl, sym, ap, ◌∙◌, arith}
use Rattle.zeta_model.specs.declared.Letter.{Letter}
use Rattle.zeta_model.specs.declared.Letter.TheVariants.{X, Y}
use Rattle.zeta_model.specs.Modular.{Same}
use Rattle.zeta_model.specs.Product.{total}
use Rattle.zeta_model.specs.Alphabets.{shuffle_alphabet, shuffle_of}
use Rattle.zeta_model.specs.Regularise.{y_word, sign_of, sum_to, nested_words, IsRegularised}
use Rattle.zeta_model.proofs.ModularLemmas.{same-cancel}
use Rattle.zeta_model.proofs.Totals.{total-plus, total-flat_map}
use Rattle.zeta_model.proofs.ProductTotals.{total_step, total_cong}
use Rattle.zeta_model.proofs.ProductLaws.{total_turn}
use Rattle.zeta_model.proofs.ShuffleLetters.{shuffle_laws}
use Rattle.zeta_model.proofs.Binomials.{interleavings, alternating, alternating-interleavings_whole, alternating-multiples}
use Rattle.zeta_model.proofs.Signs.{sum_to-signs, sum_to-cong}

abbrev Word : Type 0
Word = List Letter

pub length-y_word : (j : ℕ) → length (y_word j) ≡ j
length-y_word zero = refl
length-y_word (suc j) = omega (arith, length-y_word j)

-- the sum of f over y^k times x (y^i times u)
nested_total : (Word → ℕ) → ℕ → ℕ → Word → ℕ
nested_total f k i u = total (λ w. total f (shuffle_of (y_word k) (X ∷ w))) (shuffle_of (y_word i) u)

-- the sum of f over y^k times (y^i times u)
plain_total : (Word → ℕ) → ℕ → ℕ → Word → ℕ
plain_total f k i u = total (λ w. total f (shuffle_of (y_word k) w)) (shuffle_of (y_word i) u)

module _ (limit : ℕ) where
  -- the first letter of a product with y^(k+1) is y or x
  total-y_word : (f : Word → ℕ) (k : ℕ) (w : Word) → k + length w + 2 ≤ limit
      → total f (shuffle_of (y_word (suc k)) (X ∷ w))
      ≡ total (λ t. f (Y ∷ t)) (shuffle_of (y_word k) (X ∷ w)) + total (λ t. f (X ∷ t)) (shuffle_of (y_word (suc k)) w)
  total-y_word f k w h =
      let n = length-y_word k in
      let e = total_step limit shuffle_alphabet (shuffle_laws limit) f (Y ∷ y_word k) (X ∷ w) refl refl (omega arith) (omega arith) (omega arith) in
      omega arith

  nested_total-suc : (f : Word → ℕ) (k i : ℕ) (u : Word) → k + i + length u + 2 ≤ limit
      → nested_total f (suc k) i u ≡ nested_total (λ t. f (Y ∷ t)) k i u + plain_total (λ t. f (X ∷ t)) (suc k) i u
  unfolding nested_total plain_total
  nested_total-suc f k i u h =
      let n = length-y_word i in
      total_cong limit shuffle_alphabet (shuffle_laws limit) (λ w. total f (shuffle_of (y_word (suc k)) (X ∷ w)))
      (λ w. total (λ t. f (Y ∷ t)) (shuffle_of (y_word k) (X ∷ w)) + total (λ t. f (X ∷ t)) (shuffle_of (y_word (suc k)) w)) (y_word i) u refl refl
      (omega arith) (λ w c m. total-y_word f k w (omega arith))
      ∙ total-plus (λ w. total (λ t. f (Y ∷ t)) (shuffle_of (y_word k) (X ∷ w))) (λ w. total (λ t. f (X ∷ t)) (shuffle_of (y_word (suc k)) w))
      (shuffle_of (y_word i) u)

  nested_total-zero : (f : Word → ℕ) (i : ℕ) (u : Word) → nested_total f 0 i u ≡ plain_total (λ t. f (X ∷ t)) 0 i u
  unfolding nested_total plain_total
  nested_total-zero f i u = refl

  -- y^k times y^i is so many times y^(k+i)
  total-y_words : (g : Word → ℕ) (k i n : ℕ) → k + i ≡ n → n ≤ limit → total g (shuffle_of (y_word k) (y_word i)) ≡ interleavings k i * g (y_word n)
  unfolding interleavings
  total-y_words g zero i n e h = let j : i ≡ n = omega arith in omega (arith, ap (λ m. g (y_word m)) j)
  total-y_words g (suc k) zero n e h = let j : suc k ≡ n = omega arith in omega (arith, ap (λ m. g (y_word m)) j)
  total-y_words g (suc k) (suc i) zero e h = absurd (omega arith)
  total-y_words g (suc k) (suc i) (suc n) e h =
      let a = length-y_word k in
      let b = length-y_word i in
      let step = total_step limit shuffle_alphabet (shuffle_laws limit) g (Y ∷ y_word k) (Y ∷ y_word i) refl refl (omega arith) (omega arith)
      (omega arith) in
      let one = total-y_words (λ t. g (Y ∷ t)) k (suc i) n (omega arith) (omega arith) in
      let two = total-y_words (λ t. g (Y ∷ t)) (suc k) i n (omega arith) (omega arith) in
      let sum : (interleavings k (suc i) + interleavings (suc k) i) * g (Y ∷ y_word n)
      ≡ interleavings k (suc i) * g (Y ∷ y_word n) + interleavings (suc k) i * g (Y ∷ y_word n) = grind arith in
      omega arith

  plain_total-interleavings : (f : Word → ℕ) (k i n : ℕ) (u : Word) → k + i ≡ n → n + length u ≤ limit
      → plain_total f k i u ≡ interleavings k i * total f (shuffle_of (y_word n) u)
  unfolding plain_total
  plain_total-interleavings f k i n u e h =
      let a = length-y_word k in
      let b = length-y_word i in
      total_turn limit shuffle_alphabet (shuffle_laws limit) f (y_word k) (y_word i) u refl refl refl (omega arith)
      ∙ total-y_words (λ t. total f (shuffle_of t u)) k i n e (omega arith)

  alternating-nested_total : (f : Word → ℕ) (u : Word) (k i : ℕ) → k + i + length u + 2 ≤ limit
      → ((alternating (λ a b. nested_total f a b u) (suc k) i).0
      ≡ (alternating (λ a b. nested_total (λ t. f (Y ∷ t)) a b u) k i).0 + (alternating (λ a b. plain_total (λ t. f (X ∷ t)) a b u) (suc k) i).0)
      × ((alternating (λ a b. nested_total f a b u) (suc k) i).1
      ≡ (alternating (λ a b. nested_total (λ t. f (Y ∷ t)) a b u) k i).1 + (alternating (λ a b. plain_total (λ t. f (X ∷ t)) a b u) (suc k) i).1)
  unfolding alternating
  alternating-nested_total f u zero i h = (omega (arith, nested_total-suc f 0 i u h), omega (arith, nested_total-zero f (suc i) u))
  alternating-nested_total f u (suc k) i h =
      let r = alternating-nested_total f u k (suc i) (omega arith) in
      let s = nested_total-suc f (suc k) i u h in
      (omega arith, omega arith)

  -- the identity in numbers: what has a minus stands on the left
  regular_total : (f : Word → ℕ) (j : ℕ) (u : Word) → j + length u + 1 ≤ limit
      → f (y_word j ++ X ∷ u) + (alternating (λ k i. nested_total f k i u) j 0).1 ≡ (alternating (λ k i. nested_total f k i u) j 0).0
  unfolding alternating nested_total
  regular_total f zero u h = omega arith
  regular_total f (suc j) u h =
      let ih = regular_total (λ t. f (Y ∷ t)) j u (omega arith) in
      let a = alternating-nested_total f u j 0 (omega arith) in
      let c : ℕ = total (λ t. f (X ∷ t)) (shuffle_of (y_word (suc j)) u) in
      let g = alternating-multiples (λ k i. plain_total (λ t. f (X ∷ t)) k i u) c (suc j) 0 (suc j) (omega arith)
      (λ k i e. plain_total-interleavings (λ t. f (X ∷ t)) k i (suc j) u e (omega arith)) in
      let b : (alternating interleavings (suc j) 0).0 * c ≡ (alternating interleavings (suc j) 0).1 * c =
      ap (λ n. n * c) (alternating-interleavings_whole j) in
      omega arith

pub regularised : (j : ℕ) (u : Word) → IsRegularised j u
unfolding nested_total
regularised j u m f pos =
    let minus : ℕ = (alternating (λ k i. nested_total f k i u) j 0).1 in
    let plus : ℕ = (alternating (λ k i. nested_total f k i u) j 0).0 in
    let exact : f (y_word j ++ X ∷ u) + minus ≡ plus = regular_total (j + length u + 1) f j u (omega arith) in
    let signs : Same m (sum_to j (λ i. sign_of m i * nested_total f (j - i) i u) + minus) plus = sum_to-signs m pos (λ k i. nested_total f k i u) j in
    let terms : (i : ℕ) → sign_of m i * nested_total f (j - i) i u ≡ sign_of m i * total f (nested_words (j - i) i u) =
    λ i. ap (λ n. sign_of m i * n) (sym (total-flat_map f (λ t. shuffle_of (y_word (j - i)) (X ∷ t)) (shuffle_of (y_word i) u))) in
    same-cancel m (f (y_word j ++ X ∷ u)) _ minus pos (ap (λ n. n % m) exact ∙ sym signs) ∙ ap (λ n. n % m) (sum_to-cong j _ _ terms)
