-- How deep the words of shuffle and stuffle are.
use Rattle.std.proofs.Common.{◌≡◌, ℕ, zero, suc, ◌+◌, ◌<◌, ◌≤◌, ◌⊎◌, inl, inr, true, Some, List, [], ◌∷◌, ◌++◌, length, map, ap, ◌∙◌, arith}
use Rattle.std.proofs.lemmas.Bool.{cases_eq}
use Rattle.zeta_model.specs.declared.Letter.{Letter}
use Rattle.zeta_model.specs.Words.{depth_of, has_index}
use Rattle.zeta_model.specs.Indices.{z_word}
use Rattle.zeta_model.specs.Product.{rest, behind, total}
use Rattle.zeta_model.specs.Alphabets.{first_z, shuffle_of, stuffle_alphabet, stuffle_of}
use Rattle.zeta_model.specs.Sums.{single, sum_of}
use Rattle.zeta_model.proofs.DepthLemmas.{depth_of-append, depth_of-cons, depth_of-some, depth_of-z_word}
use Rattle.zeta_model.proofs.LetterSteps.{shuffle_of-letters}
use Rattle.zeta_model.proofs.ProductTotals.{total_step, first_shorter}
use Rattle.zeta_model.proofs.ProductWords.{single-other}
use Rattle.zeta_model.proofs.StuffleLetters.{stuffle_laws}
use Rattle.zeta_model.proofs.Totals.{total-append, total-map}
use Rattle.zeta_model.proofs.WordLemmas.{ends-has_index}

abbrev Word : Type 0
Word = List Letter

total-shuffle_of : (f : Word → ℕ) (a b : Letter) (u v : Word)
    → total f (shuffle_of (a ∷ u) (b ∷ v)) ≡ total (λ w. f (a ∷ w)) (shuffle_of u (b ∷ v)) + total (λ w. f (b ∷ w)) (shuffle_of (a ∷ u) v)
total-shuffle_of f a b u v =
    ap (total f) (shuffle_of-letters a b u v)
    ∙ total-append f (map (λ w. a ∷ w) (shuffle_of u (b ∷ v))) (map (λ w. b ∷ w) (shuffle_of (a ∷ u) v))
    ∙ (λ i. total-map f (λ w. a ∷ w) (shuffle_of u (b ∷ v)) i + total-map f (λ w. b ∷ w) (shuffle_of (a ∷ u) v) i)

-- f is zero at the words of depth k
abbrev NoneAt : ℕ → (Word → ℕ) → Type 0
NoneAt k f = (w : Word) → depth_of w ≡ k → f w ≡ 0

NoneAt-behind : (f : Word → ℕ) (a : Letter) (k n : ℕ) → depth_of (a ∷ []) + k ≡ n → NoneAt n f → NoneAt k (λ w. f (a ∷ w))
NoneAt-behind f a k n e h w d = h (a ∷ w) (omega (arith, depth_of-cons a w))

shuffle-none : (n : ℕ) (u v : Word) (f : Word → ℕ) → length u + length v ≤ n → NoneAt (depth_of u + depth_of v) f → total f (shuffle_of u v) ≡ 0
shuffle-none n [] v f l h = omega (arith, h v (omega arith))
shuffle-none n (a ∷ u) [] f l h = omega (arith, h (a ∷ u) (omega arith))
shuffle-none zero (a ∷ u) (b ∷ v) f l h = absurd (omega arith)
shuffle-none (suc n) (a ∷ u) (b ∷ v) f l h =
    let one = shuffle-none n u (b ∷ v) (λ w. f (a ∷ w)) (omega arith)
    (NoneAt-behind f a (depth_of u + depth_of (b ∷ v)) (depth_of (a ∷ u) + depth_of (b ∷ v)) (omega (arith, depth_of-cons a u)) h) in
    let two = shuffle-none n (a ∷ u) v (λ w. f (b ∷ w)) (omega arith)
    (NoneAt-behind f b (depth_of (a ∷ u) + depth_of v) (depth_of (a ∷ u) + depth_of (b ∷ v)) (omega (arith, depth_of-cons b v)) h) in
    omega (arith, total-shuffle_of f a b u v)

pub depth_of-shuffle : (u v t : Word) → 0 < sum_of (shuffle_of u v) t → depth_of t ≡ depth_of u + depth_of v
depth_of-shuffle u v t p = elim (cases_eq (depth_of t) (depth_of u + depth_of v)) as (λ x. depth_of t ≡ depth_of u + depth_of v) [
  | inl e ↦ e
  | inr ne ↦
      let none : sum_of (shuffle_of u v) t ≡ 0 =
      shuffle-none (length u + length v) u v (λ w. single w t) (omega arith) (λ w d. single-other w t (λ same. ne (ap depth_of same ∙ d))) in
      absurd (omega arith)
]

-- f is zero at the words of depth at most k
abbrev NoneTo : ℕ → (Word → ℕ) → Type 0
NoneTo k f = (w : Word) → depth_of w ≤ k → f w ≡ 0

NoneTo-behind : (f : Word → ℕ) (c : Word) (k n : ℕ) → depth_of c + k ≤ n → NoneTo n f → NoneTo k (λ w. f (c ++ w))
NoneTo-behind f c k n e h w d = h (c ++ w) (omega (arith, depth_of-append c w))

module _ (limit : ℕ) where
  -- a word that is not empty is its first letter, of depth 1, and the rest
  record Cut (w : Word) : Type 0 where
    deep : depth_of w ≡ depth_of (first_z w) + depth_of (rest stuffle_alphabet w)
    some : 0 < depth_of (first_z w)
    index : has_index (rest stuffle_alphabet w) ≡ true
    letters : 0 < length (first_z w)
    weight : length (first_z w) + length (rest stuffle_alphabet w) ≡ length w

  cut : (w : Word) → has_index w ≡ true → 0 < length w → length w ≤ limit → Cut w
  cut w c p h =
      let laws = stuffle_laws limit in
      let letter = laws.first_is_letter w c p h in
      let shorter = first_shorter limit stuffle_alphabet laws w c p h in
      record {
        deep = ap depth_of (laws.first_begins w c p h) ∙ depth_of-append (first_z w) (rest stuffle_alphabet w);
        some = depth_of-some (first_z w) (ends-has_index (first_z w) letter.covers letter.some);
        index = laws.covers_rest w c p h;
        letters = shorter.0;
        weight = shorter.1;
      }

  abbrev NoneWithin : ℕ → Type 0
  NoneWithin n = (u v : Word) (f : Word → ℕ) → has_index u ≡ true → has_index v ≡ true → length u + length v ≤ limit → length u + length v ≤ n
      → NoneTo (depth_of u + depth_of v) f → total f (stuffle_of u v) ≡ 0

  stuffle-step : (n : ℕ) → NoneWithin n → (u v : Word) (f : Word → ℕ) → has_index u ≡ true → has_index v ≡ true → 0 < length u → 0 < length v
      → length u + length v ≤ limit → length u + length v ≤ suc n → NoneTo (depth_of u + depth_of v) f → total f (stuffle_of u v) ≡ 0
  stuffle-step n ih u v f cu cv pu pv l m h =
      let a = cut u cu pu (omega arith) in
      let b = cut v cv pv (omega arith) in
      let (da, sa) : (depth_of u ≡ depth_of (first_z u) + depth_of (rest stuffle_alphabet u)) × (0 < depth_of (first_z u)) = (a.deep, a.some) in
      let (db, sb) : (depth_of v ≡ depth_of (first_z v) + depth_of (rest stuffle_alphabet v)) × (0 < depth_of (first_z v)) = (b.deep, b.some) in
      let (la, wa) : (0 < length (first_z u)) × (length (first_z u) + length (rest stuffle_alphabet u) ≡ length u) = (a.letters, a.weight) in
      let (lb, wb) : (0 < length (first_z v)) × (length (first_z v) + length (rest stuffle_alphabet v) ≡ length v) = (b.letters, b.weight) in
      let u' : Word = rest stuffle_alphabet u in
      let v' : Word = rest stuffle_alphabet v in
      let k : ℕ = length (first_z u) + length (first_z v) in
      let one = ih u' v (λ w. f (first_z u ++ w)) a.index cv (omega arith) (omega arith)
      (NoneTo-behind f (first_z u) (depth_of u' + depth_of v) (depth_of u + depth_of v) (omega arith) h) in
      let two = ih u v' (λ w. f (first_z v ++ w)) cu b.index (omega arith) (omega arith)
      (NoneTo-behind f (first_z v) (depth_of u + depth_of v') (depth_of u + depth_of v) (omega arith) h) in
      let both = ih u' v' (λ w. f (z_word k ++ w)) a.index b.index (omega arith) (omega arith)
      (NoneTo-behind f (z_word k) (depth_of u' + depth_of v') (depth_of u + depth_of v) (omega (arith, depth_of-z_word k (omega arith))) h) in
      let joined : total f (behind (Some (z_word k)) (stuffle_of u' v')) ≡ total (λ w. f (z_word k ++ w)) (stuffle_of u' v') =
      total-map f (λ w. z_word k ++ w) (stuffle_of u' v') in
      omega (arith, total_step limit stuffle_alphabet (stuffle_laws limit) f u v cu cv pu pv l, one, two, both, joined)

  stuffle-none : (n : ℕ) → NoneWithin n
  stuffle-none n [] v f cu cv l m h = omega (arith, h v (omega arith))
  stuffle-none n (a ∷ u) [] f cu cv l m h = omega (arith, h (a ∷ u) (omega arith))
  stuffle-none zero (a ∷ u) (b ∷ v) f cu cv l m h = absurd (omega arith)
  stuffle-none (suc n) (a ∷ u) (b ∷ v) f cu cv l m h = stuffle-step n (stuffle-none n) (a ∷ u) (b ∷ v) f cu cv (omega arith) (omega arith) l m h

pub depth_of-stuffle : (u v t : Word) → has_index u ≡ true → has_index v ≡ true → 0 < sum_of (stuffle_of u v) t → depth_of t ≤ depth_of u + depth_of v
depth_of-stuffle u v t cu cv p = elim (deep (depth_of t) (depth_of u + depth_of v)) as (λ x. depth_of t ≤ depth_of u + depth_of v) [
  | inl e ↦ e
  | inr above ↦
      let none : sum_of (stuffle_of u v) t ≡ 0 =
      stuffle-none (length u + length v) (length u + length v) u v (λ w. single w t) cu cv (omega arith) (omega arith)
      (λ w d. single-other w t (λ same. absurd (omega (arith, ap depth_of same)))) in
      absurd (omega arith)
]
  where
    deep : (m n : ℕ) → (m ≤ n) ⊎ (n < m)
    deep zero n = inl (omega arith)
    deep (suc m) zero = inr (omega arith)
    deep (suc m) (suc n) = elim (deep m n) [ inl e ↦ inl (omega (arith, e)) | inr e ↦ inr (omega (arith, e)) ]
