-- Truncated sums multiply by the stuffle, by induction over the greatest number of the lists (Hoffman 1997).
use Rattle.std.proofs.Common.{◌≡◌, ℕ, zero, suc, ◌+◌, ◌*◌, ◌^◌, true, List, [], ◌∷◌, ◌++◌, map, refl, sym, ap, subst, ◌∙◌, arith, ◌%◌}
use Rattle.std.proofs.lemmas.Nat.{pow-add}
use Rattle.zeta_model.specs.declared.Letter.{Letter}
use Rattle.zeta_model.specs.Words.{has_index}
use Rattle.zeta_model.specs.Indices.{z_word, index_of}
use Rattle.zeta_model.specs.Product.{total}
use Rattle.zeta_model.specs.Alphabets.{stuffle_alphabet, stuffle_of}
use Rattle.zeta_model.proofs.Totals.{total-append, total-map, total-plus, total-zero}
use Rattle.zeta_model.proofs.LetterSteps.{stuffle_of-letters, prod-empty_second}
use Rattle.zeta_model.specs.Modular.{Same}
use Rattle.zeta_model.specs.Sums.{SameSum, continued, single, sum_of}
use Rattle.truncated_sums.proofs.Without.{same-terms_total, terms_total-words, continued-words}
use Rattle.truncated_sums.specs.TruncatedSums.{truncated_sum, word_value, terms_value}
use Rattle.truncated_sums.proofs.ListSums.{total-times, total_alike}
use Rattle.truncated_sums.proofs.Truncating.{truncated_sum-zero, truncated_sum-suc}
use Rattle.truncated_sums.proofs.WordIndices.{index_of-z_word, cut_of}

module _ (inverse : ℕ → ℕ) where
  -- opaque, so that a goal shows it as one call
  unfoldable value : ℕ → List Letter → ℕ
  value n w = word_value inverse n w

  value-empty : (n : ℕ) → value n [] ≡ 1
  unfolding value
  value-empty n = refl

  value-zero : (k : ℕ) (w : List Letter) → value 0 (z_word (suc k) ++ w) ≡ 0
  unfolding value
  value-zero k w = ap (truncated_sum inverse 0) (index_of-z_word k w) ∙ truncated_sum-zero inverse (suc k) (index_of w)

  value-suc : (n k : ℕ) (w : List Letter) → value (suc n) (z_word (suc k) ++ w) ≡ inverse (suc n) ^ suc k * value n w + value n (z_word (suc k) ++ w)
  unfolding value
  value-suc n k w =
      ap (truncated_sum inverse (suc n)) (index_of-z_word k w) ∙ truncated_sum-suc inverse n (suc k) (index_of w)
      ∙ ap (λ l. inverse (suc n) ^ suc k * truncated_sum inverse n (index_of w) + truncated_sum inverse n l) (sym (index_of-z_word k w))

  -- the words of a list, each behind z_k
  zero_behind : (k : ℕ) (ws : List (List Letter)) → total (value 0) (map (λ w. z_word (suc k) ++ w) ws) ≡ 0
  zero_behind k ws =
      total-map (value 0) (λ w. z_word (suc k) ++ w) ws ∙ total_alike (λ w. value 0 (z_word (suc k) ++ w)) (λ w. 0) ws (value-zero k) ∙ total-zero ws

  suc_behind : (n k : ℕ) (ws : List (List Letter))
      → total (value (suc n)) (map (λ w. z_word (suc k) ++ w) ws) ≡ inverse (suc n) ^ suc k * total (value n) ws + total (value n) (map (λ w. z_word (suc k) ++ w) ws)
  suc_behind n k ws =
      let power : ℕ = inverse (suc n) ^ suc k in
      total-map (value (suc n)) (λ w. z_word (suc k) ++ w) ws
      ∙ total_alike (λ w. value (suc n) (z_word (suc k) ++ w)) (λ w. power * value n w + value n (z_word (suc k) ++ w)) ws (value-suc n k)
      ∙ total-plus (λ w. power * value n w) (λ w. value n (z_word (suc k) ++ w)) ws
      ∙ (λ i. total-times power (value n) ws i + sym (total-map (value n) (λ w. z_word (suc k) ++ w) ws) i)

  -- the three groups of words of a stuffle
  unfoldable group : ℕ → List (List Letter) → List (List Letter)
  group k ws = map (λ w. z_word (suc k) ++ w) ws

  three_groups : (n k l : ℕ) (u v : List Letter) → has_index u ≡ true → has_index v ≡ true
      → total (value n) (stuffle_of (z_word (suc k) ++ u) (z_word (suc l) ++ v)) ≡ total (value n) (group k (stuffle_of u (z_word (suc l) ++ v))) + total (value n) (group l (stuffle_of (z_word (suc k) ++ u) v)) + total (value n) (group (k + suc l) (stuffle_of u v))
  unfolding group
  three_groups n k l u v cu cv =
      let one = stuffle_of u (z_word (suc l) ++ v) in
      let two = stuffle_of (z_word (suc k) ++ u) v in
      let three = stuffle_of u v in
      let weight : suc k + suc l ≡ suc (k + suc l) = omega arith in
      let parts = total-append (value n) (group k one ++ group l two) (group (k + suc l) three) in
      let more = total-append (value n) (group k one) (group l two) in
      ap (total (value n)) (stuffle_of-letters (suc k) (suc l) u v (omega arith) (omega arith) cu cv)
      ∙ ap (λ j. total (value n) (group k one ++ group l two ++ map (λ w. z_word j ++ w) three)) weight
      ∙ omega (arith, parts, more)

  unfoldable Multiplies : ℕ → List Letter → List Letter → Type 0
  Multiplies n u v = value n u * value n v ≡ total (value n) (stuffle_of u v)

  unfoldable AllMultiply : ℕ → Type 0
  AllMultiply n = (u v : List Letter) → has_index u ≡ true → has_index v ≡ true → Multiplies n u v

  with_empty : (n : ℕ) (v : List Letter) → Multiplies n [] v
  unfolding Multiplies
  with_empty n v = omega (arith, ap (λ x. x * value n v) (value-empty n))

  with_empty_second : (n : ℕ) (u : List Letter) → Multiplies n u []
  unfolding Multiplies
  with_empty_second n u =
      let list : total (value n) (stuffle_of u []) ≡ value n u + 0 = ap (total (value n)) (prod-empty_second stuffle_alphabet u) in
      omega (arith, ap (λ x. value n u * x) (value-empty n), list)

  zero_letters : (k l : ℕ) (u v : List Letter) → has_index u ≡ true → has_index v ≡ true → Multiplies 0 (z_word (suc k) ++ u) (z_word (suc l) ++ v)
  unfolding Multiplies group
  zero_letters k l u v cu cv =
      omega (arith, three_groups 0 k l u v cu cv, zero_behind k (stuffle_of u (z_word (suc l) ++ v)), zero_behind l (stuffle_of (z_word (suc k) ++ u) v), zero_behind (k + suc l) (stuffle_of u v), ap (λ x. x * value 0 (z_word (suc l) ++ v)) (value-zero k u))

  -- a sum of products, multiplied out
  products : (p q a b u v total_one total_two total_three : ℕ) → total_one ≡ a * v → total_two ≡ u * b → total_three ≡ a * b
      → (p * a + u) * (q * b + v) ≡ p * total_one + q * total_two + p * q * total_three + u * v
  products p q a b u v total_one total_two total_three e f g =
      omega (arith, ap (λ x. p * x) e, ap (λ x. q * x) f, ap (λ x. p * q * x) g)

  suc_letters : (n k l : ℕ) (u v : List Letter) → has_index u ≡ true → has_index v ≡ true → has_index (z_word (suc k) ++ u) ≡ true
      → has_index (z_word (suc l) ++ v) ≡ true → AllMultiply n → Multiplies (suc n) (z_word (suc k) ++ u) (z_word (suc l) ++ v)
  unfolding Multiplies AllMultiply group
  suc_letters n k l u v cu cv ck cl ih =
      let uk = z_word (suc k) ++ u in
      let vl = z_word (suc l) ++ v in
      let one = stuffle_of u vl in
      let two = stuffle_of uk v in
      let three = stuffle_of u v in
      let p : ℕ = inverse (suc n) ^ suc k in
      let q : ℕ = inverse (suc n) ^ suc l in
      let weight : suc (k + suc l) ≡ suc k + suc l = omega arith in
      let power : inverse (suc n) ^ suc (k + suc l) ≡ p * q = ap (λ j. inverse (suc n) ^ j) weight ∙ pow-add (inverse (suc n)) (suc k) (suc l) in
      let left : value (suc n) uk * value (suc n) vl ≡ (p * value n u + value n uk) * (q * value n v + value n vl) = (λ i. value-suc n k u i * value-suc n l v i) in
      let out = products p q (value n u) (value n v) (value n uk) (value n vl) (total (value n) one) (total (value n) two) (total (value n) three) (sym (ih u vl cu cl)) (sym (ih uk v ck cv)) (sym (ih u v cu cv)) in
      let first = suc_behind n k one in
      let second = suc_behind n l two in
      let third : total (value (suc n)) (group (k + suc l) three) ≡ p * q * total (value n) three + total (value n) (group (k + suc l) three) = suc_behind n (k + suc l) three ∙ ap (λ x. x * total (value n) three + total (value n) (group (k + suc l) three)) power in
      let now = three_groups (suc n) k l u v cu cv in
      let before = three_groups n k l u v cu cv in
      let whole = ih uk vl ck cl in
      left ∙ out ∙ omega (arith, first, second, third, now, before, whole)

  from_letters : (n : ℕ) → ((k l : ℕ) (u v : List Letter) → has_index u ≡ true → has_index v ≡ true → has_index (z_word (suc k) ++ u) ≡ true
      → has_index (z_word (suc l) ++ v) ≡ true → Multiplies n (z_word (suc k) ++ u) (z_word (suc l) ++ v)) → AllMultiply n
  unfolding AllMultiply
  from_letters n step [] v cu cv = with_empty n v
  from_letters n step (a ∷ u) [] cu cv = with_empty_second n (a ∷ u)
  from_letters n step (a ∷ u) (b ∷ v) cu cv =
      let r = cut_of a u cu in
      let s = cut_of b v cv in
      subst (λ w. Multiplies n w (b ∷ v)) (sym r.2.whole)
      (subst (λ w. Multiplies n (z_word (suc r.0) ++ r.1) w) (sym s.2.whole)
      (step r.0 s.0 r.1 s.1 r.2.covers s.2.covers (subst (λ w. has_index w ≡ true) r.2.whole cu) (subst (λ w. has_index w ≡ true) s.2.whole cv)))

  all_multiply : (n : ℕ) → AllMultiply n
  all_multiply zero = from_letters 0 (λ k l u v cu cv ck cl. zero_letters k l u v cu cv)
  all_multiply (suc n) = from_letters (suc n) (λ k l u v cu cv ck cl. suc_letters n k l u v cu cv ck cl (all_multiply n))

  pub word_value-stuffle : (n : ℕ) (u v : List Letter) → has_index u ≡ true → has_index v ≡ true
      → word_value inverse n u * word_value inverse n v ≡ total (word_value inverse n) (stuffle_of u v)
  unfolding value Multiplies AllMultiply
  word_value-stuffle n u v cu cv = all_multiply n u v cu cv

  -- terms with the coefficients of the stuffle have its value
  pub terms_value-stuffle : (m n : ℕ) (u v : List Letter) (terms : List (ℕ × List Letter)) → has_index u ≡ true → has_index v ≡ true
      → SameSum m (continued single terms) (sum_of (stuffle_of u v)) → Same m (terms_value inverse n terms) (word_value inverse n u * word_value inverse n v)
  terms_value-stuffle m n u v terms cu cv same =
      let words = stuffle_of u v in
      let once : List (ℕ × List Letter) = map (λ w. (1, w)) words in
      same-terms_total m (word_value inverse n) terms once (λ t. same t ∙ ap (λ x. x % m) (sym (continued-words words t)))
      ∙ ap (λ x. x % m) (terms_total-words (word_value inverse n) words ∙ sym (word_value-stuffle n u v cu cv))
