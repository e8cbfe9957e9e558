-- Signs modulo m: an alternating sum by signs, and by two sums of which one is taken away.
use Rattle.std.proofs.Common.{◌≡◌, ℕ, zero, suc, ◌+◌, ◌-◌, ◌*◌, ◌%◌, ◌<◌, sym, ap, ◌∙◌, arith}
use Rattle.zeta_model.specs.Modular.{Same}
use Rattle.zeta_model.specs.Regularise.{sign_of, sum_to}
use Rattle.zeta_model.proofs.ModularLemmas.{same-add_left, same-add_right, same-mul_right, same-multiple, same-opposite}
use Rattle.zeta_model.proofs.Binomials.{alternating}

pub sum_to-cong : (n : ℕ) (f g : ℕ → ℕ) → ((i : ℕ) → f i ≡ g i) → sum_to n f ≡ sum_to n g
sum_to-cong zero f g e = e 0
sum_to-cong (suc n) f g e = λ i. e 0 i + sum_to-cong n (λ r. f (suc r)) (λ r. g (suc r)) (λ r. e (suc r)) i

module _ (m : ℕ) (pos : 0 < m) where
  less_one-squared : Same m ((m - 1) * (m - 1)) 1
  less_one-squared =
      let e : (m - 1) * (m - 1) + m * 1 ≡ 1 + (m - 1) + (m - 1) * (m - 1) = omega arith in
      sym (same-multiple m ((m - 1) * (m - 1)) 1) ∙ ap (λ x. x % m) e ∙ same-opposite m 1 (m - 1) pos

  sign_of-suc : (j : ℕ) → Same m (sign_of m j * (m - 1)) (sign_of m (suc j))
  sign_of-suc zero = ap (λ x. x % m) (omega arith)
  sign_of-suc (suc zero) = less_one-squared
  sign_of-suc (suc (suc j)) = sign_of-suc j

  -- F k i, less F (k - 1) (i + 1), and so on
  turning : (ℕ → ℕ → ℕ) → ℕ → ℕ → ℕ
  turning F zero i = F 0 i
  turning F (suc k) i = F (suc k) i + turning F k (suc i) * (m - 1)

  turning-alternating : (F : ℕ → ℕ → ℕ) (k i : ℕ) → Same m (turning F k i + (alternating F k i).1) (alternating F k i).0
  unfolding turning alternating
  turning-alternating F zero i = ap (λ x. x % m) (omega arith)
  turning-alternating F (suc k) i =
      let a : ℕ = F (suc k) i in
      let t : ℕ = turning F k (suc i) in
      let plus : ℕ = (alternating F k (suc i)).0 in
      let minus : ℕ = (alternating F k (suc i)).1 in
      let ih : Same m (t + minus) plus = turning-alternating F k (suc i) in
      let e : a + minus + t + t * (m - 1) ≡ a + t * (m - 1) + (t + minus) = omega arith in
      same-add_left m plus (t + minus) (a + t * (m - 1)) (sym ih) ∙ ap (λ x. x % m) (sym e) ∙ same-opposite m (a + minus) t pos

  sign_of-turning : (F : ℕ → ℕ → ℕ) (k i : ℕ) → Same m (sign_of m i * turning F k i) (sum_to k (λ r. sign_of m (i + r) * F (k - r) (i + r)))
  unfolding turning
  sign_of-turning F zero i = let e : i ≡ i + 0 = omega arith in ap (λ n. sign_of m n * F 0 n % m) e
  sign_of-turning F (suc k) i =
      let s : ℕ = sign_of m i in
      let t : ℕ = turning F k (suc i) in
      let apart : s * (F (suc k) i + t * (m - 1)) ≡ s * F (suc k) i + s * (m - 1) * t = grind arith in
      let e : i ≡ i + 0 = omega arith in
      let all : suc k ≡ suc k - 0 = omega arith in
      let front : s * F (suc k) i ≡ sign_of m (i + 0) * F (suc k - 0) (i + 0) = λ h. sign_of m (e h) * F (all h) (e h) in
      let shift : (r : ℕ) → sign_of m (suc i + r) * F (k - r) (suc i + r) ≡ sign_of m (i + suc r) * F (suc k - suc r) (i + suc r) =
      λ r. let d : suc i + r ≡ i + suc r = omega arith in let c : k - r ≡ suc k - suc r = omega arith in λ h. sign_of m (d h) * F (c h) (d h) in
      let behind : sum_to k (λ r. sign_of m (suc i + r) * F (k - r) (suc i + r)) ≡ sum_to k (λ r. sign_of m (i + suc r) * F (suc k - suc r) (i + suc r)) =
      sum_to-cong k _ _ shift in
      ap (λ x. x % m) apart
      ∙ same-add_left m (s * (m - 1) * t) (sign_of m (suc i) * t) (s * F (suc k) i) (same-mul_right m (s * (m - 1)) (sign_of m (suc i)) t (sign_of-suc i))
      ∙ same-add_left m (sign_of m (suc i) * t) _ (s * F (suc k) i) (sign_of-turning F k (suc i))
      ∙ (λ h. (front h + behind h) % m)

  -- the sum by signs is what stands with a plus less what stands with a minus
  pub sum_to-signs : (F : ℕ → ℕ → ℕ) (j : ℕ) → Same m (sum_to j (λ i. sign_of m i * F (j - i) i) + (alternating F j 0).1) (alternating F j 0).0
  unfolding turning
  sum_to-signs F j =
      let t : ℕ = turning F j 0 in
      let minus : ℕ = (alternating F j 0).1 in
      let signs : ℕ = sum_to j (λ i. sign_of m i * F (j - i) i) in
      let shift : (r : ℕ) → sign_of m (0 + r) * F (j - r) (0 + r) ≡ sign_of m r * F (j - r) r = λ r. let d : 0 + r ≡ r = omega arith in
      λ h. sign_of m (d h) * F (j - r) (d h) in
      let one : t ≡ 1 * t = omega arith in
      let same : Same m t signs = ap (λ x. x % m) one ∙ sign_of-turning F j 0 ∙ ap (λ x. x % m) (sum_to-cong j _ _ shift) in
      same-add_right m signs t minus (sym same) ∙ turning-alternating F j 0
