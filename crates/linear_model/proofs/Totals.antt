-- Sums of finite families, exactly and modulo m.
use Rattle.std.specs.Prelude.{◌≡◌, ◌≢◌, ℕ, zero, suc, ◌+◌, ◌*◌, ◌%◌, ◌<◌}
use Rattle.std.proofs.Common.{refl, sym, ◌∙◌, ap, inl, inr, arith}
use Rattle.std.proofs.lemmas.Bool.{cases_eq}
use Rattle.zeta_model.specs.Modular.{Same}
use Rattle.zeta_model.proofs.ModularLemmas.{same-add, same-add_left, same-add_right, same-cancel}
use Rattle.linear_model.specs.Rows.{total}

pub total-zero : (n : ℕ) → total n (λ _. 0) ≡ 0
total-zero zero = refl
total-zero (suc n) = omega (arith, total-zero n)

-- `n + 1` is no `suc n` to the checker
pub total_one_more : (n : ℕ) (f : ℕ → ℕ) → total (n + 1) f ≡ total n f + f n
total_one_more n f = let e : n + 1 ≡ suc n = omega arith in ap (λ k. total k f) e

pub total-add : (n : ℕ) (f g : ℕ → ℕ) → total n (λ i. f i + g i) ≡ total n f + total n g
total-add zero f g = omega arith
total-add (suc n) f g = omega (arith, total-add n f g)

pub mul-total : (n c : ℕ) (f : ℕ → ℕ) → c * total n f ≡ total n (λ i. c * f i)
mul-total zero c f = omega arith
mul-total (suc n) c f = let e : c * (total n f + f n) ≡ c * total n f + c * f n = omega arith in e ∙ ap (λ x. x + c * f n) (mul-total n c f)

pub total-mul : (n c : ℕ) (f : ℕ → ℕ) → total n f * c ≡ total n (λ i. f i * c)
total-mul zero c f = omega arith
total-mul (suc n) c f = let e : (total n f + f n) * c ≡ total n f * c + f n * c = omega arith in e ∙ ap (λ x. x + f n * c) (total-mul n c f)

-- a double sum may be taken in either order
pub total-total : (n k : ℕ) (f : ℕ → ℕ → ℕ) → total n (λ i. total k (λ l. f i l)) ≡ total k (λ l. total n (λ i. f i l))
total-total zero k f = sym (total-zero k)
total-total (suc n) k f = ap (λ x. x + total k (λ l. f n l)) (total-total n k f) ∙ sym (total-add k (λ l. total n (λ i. f i l)) (λ l. f n l))

-- equal terms have equal sums
pub total_alike : (n : ℕ) (f g : ℕ → ℕ) → ((i : ℕ) → f i ≡ g i) → total n f ≡ total n g
total_alike zero f g h = refl
total_alike (suc n) f g h = λ z. total_alike n f g h z + h n z

module _ (m : ℕ) where
  pub same-total : (n : ℕ) (f g : ℕ → ℕ) → ((i : ℕ) → i < n → Same m (f i) (g i)) → Same m (total n f) (total n g)
  same-total zero f g h = refl
  same-total (suc n) f g h = same-add m _ _ _ _ (same-total n f g (λ i l. h i (omega arith))) (h n (omega arith))

  -- a sum vanishes where all its terms do
  pub total_vanishes : (n : ℕ) (f : ℕ → ℕ) → ((i : ℕ) → i < n → Same m (f i) 0) → Same m (total n f) 0
  total_vanishes zero f h = refl
  total_vanishes (suc n) f h = same-add m _ 0 _ 0 (total_vanishes n f (λ i l. h i (omega arith))) (h n (omega arith))

  -- a sum is its term at i where all others vanish
  pub total_one_term : (n : ℕ) (f : ℕ → ℕ) (i : ℕ) → i < n → ((k : ℕ) → k < n → k ≢ i → Same m (f k) 0) → Same m (total n f) (f i)
  total_one_term zero f i l h = absurd (omega arith)
  total_one_term (suc n) f i l h =
      elim (cases_eq i n) [
        | inl e ↦ same-add m (total n f) 0 (f n) (f i) (total_vanishes n f (λ k lk. h k (omega arith) (omega arith))) (ap (λ x. f x % m) (sym e))
            ∙ ap (λ x. x % m) (omega arith)
        | inr ne ↦ same-add m (total n f) (f i) (f n) 0 (total_one_term n f i (omega arith) (λ k lk. h k (omega arith))) (h n (omega arith) (omega arith))
            ∙ ap (λ x. x % m) (omega arith)
      ]

  -- where two sums agree, and all their terms but those at i, these agree too
  pub same_term : (n : ℕ) (f g : ℕ → ℕ) (i : ℕ) → 0 < m → i < n → ((k : ℕ) → k < n → k ≢ i → Same m (f k) (g k)) → Same m (total n f) (total n g)
      → Same m (f i) (g i)
  same_term zero f g i pos l h e = absurd (omega arith)
  same_term (suc n) f g i pos l h e =
      elim (cases_eq i n) [
        | inl is ↦
            let below : Same m (total n f) (total n g) = same-total n f g (λ k lk. h k (omega arith) (omega arith)) in
            let turned : Same m (f n + total n f) (g n + total n f) =
            ap (λ x. x % m) (omega arith) ∙ e ∙ same-add_right m (total n g) (total n f) (g n) (sym below) ∙ ap (λ x. x % m) (omega arith) in
            ap (λ x. f x % m) is ∙ same-cancel m (f n) (g n) (total n f) pos turned ∙ ap (λ x. g x % m) (sym is)
        | inr ne ↦
            let last : Same m (f n) (g n) = h n (omega arith) (omega arith) in
            same_term n f g i pos (omega arith) (λ k lk. h k (omega arith))
            (same-cancel m (total n f) (total n g) (f n) pos (e ∙ same-add_left m (g n) (f n) (total n g) (sym last)))
      ]
