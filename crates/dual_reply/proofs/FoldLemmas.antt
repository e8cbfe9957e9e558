-- Folding a sum by duality is linear, kills u - dual u, and changes the sum by a combination of such.
use Rattle.std.proofs.Common.{◌≡◌, ℕ, ◌+◌, ◌-◌, ◌*◌, ◌%◌, ◌<◌, ⊎_elim, List, [], ◌∷◌, ◌++◌, refl, sym, ap, ◌∙◌, arith}
use Rattle.zeta_model.specs.Duality.{dual_of, representative_of}
use Rattle.zeta_model.specs.Modular.{Same}
use Rattle.zeta_model.proofs.ModularLemmas.{same-add, same-add_right, same-mul_left, same-multiple}
use Rattle.zeta_model.specs.Sums.{single, difference}
use Rattle.zeta_model.proofs.SumLemmas.{continued-append}
use Rattle.dual_reply.specs.Sums.{sign_number, word_sum, folded_sum, dual_sum}
use Rattle.dual_reply.specs.declared.words.Signed.{Signed}
use Rattle.zeta_model.proofs.DualityLaws.{representative_of-dual_of}
use Rattle.duality_map.proofs.DualLetters.{representative_cases}
use Rattle.dual_reply.proofs.SumLemmas.{W, single-same, single-other, word_cases, folded_at, by_kind, folded_at-none, folded_at-self, folded_at-pair}
use Rattle.dual_reply.proofs.SumLemmas.{single-representative_of}

times_one_more : (k x : ℕ) → 1 * x + k * x ≡ (k + 1) * x
times_one_more k x = omega arith

times : (m x : ℕ) → 0 < m → 1 * x + (m - 1) * x ≡ m * x
times m x h = times_one_more (m - 1) x ∙ ap (λ n. n * x) (let e : m - 1 + 1 ≡ m = omega arith in e)

module _ (r : W) where
  -- folding is linear
  folded_at-plus : (f g : W → ℕ) (a b : ℕ) → folded_at (λ w. a * f w + b * g w) r ≡ a * folded_at f r + b * folded_at g r
  folded_at-plus f g a b = by_kind r (folded_at (λ w. a * f w + b * g w) r ≡ a * folded_at f r + b * folded_at g r)
      (λ n. let x = folded_at-none (λ w. a * f w + b * g w) r n in let y = folded_at-none f r n in let z = folded_at-none g r n in
      x ∙ (let e : 0 ≡ a * 0 + b * 0 = omega arith in e) ∙ (λ i. a * sym y i + b * sym z i))
      (λ p d. folded_at-self (λ w. a * f w + b * g w) r p d ∙ (λ i. a * sym (folded_at-self f r p d) i + b * sym (folded_at-self g r p d) i))
      (λ p d. folded_at-pair (λ w. a * f w + b * g w) r p d
      ∙ (let e : (a * f r + b * g r) + (a * f (dual_of r) + b * g (dual_of r)) ≡ a * (f r + f (dual_of r)) + b * (g r + g (dual_of r)) = omega arith in e)
      ∙ (λ i. a * sym (folded_at-pair f r p d) i + b * sym (folded_at-pair g r p d) i))

  -- folding keeps equality modulo m
  folded_at-same : (m : ℕ) (f g : W → ℕ) → ((w : W) → Same m (f w) (g w)) → Same m (folded_at f r) (folded_at g r)
  folded_at-same m f g h = by_kind r (Same m (folded_at f r) (folded_at g r))
      (λ n. ap (λ k. k % m) (folded_at-none f r n ∙ sym (folded_at-none g r n)))
      (λ p d. ap (λ k. k % m) (folded_at-self f r p d) ∙ h r ∙ ap (λ k. k % m) (sym (folded_at-self g r p d)))
      (λ p d. ap (λ k. k % m) (folded_at-pair f r p d) ∙ same-add m (f r) (g r) (f (dual_of r)) (g (dual_of r)) (h r) (h (dual_of r))
      ∙ ap (λ k. k % m) (sym (folded_at-pair g r p d)))

  -- folding the sum of some words is replacing each by its representative
  pub folded_sum-is : (m : ℕ) (ts : List Signed) → folded_sum m ts r ≡ folded_at (word_sum m ts) r
  folded_sum-is m [] = by_kind r (0 ≡ folded_at (λ w. 0) r)
      (λ n. sym (folded_at-none (λ w. 0) r n))
      (λ p d. sym (folded_at-self (λ w. 0) r p d))
      (λ p d. sym (folded_at-pair (λ w. 0) r p d ∙ (let e : 0 + 0 ≡ 0 = refl in e)))
  folded_sum-is m (t ∷ ts) =
      let n = sign_number m t.negative in
      let one : 1 * folded_at (word_sum m ts) r ≡ folded_at (word_sum m ts) r = omega arith in
      let whole : (w : W) → n * single t.word w + 1 * word_sum m ts w ≡ word_sum m (t ∷ ts) w = λ w. omega arith in
      (λ i. n * single-representative_of t.word r i + folded_sum-is m ts i)
      ∙ (λ i. n * folded_at (single t.word) r + sym one i)
      ∙ sym (folded_at-plus (single t.word) (word_sum m ts) n 1)
      ∙ (λ i. folded_at (λ w. whole w i) r)

  -- a combination of sums u - dual u folds to nothing
  folded_at-dual_sum : (m : ℕ) (cs : List (ℕ × W)) → 0 < m → Same m (folded_at (dual_sum m cs) r) 0
  folded_at-dual_sum m [] h = ap (λ k. k % m) (sym (folded_sum-is m []))
  folded_at-dual_sum m (c ∷ cs) h =
      let u = c.1 in
      let x = single (representative_of u) r in
      let inner = λ (w : W). single u w + (m - 1) * single (dual_of u) w in
      let one : (w : W) → 1 * single u w + (m - 1) * single (dual_of u) w ≡ inner w = λ w. omega arith in
      let unit : (w : W) → c.0 * inner w + 1 * dual_sum m cs w ≡ dual_sum m (c ∷ cs) w = λ w. omega arith in
      let a : folded_at inner r ≡ 1 * folded_at (single u) r + (m - 1) * folded_at (single (dual_of u)) r =
      (λ i. folded_at (λ w. sym (one w) i) r) ∙ folded_at-plus (single u) (single (dual_of u)) 1 (m - 1) in
      let b : folded_at (single (dual_of u)) r ≡ x = sym (single-representative_of (dual_of u) r) ∙ ap (λ v. single v r) (representative_of-dual_of u) in
      let d : 1 * folded_at (single u) r + (m - 1) * folded_at (single (dual_of u)) r ≡ 1 * x + (m - 1) * x =
      λ i. 1 * sym (single-representative_of u r) i + (m - 1) * b i in
      let e : 1 * x + (m - 1) * x ≡ m * x = times m x h in
      let f : folded_at (dual_sum m (c ∷ cs)) r ≡ c.0 * folded_at inner r + 1 * folded_at (dual_sum m cs) r =
      (λ i. folded_at (λ w. sym (unit w) i) r) ∙ folded_at-plus inner (dual_sum m cs) c.0 1 in
      let g : c.0 * folded_at inner r ≡ c.0 * (m * x) = ap (λ k. c.0 * k) (a ∙ d ∙ e) in
      let k : c.0 * (m * x) + 1 * folded_at (dual_sum m cs) r ≡ folded_at (dual_sum m cs) r + m * (c.0 * x) = omega arith in
      ap (λ n. n % m) (f ∙ (λ i. g i + 1 * folded_at (dual_sum m cs) r) ∙ k)
      ∙ same-multiple m (folded_at (dual_sum m cs) r) (c.0 * x)
      ∙ folded_at-dual_sum m cs h

  -- where two sums differ by such a combination they fold to the same
  pub folded_sums_same : (m : ℕ) (ss ts : List Signed) (cs : List (ℕ × W)) → 0 < m
      → ((w : W) → difference m (word_sum m ss) (word_sum m ts) w % m ≡ dual_sum m cs w % m) → Same m (folded_sum m ss r) (folded_sum m ts r)
  folded_sums_same m ss ts cs p h =
      let f = word_sum m ss in
      let g = word_sum m ts in
      let x = folded_sum m ss r in
      let y = folded_sum m ts r in
      let one : (w : W) → 1 * f w + (m - 1) * g w ≡ difference m f g w = λ w. omega arith in
      let a : folded_at (difference m f g) r ≡ 1 * folded_at f r + (m - 1) * folded_at g r =
      (λ i. folded_at (λ w. sym (one w) i) r) ∙ folded_at-plus f g 1 (m - 1) in
      let b : 1 * folded_at f r + (m - 1) * folded_at g r ≡ 1 * x + (m - 1) * y =
      λ i. 1 * sym (folded_sum-is m ss) i + (m - 1) * sym (folded_sum-is m ts) i in
      let z : Same m (1 * x + (m - 1) * y) 0 =
      ap (λ k. k % m) (sym (a ∙ b)) ∙ folded_at-same m (difference m f g) (dual_sum m cs) h ∙ folded_at-dual_sum m cs p in
      let t : 1 * y + (m - 1) * y ≡ m * y = times m y p in
      let e : (1 * x + (m - 1) * y) + y ≡ x + m * y = omega arith in
      let k : 0 + y ≡ y = omega arith in
      sym (same-multiple m x y) ∙ ap (λ n. n % m) (sym e) ∙ same-add_right m (1 * x + (m - 1) * y) 0 y z ∙ ap (λ n. n % m) k

-- what folding changes in a sum, as a combination of sums u - dual u
abbrev pub corrections : ℕ → List Signed → List (ℕ × W)
corrections m [] = []
corrections m (t ∷ ts) = (sign_number m t.negative * (1 - single (representative_of t.word) t.word), t.word) ∷ corrections m ts

abbrev pub scaled : ℕ → List (ℕ × W) → List (ℕ × W)
scaled k [] = []
scaled k (c ∷ cs) = (k * c.0, c.1) ∷ scaled k cs

dual_sum-scaled : (m k : ℕ) (cs : List (ℕ × W)) (w : W) → dual_sum m (scaled k cs) w ≡ k * dual_sum m cs w
dual_sum-scaled m k [] w = omega arith
dual_sum-scaled m k (c ∷ cs) w =
    let x = single c.1 w + (m - 1) * single (dual_of c.1) w in
    let e : k * c.0 * x + k * dual_sum m cs w ≡ k * (c.0 * x + dual_sum m cs w) = omega arith in
    (λ i. k * c.0 * x + dual_sum-scaled m k cs w i) ∙ e

term_corrected : (m n : ℕ) (u w : W) → 0 < m
    → Same m (n * single u w) (n * single (representative_of u) w + n * (1 - single (representative_of u) u) *
    (single u w + (m - 1) * single (dual_of u) w))
term_corrected m n u w h =
    let x = single u w in
    let y = single (dual_of u) w in
    ⊎_elim
    (λ e.
    let q : single (representative_of u) u ≡ 1 = single-same (representative_of u) u e in
    let z : n * x ≡ n * x + n * (1 - 1) * (x + (m - 1) * y) = omega arith in
    ap (λ k. k % m) (z ∙ (λ i. n * single (sym e i) w + n * (1 - sym q i) * (x + (m - 1) * y))))
    (λ e.
    let q : single (representative_of u) u ≡ 0 = single-other (representative_of u) u e in
    let d : representative_of u ≡ dual_of u = ⊎_elim (λ f. absurd (e f)) (λ f. f) (representative_cases u) in
    let t : 1 * y + (m - 1) * y ≡ m * y = times m y h in
    let s : n * (1 * y + (m - 1) * y) ≡ n * (m * y) = ap (λ k. n * k) t in
    let z : n * x + m * (n * y) ≡ n * y + n * (1 - 0) * (x + (m - 1) * y) = omega arith in
    sym (same-multiple m (n * x) (n * y)) ∙ ap (λ k. k % m) (z ∙ (λ i. n * single (sym d i) w + n * (1 - sym q i) * (x + (m - 1) * y))))
    (word_cases (representative_of u) u)

word_sum_corrected : (m : ℕ) (ts : List Signed) (w : W) → 0 < m → Same m (word_sum m ts w) (folded_sum m ts w + dual_sum m (corrections m ts) w)
word_sum_corrected m [] w h = refl
word_sum_corrected m (t ∷ ts) w h =
    let n = sign_number m t.negative in
    let a = n * single t.word w in
    let b = n * single (representative_of t.word) w in
    let c = n * (1 - single (representative_of t.word) t.word) * (single t.word w + (m - 1) * single (dual_of t.word) w) in
    let f = folded_sum m ts w in
    let d = dual_sum m (corrections m ts) w in
    let e : (b + c) + (f + d) ≡ (b + f) + (c + d) = omega arith in
    same-add m a (b + c) (word_sum m ts w) (f + d) (term_corrected m n t.word w h) (word_sum_corrected m ts w h) ∙ ap (λ k. k % m) e

-- two sums that fold to the same differ by a combination of sums u - dual u
pub difference_corrected : (m : ℕ) (ss ts : List Signed) → 0 < m → ((w : W) → Same m (folded_sum m ss w) (folded_sum m ts w)) → (w : W)
    → Same m (difference m (word_sum m ss) (word_sum m ts) w) (dual_sum m (corrections m ss ++ scaled (m - 1) (corrections m ts)) w)
difference_corrected m ss ts h same w =
    let f = folded_sum m ss w in
    let g = folded_sum m ts w in
    let d = dual_sum m (corrections m ss) w in
    let e = dual_sum m (corrections m ts) w in
    let s = word_sum m ss w in
    let t = word_sum m ts w in
    let p : Same m s (g + d) = word_sum_corrected m ss w h ∙ same-add_right m f g d (same w) in
    let q : Same m ((m - 1) * t) ((m - 1) * (g + e)) = same-mul_left m t (g + e) (m - 1) (word_sum_corrected m ts w h) in
    let k : 1 * g + (m - 1) * g ≡ m * g = times m g h in
    let z : (g + d) + (m - 1) * (g + e) ≡ (d + (m - 1) * e) + m * g = omega arith in
    same-add m s (g + d) ((m - 1) * t) ((m - 1) * (g + e)) p q
    ∙ ap (λ n. n % m) z
    ∙ same-multiple m (d + (m - 1) * e) g
    ∙ ap (λ n. n % m) (sym (continued-append (λ u. difference m (single u) (single (dual_of u))) (corrections m ss) (scaled (m - 1) (corrections m ts)) w
    ∙ (λ i. d + dual_sum-scaled m (m - 1) (corrections m ts) w i)))
