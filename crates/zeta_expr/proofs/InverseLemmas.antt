-- Inverses modulo m, and the numbers below `/`.
use Rattle.std.proofs.Common.{◌≡◌, ◌≢◌, ℕ, zero, suc, ◌+◌, ◌-◌, ◌*◌, ◌%◌, ◌<◌, Bool, true, false, not, cond, eqb, Option, Some, None, List, ◌∷◌, refl, sym, ap, ◌∙◌, arith}
use Rattle.std.proofs.lemmas.Bool.{eqb-true, eq-eqb}
use Rattle.std.proofs.lemmas.Nat.{mul-mod_first}
use Rattle.std.proofs.Math.Nat.{mod-eq_of_lt}
use Rattle.zeta_model.specs.Modular.{Same}
use Rattle.zeta_model.proofs.ModularLemmas.{same-mul_left, same-mul_right, same-mod, same-opposite, same-multiple}
use Rattle.zeta_expr.specs.declared.expr.Factor.{Factor}
use Rattle.zeta_expr.specs.declared.expr.Factor.TheVariants.{Number, Zeta}
use Rattle.zeta_expr.specs.Forms.{TermForm}
use Rattle.zeta_expr.specs.Meaning.{number_of, product_in, inverse_below, inverse_of, has_inverse, number_in, first_of, kept, lacking, first_lacking}

-- what is found below n
record Found (n m b i : ℕ) : Type 0 where
  below : i < n
  unit : b * i % m ≡ 1

found : (m b n i : ℕ) → i < n → b * i % m ≡ 1 → Found n m b (inverse_below m b n)
found m b zero i h e = absurd (omega arith)
found m b (suc n) i h e =
    elim (eqb (b * n % m) 1) as (λ t. eqb (b * n % m) 1 ≡ t → Found (suc n) m b (cond t n (inverse_below m b n))) [
      | true ↦ λ f. record { below = omega arith; unit = eqb-true _ _ f }
      | false ↦ λ f.
          let other : i ≢ n = λ g. let k : true ≡ false = sym (eq-eqb _ _ (ap (λ v. b * v % m) (sym g) ∙ e)) ∙ f in cc in
          let less : i < n = omega arith in
          let r = found m b n i less e in
          let below = r.below in
          record { below = omega arith; unit = r.unit }
    ] refl

none_found : (m b n : ℕ) → ((i : ℕ) → b * i % m ≢ 1) → inverse_below m b n ≡ 0
none_found m b zero h = refl
none_found m b (suc n) h =
    elim (eqb (b * n % m) 1) as (λ t. eqb (b * n % m) 1 ≡ t → cond t n (inverse_below m b n) ≡ 0)
    [ true ↦ λ f. absurd (h n (eqb-true _ _ f)) | false ↦ λ f. none_found m b n h ] refl

-- two inverses are one: i is i (b j), which is (b i) j
one_inverse : (m b i j : ℕ) → 1 < m → i < m → j < m → b * i % m ≡ 1 → b * j % m ≡ 1 → i ≡ j
one_inverse m b i j big hi hj ei ej =
    let one : 1 % m ≡ 1 = mod-eq_of_lt big in
    let p : Same m (i * (b * j)) (i * 1) = same-mul_left m (b * j) 1 i (ej ∙ sym one) in
    let q : Same m ((b * i) * j) (1 * j) = same-mul_right m (b * i) 1 j (ei ∙ sym one) in
    let same : i * (b * j) ≡ (b * i) * j = omega arith in
    let a : i * 1 ≡ i = omega arith in
    let c : 1 * j ≡ j = omega arith in
    let r : i % m ≡ j % m = ap (λ v. v % m) (sym a) ∙ sym p ∙ ap (λ v. v % m) same ∙ q ∙ ap (λ v. v % m) c in
    sym (mod-eq_of_lt hi) ∙ r ∙ mod-eq_of_lt hj

module _ (m b i : ℕ) (big : 1 < m) (below : i < m) (unit : b * i % m ≡ 1) where
  pub inverse_is : inverse_of m b ≡ i
  inverse_is = let r = found m b m i below unit in one_inverse m b (inverse_of m b) i big r.below below r.unit unit

  pub inverse_there : has_inverse m b ≡ true
  inverse_there = let r = found m b m i below unit in eq-eqb _ _ r.unit

module _ (m b : ℕ) (none : (i : ℕ) → b * i % m ≢ 1) where
  pub inverse_zero : inverse_of m b ≡ 0
  inverse_zero = none_found m b m none

  test_false : (t : Bool) → has_inverse m b ≡ t → has_inverse m b ≡ false
  test_false true e = absurd (none (inverse_of m b) (eqb-true _ _ e))
  test_false false e = e

  pub no_inverse_there : has_inverse m b ≡ false
  no_inverse_there = test_false (has_inverse m b) refl

-- from the rest of b to b
pub unit_of_rest : (m b v i : ℕ) → v ≡ b % m → v * i % m ≡ 1 → b * i % m ≡ 1
unit_of_rest m b v i e u = sym (mul-mod_first b i m) ∙ ap (λ w. w * i % m) (sym e) ∙ u

pub no_unit_of_rest : (m b v : ℕ) → v ≡ b % m → ((i : ℕ) → v * i % m ≢ 1) → (i : ℕ) → b * i % m ≢ 1
no_unit_of_rest m b v e n i u = n i (ap (λ w. w * i % m) e ∙ mul-mod_first b i m ∙ u)

pub first_lacking-cons : (m : ℕ) (f : Factor) (fs : List Factor) → first_lacking m (f ∷ fs) ≡ first_of (lacking m f) (first_lacking m fs)
first_lacking-cons m (Number top None) fs = refl
first_lacking-cons m (Zeta word power) fs = refl
first_lacking-cons m (Number top (Some b)) fs =
    elim (has_inverse m b) as (λ t. cond (not t) (Some b) (first_lacking m fs) ≡ first_of (kept t b) (first_lacking m fs)) [ true ↦ refl | false ↦ refl ]

-- the quotient, by the value of the inverse
pub quotient_value : (m : ℕ) (f : Factor) (o : Option ℕ) (top b vt vx r : ℕ) → f ≡ Number top o → o ≡ Some b → inverse_of m b ≡ vx → vt ≡ top % m → r
    ≡ vt * vx % m → r ≡ number_in m f % m
quotient_value m f o top b vt vx r is some inv t e =
    e ∙ ap (λ v. v * vx % m) t ∙ mul-mod_first top vx m ∙ ap (λ v. top * v % m) (sym inv)
    ∙ ap (λ (o : Option ℕ). number_in m (Number top o) % m) (sym some) ∙ ap (λ (f : Factor). number_in m f % m) (sym is)

pub no_quotient_value : (m : ℕ) (f : Factor) (o : Option ℕ) (top b r : ℕ) → 1 < m → f ≡ Number top o → o ≡ Some b → inverse_of m b ≡ 0 → r ≡ 0 → r
    ≡ number_in m f % m
no_quotient_value m f o top b r big is some inv e =
    let z : 0 % m ≡ 0 = mod-eq_of_lt (omega arith) in
    let y : top * 0 ≡ 0 = omega arith in
    e ∙ sym z ∙ ap (λ v. v % m) (sym y) ∙ ap (λ v. top * v % m) (sym inv) ∙ ap (λ (o : Option ℕ). number_in m (Number top o) % m) (sym some)
    ∙ ap (λ (f : Factor). number_in m f % m) (sym is)

pub lacking_is : (m : ℕ) (f : Factor) (o : Option ℕ) (top b : ℕ) (t : Bool) → f ≡ Number top o → o ≡ Some b → has_inverse m b ≡ t → kept t b ≡ lacking m f
lacking_is m f o top b t is some e = ap (λ t. kept t b) (sym e) ∙ ap (λ (o : Option ℕ). lacking m (Number top o)) (sym some)
    ∙ ap (λ (f : Factor). lacking m f) (sym is)

-- one more factor of a product
pub product_more : (m v w k rest whole n : ℕ) → n ≡ v * w % m → w ≡ k % m → Same m (v * (k * rest)) whole → Same m (n * rest) whole
product_more m v w k rest whole n e f h =
    let a : Same m n (v * k) = ap (λ x. x % m) e ∙ same-mod m (v * w) ∙ ap (λ x. v * x % m) f ∙ same-mul_left m (k % m) k v (same-mod m k) in
    let b : (v * k) * rest ≡ v * (k * rest) = omega arith in
    same-mul_right m n (v * k) rest a ∙ ap (λ x. x % m) b ∙ h

-- the sign
pub negative_value : (m v k n : ℕ) → 0 < m → v < m → v ≡ k % m → n ≡ (m - v) % m → n ≡ (m - 1) * k % m
negative_value m v k n p below e f =
    let a : Same m (m - v + v + v * (m - 1)) (m - v) = same-opposite m (m - v) v p in
    let b : m - v + v + v * (m - 1) ≡ v * (m - 1) + m * 1 = omega arith in
    let c : Same m (v * (m - 1) + m * 1) (v * (m - 1)) = same-multiple m (v * (m - 1)) 1 in
    let d : Same m (v * (m - 1)) (k * (m - 1)) = ap (λ x. x * (m - 1) % m) e ∙ mul-mod_first k (m - 1) m in
    let g : k * (m - 1) ≡ (m - 1) * k = omega arith in
    f ∙ sym a ∙ ap (λ x. x % m) b ∙ c ∙ d ∙ ap (λ x. x % m) g

pub number_of_negative : (m v n : ℕ) (t : TermForm) (fs : List Factor) → 0 < m → v < m → t.negative ≡ true → fs ≡ t.factors → v ≡ product_in m fs % m → n
    ≡ (m - v) % m → n ≡ number_of m t % m
number_of_negative m v n t fs p below sign same e f =
    negative_value m v (product_in m t.factors) n p below (e ∙ ap (λ (l : List Factor). product_in m l % m) same) f
    ∙ ap (λ b. cond b (m - 1) 1 * product_in m t.factors % m) (sym sign)
