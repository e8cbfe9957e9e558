-- A residue whose product with a number is 1 is the inverse of that number.
use Rattle.std.proofs.Common.{◌≡◌, ℕ, zero, suc, ◌+◌, ◌*◌, ◌%◌, ◌<◌, ◌≤◌, Bool, true, false, cond, nat_eq, List, [], ◌∷◌, ◌++◌, length, refl, sym, ap}
use Rattle.std.proofs.Common.{subst, ◌∙◌, inl, inr, arith, length-append}
use Rattle.std.proofs.Math.Nat.{mod-eq_of_lt}
use Rattle.std.proofs.lemmas.Bool.{cases_lt, cases_eq, eq-eqb, eqb-true}
use Rattle.std.proofs.lemmas.List.{get_or_append_left, get_or_at}
use Rattle.std.proofs.lemmas.Nat.{mul-mod_first}
use Rattle.zeta_model.specs.Inverses.{HasInverse}
use Rattle.zeta_model.specs.Modular.{Same}
use Rattle.zeta_model.proofs.ModularLemmas.{same-mul_left}
use Rattle.truncated_sums.specs.Inverses.{last_below, inverse_of}
use Rattle.truncated_sums.specs.Running.{AreInverses}

is_false : (t : Bool) → (t ≡ true → ⊥) → t ≡ false
is_false true h = absurd (h refl)
is_false false h = refl

-- the one number below the bound that meets the test is the last
last_is : (n : ℕ) (test : ℕ → Bool) (b : ℕ) → b < n → test b ≡ true → ((a : ℕ) → a < n → test a ≡ true → a ≡ b) → last_below n test ≡ b
last_is zero test b below met only = absurd (omega arith)
last_is (suc n) test b below met only =
    elim (cases_eq b n) [
      | inl same ↦ ap (λ t. cond t n (last_below n test)) (ap test (sym same) ∙ met) ∙ sym same
      | inr other ↦
          ap (λ t. cond t n (last_below n test)) (is_false (test n) (λ e. other (sym (only n (omega arith) e))))
          ∙ last_is n test b (omega arith) met (λ a h e. only a (omega arith) e)
    ]

-- two residues with the product 1 are one
only_one : (m a b c : ℕ) → 1 < m → b < m → c < m → a * b % m ≡ 1 → a * c % m ≡ 1 → c ≡ b
only_one m a b c large hb hc eb ec =
    let one : 1 % m ≡ 1 = mod-eq_of_lt large in
    let turn : c * (a * b) ≡ b * (a * c) = grind arith in
    let left : Same m (c * (a * b)) (c * 1) = same-mul_left m (a * b) 1 c (eb ∙ sym one) in
    let right : Same m (b * (a * c)) (b * 1) = same-mul_left m (a * c) 1 b (ec ∙ sym one) in
    let whole : Same m (c * 1) (b * 1) = sym left ∙ ap (λ x. x % m) turn ∙ right in
    sym (mod-eq_of_lt hc) ∙ ap (λ x. x % m) (omega arith) ∙ whole ∙ ap (λ x. x % m) (omega arith) ∙ mod-eq_of_lt hb

pub inverse_of_is : (m a b : ℕ) → 1 < m → b < m → a * b % m ≡ 1 → inverse_of m a ≡ b
unfolding inverse_of
inverse_of_is m a b large below e =
    last_is m (λ c. nat_eq (a * c % m) 1) b below (eq-eqb (a * b % m) 1 e) (λ c h t. only_one m a b c large below h e (eqb-true (a * c % m) 1 t))

-- the inverse of the residue of a number is that of the number
pub inverse_step : (m term residue b : ℕ) → 1 < m → residue ≡ term % m → residue * b % m ≡ 1 → b < m → (inverse_of m term ≡ b) × (term * b % m ≡ 1)
inverse_step m term residue b large is e below =
    let one : term * b % m ≡ 1 = sym (mul-mod_first term b m) ∙ ap (λ r. r * b % m) (sym is) ∙ e in
    (inverse_of_is m term b large below one, one)

module _ {E : Type 0} (m : ℕ) (value : E → ℕ) (inverse : ℕ → ℕ) where
  pub inverses_none : AreInverses {E = E} m value inverse []
  inverses_none = record { each = λ i d h. absurd (omega arith) }

  pub inverses_push : (items : List E) (x : E) (term : ℕ) → length items + 1 ≡ term → value x ≡ inverse term % m → AreInverses {E = E} m value inverse items
      → AreInverses {E = E} m value inverse (items ++ x ∷ [])
  inverses_push items x term count is kept = record {
    each = λ i d h.
        elim (cases_lt i (length items)) [
          | inl below ↦ ap value (get_or_append_left items (x ∷ []) d i below) ∙ kept.each i d below
          | inr last ↦
              let at : length items ≡ i = omega (arith, length-append items (x ∷ [])) in
              let same : term ≡ i + 1 = omega arith in
              ap value (get_or_at items x [] d i at) ∙ is ∙ ap (λ t. inverse t % m) same
        ];
  }

-- what holds of each number below some number, and of that one
pub have_next : (m term : ℕ) → HasInverse m term → ((a : ℕ) → 1 ≤ a → a < term → HasInverse m a) → (a : ℕ) → 1 ≤ a → a < term + 1 → HasInverse m a
have_next m term here have a least below =
    elim (cases_eq a term) [
      | inl same ↦ subst (HasInverse m) (sym same) here
      | inr other ↦ have a least (omega arith)
    ]
