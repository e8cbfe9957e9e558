-- Inverses modulo m, and first columns that are not zero, can be told.
use Rattle.std.specs.Prelude.{◌≡◌, ℕ, zero, suc, ◌*◌, ◌%◌, ◌<◌, ◌≤◌, ◌⊎◌}
use Rattle.std.proofs.Common.{sym, ◌∙◌, ap, subst, inl, inr, arith}
use Rattle.std.proofs.Math.Nat.{mod-lt}
use Rattle.std.proofs.lemmas.Bool.{cases_eq, cases_lt}
use Rattle.zeta_model.specs.Modular.{Same}
use Rattle.zeta_model.proofs.ModularLemmas.{same-mul_left, same-mul_right, same-mod}
use Rattle.linear_model.specs.Rows.{SameRow}
use Rattle.linear_model.specs.Reduced.{IsLead}
use Rattle.zeta_model.specs.Inverses.{HasInverse}
use Rattle.linear_model.proofs.Triangular.{cancel_unit}

find_inverse : (m a k : ℕ) → HasInverse m a ⊎ ((b : ℕ) → b < k → ¬ (Same m (a * b) 1))
find_inverse m a zero = inr (λ b l. absurd (omega arith))
find_inverse m a (suc k) = elim (find_inverse m a k) [
  | inl found ↦ inl found
  | inr none ↦ elim (cases_eq (a * k % m) (1 % m)) [
    | inl e ↦ inl (k, e)
    | inr ne ↦ inr (λ b l. elim (cases_eq b k) [
      | inl e ↦ subst (λ x. ¬ (Same m (a * x) 1)) (sym e) ne
      | inr other ↦ none b (omega arith)
    ])
  ]
]

pub has_inverse_or_not : (m a : ℕ) → 0 < m → HasInverse m a ⊎ ¬ (HasInverse m a)
has_inverse_or_not m a pos = elim (find_inverse m a m) [
  | inl found ↦ inl found
  | inr none ↦ inr (λ (b, e). none (b % m) (mod-lt b pos) (same-mul_left m (b % m) b a (same-mod m b) ∙ e))
]

pub same-HasInverse : (m a b : ℕ) → Same m a b → HasInverse m a → HasInverse m b
same-HasInverse m a b e (c, is) = (c, same-mul_right m b a c (sym e) ∙ is)

-- two inverses of one number are the same
pub inverse_unique : (m a b c : ℕ) → Same m (a * b) 1 → Same m (a * c) 1 → Same m b c
inverse_unique m a b c hb hc =
    cancel_unit m a b c (b, hb)
    (ap (λ x. x % m) (let e : b * a ≡ a * b = omega arith in e) ∙ hb ∙ sym hc ∙ ap (λ x. x % m) (let e : a * c ≡ c * a = omega arith in e))

lead_below : (m : ℕ) (p : ℕ → ℕ) (k : ℕ) → ((col : ℕ) × IsLead m p col) ⊎ ((j : ℕ) → j < k → Same m (p j) 0)
lead_below m p zero = inr (λ j l. absurd (omega arith))
lead_below m p (suc k) = elim (lead_below m p k) [
  | inl found ↦ inl found
  | inr zeros ↦ elim (cases_eq (p k % m) (0 % m)) [
    | inl e ↦ inr (λ j l. elim (cases_eq j k) [
      | inl is ↦ subst (λ x. Same m (p x) 0) (sym is) e
      | inr other ↦ zeros j (omega arith)
    ])
    | inr ne ↦ inl (k, record { before = zeros; here = ne })
  ]
]

-- a row that is zero from column n on has a lead or is zero
pub lead_or_zero : (m : ℕ) (p : ℕ → ℕ) (n : ℕ) → ((j : ℕ) → n ≤ j → Same m (p j) 0) → ((col : ℕ) × IsLead m p col) ⊎ SameRow m p (λ _. 0)
lead_or_zero m p n past = elim (lead_below m p n) [
  | inl found ↦ inl found
  | inr zeros ↦ inr (λ j. elim (cases_lt j n) [ inl l ↦ zeros j l | inr l ↦ past j l ])
]

-- rows that are the same have one lead
pub lead_unique : (m : ℕ) (p q : ℕ → ℕ) (a b : ℕ) → SameRow m p q → IsLead m p a → IsLead m q b → a ≡ b
lead_unique m p q a b e ha hb = elim (cases_eq a b) [
  | inl same ↦ same
  | inr ne ↦ elim (cases_lt a b) [
    | inl l ↦ absurd (ha.here (e a ∙ hb.before a l))
    | inr l ↦ absurd (hb.here (sym (e b) ∙ ha.before b (omega arith)))
  ]
]
