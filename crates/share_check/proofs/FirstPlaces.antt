-- The first place that lacks one of two properties is the lesser of the first places that lack each.
use Rattle.std.proofs.Common.{◌≡◌, ℕ, ◌+◌, ◌<◌, ◌≤◌, ◌⊎◌, inl, inr, Option, Some, None, sym, subst, arith}
use Rattle.std.specs.Prelude.{MatchOption, min}
use Rattle.std.proofs.lemmas.Bool.{cases_eq, cases_lt}
use Rattle.std.proofs.Math.Nat.{min-eq_left, min-eq_right}
use Rattle.table_model.specs.Faults.{IsFirstWithout}
use Rattle.share_check.specs.Inner.{lesser}

-- the place is the first of n that lacks the property, and each has it where there is none
abbrev pub FirstOf : (ℕ → Type 0) → ℕ → Option ℕ → Type 0
FirstOf P n place = MatchOption place ((i : ℕ) → i < n → P i) (IsFirstWithout P n)

module _ (P Q T : ℕ → Type 0) (n : ℕ) (both : (k : ℕ) → k < n → P k → Q k → T k)
    (left : (k : ℕ) → k < n → T k → P k) (right : (k : ℕ) → k < n → T k → Q k) where
  from_left : (i : ℕ) → IsFirstWithout P n i → ((k : ℕ) → k < i → Q k) → IsFirstWithout T n i
  from_left i first others = record {
    below = first.below;
    lacks = λ t. first.lacks (left i first.below t);
    earlier = λ k l. both k (omega (arith, l, first.below)) (first.earlier k l) (others k l);
  }

  from_right : (i : ℕ) → IsFirstWithout Q n i → ((k : ℕ) → k < i → P k) → IsFirstWithout T n i
  from_right i first others = record {
    below = first.below;
    lacks = λ t. first.lacks (right i first.below t);
    earlier = λ k l. both k (omega (arith, l, first.below)) (others k l) (first.earlier k l);
  }

  pub first-lesser : (a b : Option ℕ) → FirstOf P n a → FirstOf Q n b → FirstOf T n (lesser a b)
  first-lesser None None p q = λ i l. both i l (p i l) (q i l)
  first-lesser None (Some j) p q = from_right j q (λ k l. p k (omega (arith, l, q.below)))
  first-lesser (Some i) None p q = from_left i p (λ k l. q k (omega (arith, l, p.below)))
  first-lesser (Some i) (Some j) p q = by (cases_lt i j)
    where
      by : (i < j) ⊎ (j ≤ i) → IsFirstWithout T n (min i j)
      by (inl less) = subst (IsFirstWithout T n) (sym (min-eq_left (omega arith))) (from_left i p (λ k l. q.earlier k (omega (arith, l, less))))
      by (inr late) = subst (IsFirstWithout T n) (sym (min-eq_right late)) (from_right j q (λ k l. p.earlier k (omega (arith, l, late))))

-- what holds below a place and there holds below the next
pub each_more : (P : ℕ → Type 0) (i : ℕ) → ((k : ℕ) → k < i → P k) → P i → (k : ℕ) → k < i + 1 → P k
each_more P i before here k l = by (cases_eq k i)
  where
    by : (k ≡ i) ⊎ ¬ (k ≡ i) → P k
    by (inl e) = subst P (sym e) here
    by (inr ne) = before k (omega arith)
