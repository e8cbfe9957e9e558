-- Adding the terms of one sum to another in turn.
use Rattle.std.proofs.Common.{◌≡◌, ℕ, ◌+◌, ◌*◌, ◌%◌, ◌<◌, Bool, true, List, [], ◌∷◌, refl, sym, ap, subst, ◌∙◌, arith, mod-eq_of_lt}
use Rattle.std.specs.Map.{values_of}
use Rattle.std.proofs.lemmas.List.Elements.{All-head, All-tail}
use Rattle.std.proofs.Math.Nat.{mul-add, mul_assoc}
use Rattle.word_sums.specs.Terms.{coefficient_of, AllIn}
use Rattle.word_sums.specs.Sums.{IsSum}
use Rattle.word_sums.proofs.SumLemmas.{IsSum_below}
use Rattle.zeta_model.specs.declared.Letter.{Letter}
use Rattle.zeta_model.specs.Modular.{Same}
use Rattle.zeta_model.specs.Sums.{single}
use Rattle.zeta_model.proofs.ModularLemmas.{same-add_right, same-add_left, same-mul_right, same-mod}

-- k times the terms of `whole` but those of `rest` have been added to `initial`, which gave `now`
pub record Adding {E : Type 0} (nought : E) (has : E → Bool) (value : E → ℕ) (m k : ℕ) (whole initial now rest : List (List Letter × E)) : Type 0 where
  pub now_is : IsSum nought has now
  pub rest_in : AllIn has rest
  pub same : (t : List Letter) → Same m (coefficient_of value now t + k * coefficient_of value rest t)
      (coefficient_of value initial t + k * coefficient_of value whole t)

-- one word more: n is what it has after its term is added
step : (m a k v s r n : ℕ) → n ≡ (a + k * v % m * s) % m → Same m (n + k * r) (a + k * (v * s + r))
step m a k v s r n is =
    let one : Same m n (a + k * v * s) =
    ap (λ x. x % m) is ∙ same-mod m (a + k * v % m * s)
    ∙ same-add_left m (k * v % m * s) (k * v * s) a (same-mul_right m (k * v % m) (k * v) s (same-mod m (k * v))) in
    let sum : a + k * v * s + k * r ≡ a + k * (v * s + r) = omega (arith, mul-add k (v * s) r, mul_assoc k v s) in
    same-add_right m n (a + k * v * s) (k * r) one ∙ ap (λ x. x % m) sum

module _ {E : Type 0} (nought : E) (has : E → Bool) (value : E → ℕ) (m k : ℕ) (whole initial now : List (List Letter × E)) where
  pub Adding-start : IsSum nought has initial → AllIn has whole → Adding nought has value m k whole initial initial whole
  Adding-start now_is rest_in = record { now_is = now_is; rest_in = rest_in; same = λ t. refl }

  pub Adding-next : (w : List Letter) (c product : E) (before rest after : List (List Letter × E)) → before ≡ (w, c) ∷ rest
      → Adding nought has value m k whole initial now before
      → value product ≡ k * value c % m → IsSum nought has after
      → ((t : List Letter) → coefficient_of value after t ≡ (coefficient_of value now t + value product * single w t) % m)
      → Adding nought has value m k whole initial after rest
  Adding-next w c product before rest after is adding product_is after_is added = record {
    now_is = after_is;
    rest_in = All-tail (λ a. has a ≡ true) c (values_of rest) (subst (AllIn has) is adding.rest_in);
    same = λ t.
        step m (coefficient_of value now t) k (value c) (single w t) (coefficient_of value rest t) (coefficient_of value after t) (added t
        ∙ ap (λ n. (coefficient_of value now t + n * single w t) % m) product_is)
        ∙ ap (λ es. (coefficient_of value now t + k * coefficient_of value es t) % m) (sym is) ∙ adding.same t;
  }

  -- the next element is of the ring
  pub Adding-has : (w : List Letter) (c : E) (before rest : List (List Letter × E)) → before ≡ (w, c) ∷ rest
      → Adding nought has value m k whole initial now before → has c ≡ true
  Adding-has w c before rest is adding = All-head (λ a. has a ≡ true) c (values_of rest) (subst (AllIn has) is adding.rest_in)

  pub Adding-end : (rest : List (List Letter × E)) → 0 < m → ((a : E) → has a ≡ true → value a < m) → rest ≡ []
      → Adding nought has value m k whole initial now rest
      → (t : List Letter) → coefficient_of value now t ≡ (coefficient_of value initial t + k * coefficient_of value whole t) % m
  Adding-end rest pos below is adding t =
      let none : coefficient_of value now t ≡ coefficient_of value now t + k * 0 = omega arith in
      sym (mod-eq_of_lt (IsSum_below nought has value m now pos below adding.now_is t)) ∙ ap (λ n. n % m) none
      ∙ ap (λ es. (coefficient_of value now t + k * coefficient_of value es t) % m) (sym is) ∙ adding.same t
