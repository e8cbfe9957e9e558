-- A row is known by its entries, and begins at its lead.
use Rattle.std.proofs.Common.{◌≡◌, ℕ, ◌+◌, ◌%◌, ◌<◌, List, [], ◌∷◌, Bool, true, cond, eqb, refl, sym, ◌∙◌, ap, subst, inl, inr, arith, mod-eq_of_lt}
use Rattle.std.specs.Prelude.{◌≢◌}
use Rattle.std.proofs.lemmas.Bool.{cases_order}
use Rattle.linear_model.specs.Reduced.{IsLead}
use Rattle.sparse_rows.specs.Entries.{entry_of, IsRow, AllIn}
use Rattle.sparse_rows.proofs.EntryLemmas.{entry_of_before, entry_of_first}

module _ {K E : Type 0} (number : K → ℕ) (number_injective : (a b : K) → number a ≡ number b → a ≡ b) (zero : E) (has : E → Bool) (value : E
    → ℕ) (m : ℕ) (has_zero : has zero ≡ true) (value_zero : value zero ≡ 0)
    (value_injective : (a b : E) → has a ≡ true → has b ≡ true → value a ≡ value b → a ≡ b) where
  not_zero : (a : E) → has a ≡ true → a ≢ zero → value a ≡ 0 → ⊥
  not_zero a h nonzero is = nonzero (value_injective a zero h has_zero (is ∙ sym value_zero))

  pub same_row : (low : ℕ) (es fs : List (K × E)) → IsRow number zero low es → IsRow number zero low fs → AllIn has es → AllIn has fs
      → ((q : ℕ) → entry_of number value es q ≡ entry_of number value fs q) → es ≡ fs
  same_row low [] [] r s a b h = refl
  same_row low [] (f ∷ fs) r s a b h = absurd (not_zero f.1 b.0 s.1 (sym (entry_of_first number zero value low f fs s) ∙ sym (h (number f.0))))
  same_row low (e ∷ es) [] r s a b h = absurd (not_zero e.1 a.0 r.1 (sym (entry_of_first number zero value low e es r) ∙ h (number e.0)))
  same_row low (e ∷ es) (f ∷ fs) r s a b h = elim (cases_order (number e.0) (number f.0)) [
    | inl n ↦
        let key : e.0 ≡ f.0 = number_injective e.0 f.0 n in
        let element : e.1 ≡ f.1 = value_injective e.1 f.1 a.0 b.0 (sym (entry_of_first number zero value low e es r) ∙ h (number e.0)
        ∙ ap (entry_of number value (f ∷ fs)) n ∙ entry_of_first number zero value low f fs s) in
        let rest : es ≡ fs = same_row (number e.0 + 1) es fs r.2 (subst (λ k. IsRow number zero (k + 1) fs) (sym n) s.2) a.1 b.1
        (λ q. tails q (h q) (λ i. cond (eqb (n i) q) (value (element i)) 0)) in
        λ i. (key i, element i) ∷ rest i
    | inr o ↦ elim o [
      | inl less ↦ absurd (not_zero e.1 a.0 r.1 (sym (entry_of_first number zero value low e es r) ∙ h (number e.0)
          ∙ entry_of_before number zero value (number f.0) (number e.0) (f ∷ fs) (omega arith, s.1, s.2) less))
      | inr more ↦ absurd (not_zero f.1 b.0 s.1 (sym (entry_of_first number zero value low f fs s) ∙ sym (h (number f.0))
          ∙ entry_of_before number zero value (number e.0) (number f.0) (e ∷ es) (omega arith, r.1, r.2) more))
    ]
  ]
    where
      tails : (q : ℕ) → entry_of number value (e ∷ es) q ≡ entry_of number value (f ∷ fs) q
          → cond (eqb (number e.0) q) (value e.1) 0 ≡ cond (eqb (number f.0) q) (value f.1) 0 → entry_of number value es q ≡ entry_of number value fs q
      tails q whole head = omega arith

  -- the first number of a row is its lead
  pub IsLead-first : (low : ℕ) (e : K × E) (es : List (K × E)) → ((a : E) → has a ≡ true → value a < m) → IsRow number zero low (e ∷ es)
      → AllIn has (e ∷ es) → IsLead m (entry_of number value (e ∷ es)) (number e.0)
  IsLead-first low e es below r a = record {
    before = λ q l. ap (λ x. x % m) (entry_of_before number zero value (number e.0) q (e ∷ es) (omega arith, r.1, r.2) l);
    here = λ is.
        let first : entry_of number value (e ∷ es) (number e.0) ≡ value e.1 = entry_of_first number zero value low e es r in
        let small : value e.1 < m = below e.1 a.0 in
        let rest : value e.1 % m ≡ value e.1 = mod-eq_of_lt small in
        let none : 0 % m ≡ 0 = mod-eq_of_lt (omega arith) in
        not_zero e.1 a.0 r.1 (sym rest ∙ ap (λ x. x % m) (sym first) ∙ is ∙ none);
  }
