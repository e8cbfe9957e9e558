-- Which columns a row has, told by its entries.
use Rattle.std.specs.Prelude.{◌≡◌, ℕ, ◌+◌, ◌<◌, ◌≤◌, Bool, true, List, [], ◌∷◌}
use Rattle.std.proofs.Common.{sym, ◌∙◌, inl, inr, arith, mod-eq_of_lt}
use Rattle.std.proofs.lemmas.Bool.{cases_lt}
use Rattle.zeta_model.specs.Modular.{Same}
use Rattle.sparse_rows.specs.Entries.{IsRow, IsBelow, AllIn}
use Rattle.sparse_rows.proofs.EntryLemmas.{entry_of_first, entry_of_below}
use Rattle.echelon.specs.Lists.{entries_of}

module _ {E : Type 0} (has : E → Bool) (value : E → ℕ) (zero : E) (has_zero : has zero ≡ true) (value_zero : value zero ≡ 0)
    (value_injective : (a b : E) → has a ≡ true → has b ≡ true → value a ≡ value b → a ≡ b) where
  -- a row without entries from number n on has no number from n on
  pub below_by_entries : (low n : ℕ) (es : List (ℕ × E)) → IsRow (λ k. k) zero low es → AllIn has es → ((q : ℕ) → n ≤ q → entries_of value es q ≡ 0)
      → IsBelow (λ k. k) n es
  below_by_entries low n [] r a none = tt
  below_by_entries low n (e ∷ es) r a none =
      let first : entries_of value (e ∷ es) e.0 ≡ value e.1 = entry_of_first (λ k. k) zero value low e es r in (
        elim (cases_lt e.0 n) [
          | inl less ↦ less
          | inr late ↦ absurd (r.1 (value_injective e.1 zero a.0 has_zero (sym first ∙ none e.0 late ∙ sym value_zero)))
        ],
        below_by_entries (e.0 + 1) n es r.2 a.1 (λ q l. omega (arith, none q l)),
      )

  -- so is it where the entries vanish modulo m
  pub below_where_vanishing : (m n : ℕ) (es : List (ℕ × E)) → 0 < m → ((a : E) → has a ≡ true → value a < m) → IsRow (λ k. k) zero 0 es → AllIn has es
      → ((q : ℕ) → n ≤ q → Same m (entries_of value es q) 0) → IsBelow (λ k. k) n es
  below_where_vanishing m n es pos below r a vanishing =
      below_by_entries 0 n es r a (λ q l. sym (mod-eq_of_lt (entry_of_below (λ k. k) zero has value m 0 q es pos below r a)) ∙ vanishing q l
      ∙ mod-eq_of_lt pos)
