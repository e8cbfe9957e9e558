-- Going along a chain, as a loop does.
use Rattle.std.proofs.Common.{◌≡◌, ℕ, zero, suc, ◌+◌, ◌<◌, List, [], ◌∷◌, length, drop, Some, slice_get, get_or, sym, subst, arith}
use Rattle.std.specs.Prelude.{◌↔◌}
use Rattle.std.specs.List.{AllByRecursion}
use Rattle.page_codec.specs.Bounds.{Chain}

pub drop_at : {A : Type 0} (xs : List A) (i : ℕ) (a : A) → slice_get xs i ≡ Some a → drop i xs ≡ a ∷ drop (i + 1) xs
drop_at [] i a e = absurd (cc e)
drop_at (x ∷ xs) zero a e = let same : x ≡ a = cc in λ j. same j ∷ xs
drop_at (x ∷ xs) (suc i) a e = let n : suc i + 1 ≡ suc (i + 1) = omega arith in rw n (drop_at xs i a e)

pub drop_item : {A : Type 0} (xs : List A) (i : ℕ) (a : A) → i < length xs → a ≡ get_or xs i a → drop i xs ≡ a ∷ drop (i + 1) xs
drop_item [] i a h e = absurd (omega arith)
drop_item (x ∷ xs) zero a h e = λ j. sym e j ∷ xs
drop_item (x ∷ xs) (suc i) a h e = let n : suc i + 1 ≡ suc (i + 1) = omega arith in rw n (drop_item xs i a (omega arith) e)

pub item_has : {A : Type 0} (Has : A → Type 0) (xs : List A) (i : ℕ) (a : A) → i < length xs → a ≡ get_or xs i a → AllByRecursion Has xs → Has a
item_has Has [] i a h e all = absurd (omega arith)
item_has Has (x ∷ xs) zero a h e all = subst Has (sym e) all.0
item_has Has (x ∷ xs) (suc i) a h e all = item_has Has xs i a (omega arith) e all.1

module _ {S A : Type 0} (Fits : S → A → Type 0) (next : S → A
    → S) (Whole : Type 0) (s : S) (xs : List A) (i : ℕ) (so_far : Whole ↔ Chain Fits next s (drop i xs)) where
  pub chain_on : (a : A) → drop i xs ≡ a ∷ drop (i + 1) xs → Fits s a → Whole ↔ Chain Fits next (next s a) (drop (i + 1) xs)
  chain_on a here fits =
      (λ whole. (subst (Chain Fits next s) here (so_far.0 whole)).1, λ others. so_far.1 (subst (Chain Fits next s) (sym here) (fits, others)))

  pub chain_off : (a : A) → drop i xs ≡ a ∷ drop (i + 1) xs → ¬ (Fits s a) → ¬ Whole
  chain_off a here not whole = not (subst (Chain Fits next s) here (so_far.0 whole)).0

  pub chain_end : drop i xs ≡ [] → Whole
  chain_end e = so_far.1 (subst (Chain Fits next s) (sym e) tt)
