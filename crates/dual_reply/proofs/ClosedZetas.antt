-- What a zeta changes in a draft, by what its index is.
use Rattle.std.proofs.Common.{◌≡◌, ℕ, ◌<◌, ◌≤◌, ◌==◌, true, false, cond, leb, Option, Some, None, List, []}
use Rattle.std.proofs.Common.{◌∷◌, ◌++◌, length, sum, get_or, All, refl, sym, ap, ◌∙◌, arith}
use Rattle.std.specs.Prelude.{is_some}
use Rattle.std.specs.List.{position}
use Rattle.std.proofs.lemmas.Bool.{lt-ltb, ltb-true, le-leb, lt-leb, eqb-true, and_parts, and_from, false_from_ne_true}
use Rattle.std.proofs.lemmas.List.Quantifiers.{position-Some}
use Rattle.std.proofs.lemmas.List.Sums.{AllPass-from_list_all, list_all-from_AllPass}
use Rattle.dual_reply.specs.Inner.{DraftForm, is_index, with_zeta, earlier}
use Rattle.dual_reply.specs.Sums.{signed}

-- what the test says of an index
record IsIndex (ks : List ℕ) : Type 0 where
  some : 0 < length ks
  positive : All (λ k. 0 < k) ks

index_test : (ks : List ℕ) → IsIndex ks → is_index ks ≡ true
index_test ks h =
    and_from _ _ (lt-ltb 0 (length ks) h.some) (list_all-from_AllPass _ ks (λ k d l. lt-ltb 0 _ (h.positive k d l)))

tested_index : (ks : List ℕ) → is_index ks ≡ true → IsIndex ks
tested_index ks e =
    let p = and_parts _ _ e in
    record { some = ltb-true 0 (length ks) p.0; positive = λ k d l. ltb-true 0 _ (AllPass-from_list_all _ ks p.1 k d l) }

nonempty : (ks : List ℕ) → 24 < sum ks → 0 < length ks
nonempty [] l = absurd (omega arith)
nonempty (k ∷ ks) l = omega arith

pub earlier-none : (o : Option ℕ) → is_some o ≡ false → (j k : ℕ) → j ≡ k → Some j ≡ earlier o k
earlier-none None e j k h = ap Some h
earlier-none (Some n) e j k h = cc

pub earlier-some : (o : Option ℕ) → is_some o ≡ true → (k : ℕ) → o ≡ earlier o k
earlier-some None e k = cc
earlier-some (Some n) e k = refl

module _ (d : DraftForm) where
  abbrev light : DraftForm
  light = record d { terms = d.terms ++ signed d.negative d.index ∷ [] }

  abbrev heavy : DraftForm
  heavy = record d { heavy = earlier d.heavy (sum d.index) }

  pub light_zeta : 0 < length d.index → All (λ k. 0 < k) d.index → sum d.index ≤ 24 → light ≡ with_zeta d
  light_zeta s p l =
      let t = index_test d.index (record { some = s; positive = p }) in
      ap (λ b. cond b light heavy) (sym (le-leb (sum d.index) 24 l)) ∙ ap (λ b. cond b (cond (leb (sum d.index) 24) light heavy) d) (sym t)

  pub heavy_zeta : All (λ k. 0 < k) d.index → 24 < sum d.index → heavy ≡ with_zeta d
  heavy_zeta p l =
      let t = index_test d.index (record { some = nonempty d.index l; positive = p }) in
      ap (λ b. cond b light heavy) (sym (lt-leb (sum d.index) 24 l)) ∙ ap (λ b. cond b (cond (leb (sum d.index) 24) light heavy) d) (sym t)

  unchanged : (IsIndex d.index → ⊥) → d ≡ with_zeta d
  unchanged n =
      ap (λ b. cond b (cond (leb (sum d.index) 24) light heavy) d) (sym (false_from_ne_true (is_index d.index) (λ e. n (tested_index d.index e))))

  pub empty_zeta : d.index ≡ [] → d ≡ with_zeta d
  empty_zeta e = unchanged (λ i. let s = i.some in let z : length d.index ≡ 0 = ap (λ l. length l) e in absurd (omega arith))

  pub zero_zeta : (i : ℕ) → position (λ k. k == 0) d.index ≡ Some i → d ≡ with_zeta d
  zero_zeta i e =
      let p = position-Some (λ k. k == 0) d.index i 0 e in
      let z : get_or d.index i 0 ≡ 0 = eqb-true _ _ p.1 in
      unchanged (λ a. absurd (omega (arith, a.positive i 0 p.0)))
