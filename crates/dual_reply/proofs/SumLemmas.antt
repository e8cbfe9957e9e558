-- What a sum of words with signs is at a word, and what folding it by duality keeps.
use Rattle.std.proofs.Common.{◌≡◌, ℕ, ◌+◌, ◌-◌, ◌*◌, Bool, true, false, cond, ◌⊎◌, inl, inr, ⊎_elim, List, refl, sym, ap, ◌∙◌, arith}
use Rattle.zeta_model.specs.declared.Letter.{Letter}
use Rattle.zeta_model.specs.Duality.{dual_of, representative_of}
use Rattle.zeta_model.specs.Sums.{same_word, single}
use Rattle.zeta_model.proofs.WordOrder.{same_word-one, same_word-itself}
use Rattle.zeta_model.proofs.DualityLaws.{dual_of-dual_of, representative_of-dual_of}
use Rattle.duality_map.proofs.DualLetters.{representative_cases}
use Rattle.dual_reply.proofs.DualityLemmas.{representative_of-representative_of}

abbrev pub W : Type 0
W = List Letter

by_test : (u w : W) (b : Bool) → same_word w u ≡ b → (u ≡ w) ⊎ (u ≡ w → ⊥)
by_test u w true e = inl (sym (same_word-one w u e))
by_test u w false e = inr (λ h. let t : same_word w u ≡ true = ap (λ v. same_word v u) (sym h) ∙ same_word-itself u in cc)

-- two words are one or not
pub word_cases : (u w : W) → (u ≡ w) ⊎ (u ≡ w → ⊥)
word_cases u w = by_test u w (same_word w u) refl

one_by_test : (u w : W) (b : Bool) → same_word w u ≡ b → (u ≡ w → ⊥) → ◌≡◌ {A = ℕ} (cond b 1 0) 0
one_by_test u w true e n = absurd (n (sym (same_word-one w u e)))
one_by_test u w false e n = refl

pub single-same : (u w : W) → u ≡ w → single u w ≡ 1
single-same u w e = ap (λ v. single u v) (sym e) ∙ ap (λ b. cond b 1 0) (same_word-itself u)

pub single-other : (u w : W) → (u ≡ w → ⊥) → single u w ≡ 0
single-other u w n = one_by_test u w (same_word w u) refl n

-- what folding leaves at a word r of the sum s: s at r and at its dual, each once, and nothing where r is no representative
abbrev pub folded_at : (W → ℕ) → W → ℕ
folded_at s r = single (representative_of r) r * (s r + (1 - single (dual_of r) r) * s (dual_of r))

module _ (s : W → ℕ) (r : W) where
  pub folded_at-none : (representative_of r ≡ r → ⊥) → folded_at s r ≡ 0
  folded_at-none n = ap (λ k. k * (s r + (1 - single (dual_of r) r) * s (dual_of r))) (single-other (representative_of r) r n) ∙ omega arith

  pub folded_at-self : representative_of r ≡ r → dual_of r ≡ r → folded_at s r ≡ s r
  folded_at-self p d =
      let a : single (representative_of r) r ≡ 1 = single-same (representative_of r) r p in
      let b : single (dual_of r) r ≡ 1 = single-same (dual_of r) r d in
      (λ i. a i * (s r + (1 - b i) * s (dual_of r))) ∙ omega arith

  pub folded_at-pair : representative_of r ≡ r → (dual_of r ≡ r → ⊥) → folded_at s r ≡ s r + s (dual_of r)
  folded_at-pair p d =
      let a : single (representative_of r) r ≡ 1 = single-same (representative_of r) r p in
      let b : single (dual_of r) r ≡ 0 = single-other (dual_of r) r d in
      (λ i. a i * (s r + (1 - b i) * s (dual_of r))) ∙ omega arith

-- cases on a word: folding drops it, keeps it, or adds what stands at its dual
pub by_kind : (r : W) (G : Type 0) → ((representative_of r ≡ r → ⊥) → G) → (representative_of r ≡ r → dual_of r ≡ r → G)
    → (representative_of r ≡ r → (dual_of r ≡ r → ⊥) → G) → G
by_kind r G none self pair =
    ⊎_elim (λ p. ⊎_elim (λ d. self p d) (λ d. pair p d) (word_cases (dual_of r) r)) none (word_cases (representative_of r) r)

module _ (u r : W) where
  -- a word whose representative is r is r or its dual
  member : representative_of u ≡ r → (u ≡ r) ⊎ (u ≡ dual_of r)
  member e = ⊎_elim (λ p. inl (sym p ∙ e)) (λ p. inr (sym (dual_of-dual_of u) ∙ ap dual_of (sym p ∙ e))) (representative_cases u)

  from_dual : representative_of r ≡ r → u ≡ dual_of r → representative_of u ≡ r
  from_dual p e = ap representative_of e ∙ representative_of-dual_of r ∙ p

  pub single-representative_of : single (representative_of u) r ≡ folded_at (single u) r
  single-representative_of = by_kind r (single (representative_of u) r ≡ folded_at (single u) r)
      (λ n. single-other (representative_of u) r (λ e. n (ap representative_of (sym e) ∙ representative_of-representative_of u ∙ e))
      ∙ sym (folded_at-none (single u) r n))
      (λ p d. ⊎_elim
      (λ e. single-same (representative_of u) r (ap representative_of e ∙ p) ∙ sym (folded_at-self (single u) r p d ∙ single-same u r e))
      (λ e. single-other (representative_of u) r (λ h. ⊎_elim e (λ k. e (k ∙ d)) (member h)) ∙ sym (folded_at-self (single u) r p d ∙ single-other u r e))
      (word_cases u r))
      (λ p d. ⊎_elim
      (λ e. let a = single-same u r e in let b = single-other u (dual_of r) (λ k. d (sym k ∙ e)) in
      let c = single-same (representative_of u) r (ap representative_of e ∙ p) in let f = folded_at-pair (single u) r p d in omega arith)
      (λ e. ⊎_elim
      (λ k. let a = single-other u r e in let b = single-same u (dual_of r) k in
      let c = single-same (representative_of u) r (from_dual p k) in let f = folded_at-pair (single u) r p d in omega arith)
      (λ k. let a = single-other u r e in let b = single-other u (dual_of r) k in
      let c = single-other (representative_of u) r (λ h. ⊎_elim e k (member h)) in let f = folded_at-pair (single u) r p d in omega arith)
      (word_cases u (dual_of r)))
      (word_cases u r))
