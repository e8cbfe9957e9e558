-- The total of terms by one word at a time: its coefficient, and the terms without it.
use Rattle.std.proofs.Common.{◌≡◌, ℕ, zero, suc, ◌+◌, ◌*◌, ◌%◌, ◌≤◌, Bool, true, false, cond, List, [], ◌∷◌, length, map, refl, sym, ap, ◌∙◌, arith}
use Rattle.zeta_model.specs.declared.Letter.{Letter}
use Rattle.zeta_model.specs.Modular.{Same}
use Rattle.zeta_model.specs.Product.{total}
use Rattle.zeta_model.specs.Sums.{SameSum, continued, single, same_word, sum_of}
use Rattle.zeta_model.proofs.ModularLemmas.{same-add, same-mul_right}
use Rattle.zeta_model.proofs.WordOrder.{same_word-one, same_word-itself}
use Rattle.truncated_sums.specs.Totals.{terms_total}

abbrev Word : Type 0
Word = List Letter

abbrev Terms : Type 0
Terms = List (ℕ × Word)

-- the terms of other words
unfoldable without : Word → Terms → Terms
without w [] = []
without w (term ∷ terms) = cond (same_word w term.1) (without w terms) (term ∷ without w terms)

length-without : (w : Word) (p : Terms) → length (without w p) ≤ length p
unfolding without
length-without w [] = omega arith
length-without w (term ∷ terms) =
    let less = length-without w terms in
    by_test (same_word w term.1) less
  where
    by_test : (b : Bool) → length (without w terms) ≤ length terms → length (cond b (without w terms) (term ∷ without w terms)) ≤ length (term ∷ terms)
    by_test true less = omega arith
    by_test false less = omega arith

split_total : (f : Word → ℕ) (w : Word) (p : Terms) → terms_total f p ≡ continued single p w * f w + terms_total f (without w p)
unfolding without
split_total f w [] = omega arith
split_total f w (term ∷ terms) = by_test (same_word w term.1) refl (split_total f w terms)
  where
    by_test : (b : Bool) → same_word w term.1 ≡ b → terms_total f terms ≡ continued single terms w * f w + terms_total f (without w terms)
        → term.0 * f term.1 + terms_total f terms ≡ (term.0 * cond (same_word w term.1) 1 0 + continued single terms w) * f w + terms_total f (cond (same_word w term.1) (without w terms) (term ∷ without w terms))
    by_test true e ih =
        let place : cond (same_word w term.1) 1 0 ≡ 1 = ap {B = ℕ} (λ b. cond b 1 0) e in
        let rest : terms_total f (cond (same_word w term.1) (without w terms) (term ∷ without w terms)) ≡ terms_total f (without w terms) = ap (λ b. terms_total f (cond b (without w terms) (term ∷ without w terms))) e in
        let word : f w ≡ f term.1 = ap f (same_word-one w term.1 e) in
        omega (arith, ih, rest, ap (λ x. term.0 * x * f w) place, ap (λ x. term.0 * x) word)
    by_test false e ih =
        let place : cond (same_word w term.1) 1 0 ≡ 0 = ap {B = ℕ} (λ b. cond b 1 0) e in
        let rest : terms_total f (cond (same_word w term.1) (without w terms) (term ∷ without w terms)) ≡ term.0 * f term.1 + terms_total f (without w terms) = ap (λ b. terms_total f (cond b (without w terms) (term ∷ without w terms))) e in
        omega (arith, ih, rest, ap (λ x. term.0 * x * f w) place)

coefficient-gone : (w : Word) (p : Terms) → continued single (without w p) w ≡ 0
unfolding without
coefficient-gone w [] = refl
coefficient-gone w (term ∷ terms) = by_test (same_word w term.1) refl (coefficient-gone w terms)
  where
    by_test : (b : Bool) → same_word w term.1 ≡ b → continued single (without w terms) w ≡ 0
        → continued single (cond (same_word w term.1) (without w terms) (term ∷ without w terms)) w ≡ 0
    by_test true e ih = ap (λ b. continued single (cond b (without w terms) (term ∷ without w terms)) w) e ∙ ih
    by_test false e ih =
        let place : cond (same_word w term.1) 1 0 ≡ 0 = ap {B = ℕ} (λ b. cond b 1 0) e in
        ap (λ b. continued single (cond b (without w terms) (term ∷ without w terms)) w) e ∙ omega (arith, ih, ap (λ x. term.0 * x) place)

coefficient-other : (w t : Word) (p : Terms) → same_word t w ≡ false → continued single (without w p) t ≡ continued single p t
unfolding without
coefficient-other w t [] apart = refl
coefficient-other w t (term ∷ terms) apart = by_test (same_word w term.1) refl (coefficient-other w t terms apart)
  where
    by_test : (b : Bool) → same_word w term.1 ≡ b → continued single (without w terms) t ≡ continued single terms t
        → continued single (cond (same_word w term.1) (without w terms) (term ∷ without w terms)) t ≡ term.0 * cond (same_word t term.1) 1 0 + continued single terms t
    by_test true e ih =
        let far : same_word t term.1 ≡ false = ap (same_word t) (sym (same_word-one w term.1 e)) ∙ apart in
        let place : cond (same_word t term.1) 1 0 ≡ 0 = ap {B = ℕ} (λ b. cond b 1 0) far in
        ap (λ b. continued single (cond b (without w terms) (term ∷ without w terms)) t) e ∙ omega (arith, ih, ap (λ x. term.0 * x) place)
    by_test false e ih = ap (λ b. continued single (cond b (without w terms) (term ∷ without w terms)) t) e ∙ omega (arith, ih)

module _ (m : ℕ) (f : Word → ℕ) where
  same_without : (v : Word) (p q : Terms) → SameSum m (continued single p) (continued single q)
      → SameSum m (continued single (without v p)) (continued single (without v q))
  same_without v p q same t = by_test (same_word t v) refl
    where
      by_test : (b : Bool) → same_word t v ≡ b → Same m (continued single (without v p) t) (continued single (without v q) t)
      by_test true e =
          let here : t ≡ v = same_word-one t v e in
          ap (λ x. x % m) (ap (continued single (without v p)) here ∙ coefficient-gone v p ∙ sym (ap (continued single (without v q)) here
          ∙ coefficient-gone v q))
      by_test false e = ap (λ x. x % m) (coefficient-other v t p e) ∙ same t ∙ ap (λ x. x % m) (sym (coefficient-other v t q e))

  step : (v : Word) (p q : Terms) → SameSum m (continued single p) (continued single q) → Same m (terms_total f (without v p)) (terms_total f (without v q))
      → Same m (terms_total f p) (terms_total f q)
  step v p q same rest =
      ap (λ x. x % m) (split_total f v p)
      ∙ same-add m (continued single p v * f v) (continued single q v * f v) (terms_total f (without v p)) (terms_total f (without v q)) (same-mul_right m (continued single p v) (continued single q v) (f v) (same v)) rest
      ∙ ap (λ x. x % m) (sym (split_total f v q))

  -- the first word goes from its own list, so that one is shorter
  length-first : (term : ℕ × Word) (terms : Terms) → length (without term.1 (term ∷ terms)) ≤ length terms
  unfolding without
  length-first term terms = ap_le (ap (λ b. length (cond b (without term.1 terms) (term ∷ without term.1 terms))) (same_word-itself term.1)) (length-without term.1 terms)
    where
      ap_le : {a b c : ℕ} → a ≡ b → b ≤ c → a ≤ c
      ap_le e h = omega arith

  within : (k : ℕ) (p q : Terms) → length p + length q ≤ k → SameSum m (continued single p) (continued single q) → Same m (terms_total f p) (terms_total f q)
  within k [] [] h same = refl
  within zero [] (t ∷ q) h same = absurd (omega arith)
  within zero (t ∷ p) q h same = absurd (omega arith)
  within (suc k) [] (t ∷ q) h same =
      let less = length-first t q in
      let none = length-without t.1 [] in
      step t.1 [] (t ∷ q) same (within k (without t.1 []) (without t.1 (t ∷ q)) (omega arith) (same_without t.1 [] (t ∷ q) same))
  within (suc k) (t ∷ p) q h same =
      let less = length-first t p in
      let most = length-without t.1 q in
      step t.1 (t ∷ p) q same (within k (without t.1 (t ∷ p)) (without t.1 q) (omega arith) (same_without t.1 (t ∷ p) q same))

  pub same-terms_total : (p q : Terms) → SameSum m (continued single p) (continued single q) → Same m (terms_total f p) (terms_total f q)
  same-terms_total p q same = within (length p + length q) p q (omega arith) same

pub terms_total-words : (f : Word → ℕ) (ws : List Word) → terms_total f (map (λ w. (1, w)) ws) ≡ total f ws
terms_total-words f [] = refl
terms_total-words f (w ∷ ws) = omega (arith, terms_total-words f ws)

pub continued-words : (ws : List Word) (t : Word) → continued single (map (λ w. (1, w)) ws) t ≡ sum_of ws t
continued-words [] t = refl
continued-words (w ∷ ws) t = omega (arith, continued-words ws t)
