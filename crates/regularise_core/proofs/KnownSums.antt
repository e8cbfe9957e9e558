-- A map of words that is continued linearly depends on the coefficients alone, modulo m.
use Rattle.std.proofs.Common.{◌≡◌, ℕ, zero, suc, ◌+◌, ◌-◌, ◌*◌, ◌%◌, ◌<◌, ◌≤◌, Bool, true, false, cond, List, [], ◌∷◌, ◌++◌, length, map, refl, sym, ap, ◌∙◌, arith}
use Rattle.zeta_model.specs.declared.Letter.{Letter}
use Rattle.zeta_model.specs.Modular.{Same}
use Rattle.zeta_model.specs.Product.{total}
use Rattle.zeta_model.specs.Sums.{Sum, same_word, single, sum_of, numbered, continued}
use Rattle.zeta_model.proofs.ModularLemmas.{same-add_right, same-mul_right, same-opposite}
use Rattle.zeta_model.proofs.WordOrder.{same_word-one, same_word-itself}
use Rattle.word_sums.specs.Terms.{coefficient_of}

abbrev Word : Type 0
Word = List Letter

-- the sum of g over the words of the terms, each times its number
abbrev weighted : (Word → ℕ) → List (ℕ × Word) → ℕ
weighted g [] = 0
weighted g (p ∷ ps) = p.0 * g p.1 + weighted g ps

-- what the terms give a word
abbrev given : List (ℕ × Word) → Word → ℕ
given ps t = weighted (λ w. single w t) ps

weighted-continued : (f : Word → Sum) (ps : List (ℕ × Word)) (t : Word) → continued f ps t ≡ weighted (λ w. f w t) ps
weighted-continued f [] t = refl
weighted-continued f (p ∷ ps) t = ap (λ n. p.0 * f p.1 t + n) (weighted-continued f ps t)

weighted-append : (g : Word → ℕ) (ps qs : List (ℕ × Word)) → weighted g (ps ++ qs) ≡ weighted g ps + weighted g qs
weighted-append g [] qs = omega arith
weighted-append g (p ∷ ps) qs = omega (arith, weighted-append g ps qs)

-- the terms of other words
abbrev without : Word → List (ℕ × Word) → List (ℕ × Word)
without w [] = []
without w (p ∷ ps) = cond (same_word w p.1) (without w ps) (p ∷ without w ps)

length-without : (w : Word) (ps : List (ℕ × Word)) → length (without w ps) ≤ length ps
length-without w [] = omega arith
length-without w (p ∷ ps) = by (same_word w p.1) (length-without w ps)
  where
    by : (b : Bool) → length (without w ps) ≤ length ps → length (cond b (without w ps) (p ∷ without w ps)) ≤ length (p ∷ ps)
    by true less = omega arith
    by false less = omega arith

-- the terms of one word, gathered
weighted-without : (g : Word → ℕ) (w : Word) (ps : List (ℕ × Word)) → weighted g ps ≡ given ps w * g w + weighted g (without w ps)
weighted-without g w [] = omega arith
weighted-without g w (p ∷ ps) = by (same_word w p.1) refl (weighted-without g w ps)
  where
    by : (b : Bool) → same_word w p.1 ≡ b → weighted g ps ≡ given ps w * g w + weighted g (without w ps)
        → p.0 * g p.1 + weighted g ps ≡ (p.0 * cond b 1 0 + given ps w) * g w + weighted g (cond b (without w ps) (p ∷ without w ps))
    by true is rest =
        let same : p.0 * g p.1 ≡ p.0 * g w = ap (λ v. p.0 * g v) (sym (same_word-one w p.1 is)) in
        let both : (p.0 * 1 + given ps w) * g w ≡ p.0 * g w + given ps w * g w = grind arith in
        omega (arith, same, both, rest)
    by false is rest =
        let none : (p.0 * 0 + given ps w) * g w ≡ given ps w * g w = grind arith in
        omega (arith, none, rest)

module _ (m : ℕ) (pos : 0 < m) where
  zero_weighted : (n : ℕ) (ps : List (ℕ × Word)) → length ps ≤ n → ((t : Word) → Same m (given ps t) 0) → (g : Word → ℕ) → Same m (weighted g ps) 0
  zero_weighted n [] h none g = refl
  zero_weighted zero (p ∷ ps) h none g = absurd (omega arith)
  zero_weighted (suc n) (p ∷ ps) h none g =
      let less = length-without p.1 ps in
      let gathered : (k : Word → ℕ) → Same m (weighted k (p ∷ ps)) (weighted k (without p.1 ps)) = λ k. drop_first k in
      gathered g ∙ zero_weighted n (without p.1 ps) (omega arith) (λ t. sym (gathered (λ w. single w t)) ∙ none t) g
    where
      first : without p.1 (p ∷ ps) ≡ without p.1 ps
      first = ap (λ b. cond b (without p.1 ps) (p ∷ without p.1 ps)) (same_word-itself p.1)

      drop_first : (k : Word → ℕ) → Same m (weighted k (p ∷ ps)) (weighted k (without p.1 ps))
      drop_first k =
          let rest : ℕ = weighted k (without p.1 ps) in
          let nothing : 0 * k p.1 + rest ≡ rest = omega arith in
          ap (λ n. n % m) (weighted-without k p.1 (p ∷ ps)) ∙ ap (λ qs. (given (p ∷ ps) p.1 * k p.1 + weighted k qs) % m) first
          ∙ same-add_right m (given (p ∷ ps) p.1 * k p.1) (0 * k p.1) rest (same-mul_right m (given (p ∷ ps) p.1) 0 (k p.1) (none p.1))
          ∙ ap (λ n. n % m) nothing

  -- the terms with their opposites
  abbrev opposite : List (ℕ × Word) → List (ℕ × Word)
  opposite qs = map (λ q. ((m - 1) * q.0, q.1)) qs

  weighted-opposite : (g : Word → ℕ) (qs : List (ℕ × Word)) → weighted g (opposite qs) ≡ weighted g qs * (m - 1)
  weighted-opposite g [] = omega arith
  weighted-opposite g (q ∷ qs) =
      let both : (q.0 * g q.1 + weighted g qs) * (m - 1) ≡ (m - 1) * q.0 * g q.1 + weighted g qs * (m - 1) = grind arith in
      omega (arith, weighted-opposite g qs, both)

  -- equal coefficients give equal sums
  weighted_known : (ps qs : List (ℕ × Word)) → ((t : Word) → Same m (given ps t) (given qs t)) → (g : Word → ℕ) → Same m (weighted g ps) (weighted g qs)
  weighted_known ps qs same g =
      let p : ℕ = weighted g ps in
      let q : ℕ = weighted g qs in
      let zero_sum : Same m (p + q * (m - 1)) 0 = sym (ap (λ n. n % m) (apart g))
      ∙ zero_weighted (length (ps ++ opposite qs)) (ps ++ opposite qs) (omega arith) none g in
      let turn : p + q + q * (m - 1) ≡ p + q * (m - 1) + q = omega arith in
      sym (same-opposite m p q pos) ∙ ap (λ n. n % m) turn ∙ same-add_right m (p + q * (m - 1)) 0 q zero_sum ∙ ap (λ n. n % m) (omega arith)
    where
      apart : (k : Word → ℕ) → weighted k (ps ++ opposite qs) ≡ weighted k ps + weighted k qs * (m - 1)
      apart k = weighted-append k ps (opposite qs) ∙ ap (λ n. weighted k ps + n) (weighted-opposite k qs)

      none : (t : Word) → Same m (given (ps ++ opposite qs) t) 0
      none t =
          let q : ℕ = given qs t in
          let from_zero : q + q * (m - 1) ≡ 0 + q + q * (m - 1) = omega arith in
          ap (λ n. n % m) (apart (λ w. single w t)) ∙ same-add_right m (given ps t) q (q * (m - 1)) (same t) ∙ ap (λ n. n % m) from_zero
          ∙ same-opposite m 0 q pos

  -- so a map that is continued has the same sum for both
  pub continued_same : (ps qs : List (ℕ × Word)) → ((t : Word) → Same m (continued single ps t) (continued single qs t)) → (f : Word → Sum) (t : Word)
      → Same m (continued f ps t) (continued f qs t)
  continued_same ps qs same f t =
      ap (λ n. n % m) (weighted-continued f ps t)
      ∙ weighted_known ps qs (λ r. ap (λ n. n % m) (sym (weighted-continued single ps r)) ∙ same r ∙ ap (λ n. n % m) (weighted-continued single qs r))
      (λ w. f w t)
      ∙ ap (λ n. n % m) (sym (weighted-continued f qs t))

-- each word of a list once
abbrev ones : List Word → List (ℕ × Word)
ones ws = map (λ w. (1, w)) ws

continued-ones : (f : Word → Sum) (ws : List Word) (t : Word) → continued f (ones ws) t ≡ total (λ w. f w t) ws
continued-ones f [] t = refl
continued-ones f (w ∷ ws) t = omega (arith, continued-ones f ws t)

-- terms that give each word the number of its places in a list, modulo m, are as good as the list for every map of words
pub continued_known : {E : Type 0} (m : ℕ) (value : E → ℕ) (terms : List (Word × E)) (ws : List Word) → 0 < m
    → ((t : Word) → Same m (coefficient_of value terms t) (sum_of ws t))
    → (f : Word → Sum) (t : Word) → Same m (continued f (numbered value terms) t) (total (λ w. f w t) ws)
continued_known m value terms ws pos same f t =
    continued_same m pos (numbered value terms) (ones ws) (λ r. same r ∙ ap (λ n. n % m) (sym (continued-ones single ws r))) f t
    ∙ ap (λ n. n % m) (continued-ones f ws t)
