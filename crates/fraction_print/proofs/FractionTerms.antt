-- The text of a term with its sign determines its column and its residue.
use Rattle.std.proofs.Common.{◌≡◌, ℕ, ◌^◌, ◌<◌, ◌≤◌, Bool, true, false, List, [], ◌∷◌, ◌++◌, length, map, get_or, refl, sym, subst, ◌∙◌, arith}
use Rattle.std.specs.Prelude.{◌==◌, if◌then◌else◌, codes}
use Rattle.std.specs.List.{AllByRecursion}
use Rattle.std.specs.Fmt.{decimal}
use Rattle.std.proofs.Math.Nat.{le-mul_of_pos_right}
use Rattle.std.proofs.lemmas.Bool.{eqb-true}
use Rattle.std.proofs.lemmas.Fmt.{decimal_injective}
use Rattle.zeta_model.specs.declared.Letter.{Letter}
use Rattle.zeta_model.specs.Indices.{word_text}
use Rattle.fractions.specs.Fractions.{IsSmall, IsFraction}
use Rattle.fractions.proofs.SmallNumbers.{small_below}
use Rattle.fractions.proofs.Uniqueness.{same_residue, whole_fraction}
use Rattle.poly_print.specs.Polynomials.{powers_of, power_text, monomial_text}
use Rattle.poly_print.proofs.CutTexts.{IsFree, IsDigit, free_append, cut, never, join_free, decimal_free}
use Rattle.poly_print.proofs.MonomialTexts.{IsPower, HasText, no_digit, word_free, powers_are, monomial_free, monomial_text-injective}
use Rattle.poly_print.proofs.RowTexts.{HaveTexts}
use Rattle.fraction_print.specs.FractionTexts.{Coefficient, IsCoefficient, is_negative, size_text}
use Rattle.fraction_print.specs.FractionTexts.Coefficient.{Ratio, Residue}
use Rattle.fraction_print.proofs.CutSigns.{HasNoSign, both_free, no_sign_append}

-- no sign in the text of a monomial
word_minus_free : (w : List Letter) → length w ≤ 24 → IsFree 45 (word_text w)
word_minus_free w l =
    word_free 45 (no_digit 45 (omega arith)) (λ e. absurd (omega arith)) (λ e. absurd (omega arith)) (λ e. absurd (omega arith))
    (λ e. absurd (omega arith)) w l

power_minus_free : (t : Bool) (p : List Letter × ℕ) → IsPower p → IsFree 45 (if t then word_text p.0 else word_text p.0 ++ (codes "^" ++ decimal p.1))
power_minus_free true p h = word_minus_free p.0 h.word.light
power_minus_free false p h =
    free_append 45 (word_text p.0) (94 ∷ decimal p.1) (word_minus_free p.0 h.word.light)
    ((λ e. absurd (omega arith)), decimal_free 45 p.1 (no_digit 45 (omega arith)) h.few)

powers_minus_free : (ps : List (List Letter × ℕ)) → AllByRecursion IsPower ps → AllByRecursion (IsFree 45) (map power_text ps)
powers_minus_free [] h = tt
powers_minus_free (p ∷ ps) h = (power_minus_free (p.1 == 1) p h.0, powers_minus_free ps h.1)

monomial_no_sign : (p : List (List Letter)) → HasText p → HasNoSign (monomial_text p)
monomial_no_sign [] h = tt
monomial_no_sign (u ∷ us) h = both_free (monomial_text (u ∷ us)) (monomial_free u us h)
    (join_free 42 45 (map power_text (powers_of (u ∷ us))) (λ e. absurd (omega arith)) (powers_minus_free (powers_of (u ∷ us)) (powers_are u us h)))

-- a small number is below the modulus
pub small_number : (m a : ℕ) → 0 < m → IsSmall m a → a < m
small_number m a pos small = small_below m a m small (omega (arith, le-mul_of_pos_right m pos))

ratio_free : (c : ℕ) → (IsDigit c → ⊥) → (47 ≡ c → ⊥) → (a b : ℕ) → a < 2 ^ 64 → b < 2 ^ 64 → (t : Bool)
    → IsFree c (if t then decimal a else decimal a ++ (codes "/" ++ decimal b))
ratio_free c digit slash a b la lb true = decimal_free c a digit la
ratio_free c digit slash a b la lb false = free_append c (decimal a) (47 ∷ decimal b) (decimal_free c a digit la) (slash, decimal_free c b digit lb)

module _ (m : ℕ) (from : 3 ≤ m) (most : m < 2 ^ 64) where
  below : (a : ℕ) → IsSmall m a → a < 2 ^ 64
  below a small = omega (arith, small_number m a (omega (arith, from)) small, most)

  -- bytes that are no digit and no slash stand in no coefficient
  size_free : (c : ℕ) → (IsDigit c → ⊥) → (47 ≡ c → ⊥) → (r : ℕ) (k : Coefficient) → r < m → IsCoefficient m r k → IsFree c (size_text k)
  size_free c digit slash r (Ratio s a b) l h = ratio_free c digit slash a b (below a h.small_top) (below b h.small_bottom) (b == 1)
  size_free c digit slash r (Residue q) l h = decimal_free c q digit (omega (arith, h.0, l, most))

  ratio_same : (a b p q : ℕ) → a < 2 ^ 64 → b < 2 ^ 64 → p < 2 ^ 64 → q < 2 ^ 64 → (t u : Bool) → (b == 1) ≡ t → (q == 1) ≡ u
      → (if t then decimal a else decimal a ++ (codes "/" ++ decimal b)) ≡ (if u then decimal p else decimal p ++ (codes "/" ++ decimal q))
      → (a ≡ p) × (b ≡ q)
  ratio_same a b p q la lb lp lq true true ht hu e = (decimal_injective a p la lp e, eqb-true b 1 ht ∙ sym (eqb-true q 1 hu))
  ratio_same a b p q la lb lp lq true false ht hu e = absurd
      (never 47 (decimal a) (decimal p) (decimal q) (decimal_free 47 a (no_digit 47 (omega arith)) la) e)
  ratio_same a b p q la lb lp lq false true ht hu e =
      absurd (never 47 (decimal p) (decimal a) (decimal b) (decimal_free 47 p (no_digit 47 (omega arith)) lp) (sym e))
  ratio_same a b p q la lb lp lq false false ht hu e =
      let digit = no_digit 47 (omega arith) in
      let r = cut 47 (decimal a) (decimal p) (decimal b) (decimal q) (decimal_free 47 a digit la) (decimal_free 47 p digit lp) e in
      (decimal_injective a p la lp r.0, decimal_injective b q lb lq r.1)

  -- a fraction prints as no residue that has none
  apart : (c d : ℕ) (s : Bool) (a b r : ℕ) → d < m → IsFraction m c s a b → IsCoefficient m d (Residue r) → (t : Bool)
      → (if t then decimal a else decimal a ++ (codes "/" ++ decimal b)) ≡ decimal r → ⊥
  apart c d s a b r l f none true e =
      let same : a ≡ r = decimal_injective a r (below a f.small_top) (omega (arith, none.0, l, most)) e in
      let whole : IsFraction m a false a 1 = whole_fraction m a from f.small_top in
      none.1 false a 1 (subst (λ x. IsFraction m x false a 1) (same ∙ none.0) whole)
  apart c d s a b r l f none false e =
      never 47 (decimal r) (decimal a) (decimal b) (decimal_free 47 r (no_digit 47 (omega arith)) (omega (arith, none.0, l, most))) (sym e)

  pub residue_is : (c d : ℕ) (k j : Coefficient) → c < m → d < m → IsCoefficient m c k → IsCoefficient m d j → is_negative k ≡ is_negative j
      → size_text k ≡ size_text j → c ≡ d
  residue_is c d (Ratio s a b) (Ratio r p q) lc ld f g sign e =
      let same = ratio_same a b p q (below a f.small_top) (below b f.small_bottom) (below p g.small_top) (below q g.small_bottom) (b == 1)
      (q == 1) refl refl e in
      let moved : IsFraction m d s a b =
      subst (λ x. IsFraction m d x a b) (sym sign) (subst (λ x. IsFraction m d r x b) (sym same.0) (subst (λ x. IsFraction m d r p x) (sym same.1) g)) in
      same_residue m c d s a b lc ld f moved
  residue_is c d (Ratio s a b) (Residue r) lc ld f g sign e = absurd (apart c d s a b r ld f g (b == 1) e)
  residue_is c d (Residue r) (Ratio s a b) lc ld f g sign e = absurd (apart d c s a b r lc g f (b == 1) (sym e))
  residue_is c d (Residue r) (Residue q) lc ld f g sign e =
      sym f.0 ∙ decimal_injective r q (omega (arith, f.0, lc, most)) (omega (arith, g.0, ld, most)) e ∙ g.0

  module _ (columns : List (List (List Letter))) (texts : HaveTexts columns) where
    -- a term without its sign
    abbrev pub body : ℕ → Coefficient → List ℕ
    body col k = size_text k ++ (42 ∷ monomial_text (get_or columns col []))

    pub body_no_sign : (col r : ℕ) (k : Coefficient) → col < length columns → r < m → IsCoefficient m r k → HasNoSign (body col k)
    body_no_sign col r k lc lr h =
        let mono : HasNoSign (monomial_text (get_or columns col [])) = monomial_no_sign (get_or columns col []) (texts.each col lc) in
        no_sign_append (size_text k) (42 ∷ monomial_text (get_or columns col []))
        (both_free (size_text k) (size_free 43 (no_digit 43 (omega arith)) (λ e. absurd (omega arith)) r k lr h)
        (size_free 45 (no_digit 45 (omega arith)) (λ e. absurd (omega arith)) r k lr h))
        (((λ e. absurd (omega arith)), (λ e. absurd (omega arith))), mono)

    pub term_is : (e d : ℕ × ℕ) (k j : Coefficient) → e.0 < length columns → d.0 < length columns → e.1 < m → d.1 < m → IsCoefficient m e.1 k
        → IsCoefficient m d.1 j → is_negative k ≡ is_negative j → body e.0 k ≡ body d.0 j → e ≡ d
    term_is e d k j le ld re rd hk hj sign same =
        let star : IsDigit 42 → ⊥ = no_digit 42 (omega arith) in
        let slash : 47 ≡ 42 → ⊥ = λ q. absurd (omega (arith, q)) in
        let c = cut 42 (size_text k) (size_text j) (monomial_text (get_or columns e.0 [])) (monomial_text (get_or columns d.0 []))
        (size_free 42 star slash e.1 k re hk) (size_free 42 star slash d.1 j rd hj) same in
        let b = texts.apart e.0 d.0 le ld (monomial_text-injective (get_or columns e.0 []) (get_or columns d.0 []) (texts.each e.0 le)
        (texts.each d.0 ld) c.1) in
        let a = residue_is e.1 d.1 k j re rd hk hj sign c.0 in
        λ i. (b i, a i)
