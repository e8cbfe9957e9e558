-- The value of a product of two zetas, by the words of their stuffle.
use Rattle.std.proofs.Common.{◌≡◌, ℕ, ◌+◌, ◌-◌, ◌*◌, ◌^◌, Bool, true, List, [], ◌∷◌, ◌++◌, cond, map, sym, ap, ◌∙◌, arith}
use Rattle.std.proofs.Math.Nat.{pow-suc, pow-zero}
use Rattle.zeta_model.specs.declared.Letter.{Letter}
use Rattle.zeta_model.specs.Alphabets.{stuffle_of}
use Rattle.zeta_model.specs.Product.{total}
use Rattle.zeta_model.specs.Words.{has_index}
use Rattle.zeta_expr.specs.declared.expr.Factor.{Factor}
use Rattle.zeta_expr.specs.Forms.{TermForm}
use Rattle.truncated_sums.specs.Inverses.{inverse_of}
use Rattle.truncated_sums.specs.TruncatedSums.{word_value}
use Rattle.truncated_sums.proofs.StuffleSums.{word_value-stuffle}
use Rattle.probe_replies.specs.Stuffles.{zeta_of, with_zetas, stuffled}
use Rattle.probe_replies.specs.Values.{factors_value, term_value, terms_value}

module _ (m n : ℕ) where
  terms_value-append : (p q : List TermForm) → terms_value m n (p ++ q) ≡ terms_value m n p + terms_value m n q
  terms_value-append [] q = omega arith
  terms_value-append (t ∷ p) q = omega (arith, terms_value-append p q)

  abbrev value_of_word : List Letter → ℕ
  value_of_word w = word_value (inverse_of m) n w

  power_one : (a : ℕ) → a ^ 1 ≡ a
  power_one a = pow-suc a 0 ∙ ap (λ x. x * a) (pow-zero a) ∙ omega arith

  module _ (negative : Bool) (factors : List Factor) where
    abbrev sign : ℕ
    sign = cond negative (m - 1) 1

    abbrev rest : ℕ
    rest = factors_value m n factors

    more_words : (s f a t : ℕ) → s * (a * f) + s * (t * f) ≡ s * ((a + t) * f)
    more_words s f a t = grind arith

    words_value : (ws : List (List Letter))
        → terms_value m n (map (λ w. record { negative = negative; factors = zeta_of w ∷ factors }) ws) ≡ sign * (total value_of_word ws * rest)
    words_value [] = omega arith
    words_value (w ∷ ws) =
        ap (λ a. sign * (a * rest) + terms_value m n (map (λ w. record { negative = negative; factors = zeta_of w ∷ factors }) ws))
        (power_one (value_of_word w))
        ∙ ap (λ t. sign * (value_of_word w * rest) + t) (words_value ws) ∙ more_words sign rest (value_of_word w) (total value_of_word ws)

    turned : (s f a b : ℕ) → s * (a * (b * f)) ≡ s * (a * b * f)
    turned s f a b = grind arith

    zetas_value : (u v : List Letter) → has_index u ≡ true → has_index v ≡ true
        → term_value m n (with_zetas negative u v factors) ≡ terms_value m n (stuffled negative u v factors)
    zetas_value u v iu iv =
        (λ i. sign * (power_one (value_of_word u) i * (power_one (value_of_word v) i * rest)))
        ∙ turned sign rest (value_of_word u) (value_of_word v)
        ∙ ap (λ t. sign * (t * rest)) (word_value-stuffle (inverse_of m) n u v iu iv)
        ∙ sym (words_value (stuffle_of u v))

  pub stuffled_value : (u v : List Letter) (negative : Bool) (factors : List Factor) (front behind : List TermForm) → has_index u ≡ true → has_index v ≡ true
      → terms_value m n (front ++ with_zetas negative u v factors ∷ behind) ≡ terms_value m n (front ++ stuffled negative u v factors ++ behind)
  stuffled_value u v negative factors front behind iu iv =
      omega (
        arith,
        terms_value-append front (with_zetas negative u v factors ∷ behind),
        terms_value-append (front ++ stuffled negative u v factors) behind,
        terms_value-append front (stuffled negative u v factors),
        zetas_value negative factors u v iu iv,
      )
