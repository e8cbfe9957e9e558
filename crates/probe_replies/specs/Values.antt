-- The number that an expression gives where each zeta stands for its truncated sum up to n, modulo m.
use Rattle.std.specs.Prelude.{ℕ, ◌+◌, ◌-◌, ◌*◌, ◌^◌, not, Option, List, [], ◌∷◌, if◌then◌else◌}
use Rattle.std.specs.List.{find}
use Rattle.truncated_sums.specs.Inverses.{inverse_of}
use Rattle.truncated_sums.specs.TruncatedSums.{truncated_sum}
use Rattle.zeta_expr.specs.declared.expr.Factor.{Factor}
use Rattle.zeta_expr.specs.declared.expr.Factor.TheVariants.{Number, Zeta}
use Rattle.zeta_expr.specs.Forms.{TermForm}
use Rattle.zeta_expr.specs.Meaning.{number_in, has_inverse, bottoms}

-- a number as in each meaning, and a zeta's truncated sum to its power
abbrev pub factor_value : ℕ → ℕ → Factor → ℕ
factor_value m n (Number top bottom) = number_in m (Number top bottom)
factor_value m n (Zeta index power) = truncated_sum (inverse_of m) n index ^ power

abbrev pub factors_value : ℕ → ℕ → List Factor → ℕ
factors_value m n [] = 1
factors_value m n (f ∷ fs) = factor_value m n f * factors_value m n fs

-- the product of the factors, with its sign
abbrev pub term_value : ℕ → ℕ → TermForm → ℕ
term_value m n t = (if t.negative then m - 1 else 1) * factors_value m n t.factors

abbrev pub terms_value : ℕ → ℕ → List TermForm → ℕ
terms_value m n [] = 0
terms_value m n (t ∷ ts) = term_value m n t + terms_value m n ts

-- the first number below `/` that has no inverse
abbrev pub first_without_inverse : ℕ → List TermForm → Option ℕ
first_without_inverse m e = find (λ b. not (has_inverse m b)) (bottoms e)
