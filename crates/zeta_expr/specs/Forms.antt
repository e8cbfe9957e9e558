-- Terms as contracts see them.
use Rattle.std.specs.Prelude.{◌≡◌, ℕ, Bool, Option, List}
use Rattle.std.specs.Coded.{Coded, code_by, coded×, coded⊎, coded_ℕ, coded_bool, coded_list, coded_option}
use Rattle.std.proofs.Common.{refl, ◌⊎◌, inl, inr}
use Rattle.zeta_expr.specs.declared.expr.Factor.{Factor}
use Rattle.zeta_expr.specs.declared.expr.Factor.TheVariants.{Number, Zeta}

-- the product of some factors, with its sign
pub record TermForm : Type 0 where
  pub negative : Bool
  pub factors : List Factor

abbrev split : Factor → (ℕ × Option ℕ) ⊎ (List ℕ × ℕ)
split (Number top bottom) = inl (top, bottom)
split (Zeta word power) = inr (word, power)

abbrev join : (ℕ × Option ℕ) ⊎ (List ℕ × ℕ) → Factor
join (inl n) = Number n.0 n.1
join (inr z) = Zeta z.0 z.1

pub join-split : (f : Factor) → join (split f) ≡ f
join-split (Number top bottom) = refl
join-split (Zeta word power) = refl

-- a factor is stored as its parts
abbrev pub factor_code : Coded Factor
factor_code = code_by ((ℕ × Option ℕ) ⊎ (List ℕ × ℕ)) (coded⊎ (coded× coded_ℕ (coded_option coded_ℕ)) (coded×
    (coded_list coded_ℕ) coded_ℕ)) split join join-split

abbrev pub term_code : Coded TermForm
term_code = code_by (Bool × List Factor) (coded× coded_bool (coded_list factor_code)) (λ t. (t.negative, t.factors)) (λ p. record {
  negative =
      p.0;
  factors = p.1;
}) (λ _. refl)
