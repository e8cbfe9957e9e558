-- A term with two zetas, and the terms that the words of their stuffle make of it.
use Rattle.std.specs.Prelude.{Bool, List, ◌∷◌, map}
use Rattle.zeta_model.specs.declared.Letter.{Letter}
use Rattle.zeta_model.specs.Alphabets.{stuffle_of}
use Rattle.zeta_model.specs.Indices.{index_of}
use Rattle.zeta_expr.specs.declared.expr.Factor.{Factor}
use Rattle.zeta_expr.specs.declared.expr.Factor.TheVariants.{Zeta}
use Rattle.zeta_expr.specs.Forms.{TermForm}

abbrev pub zeta_of : List Letter → Factor
zeta_of w = Zeta (index_of w) 1

-- the product of the zetas of two words and of more factors
abbrev pub with_zetas : Bool → List Letter → List Letter → List Factor → TermForm
with_zetas negative u v factors = record { negative = negative; factors = zeta_of u ∷ zeta_of v ∷ factors }

-- for each word of the stuffle, the product of its zeta and of the factors
abbrev pub stuffled : Bool → List Letter → List Letter → List Factor → List TermForm
stuffled negative u v factors = map (λ w. record { negative = negative; factors = zeta_of w ∷ factors }) (stuffle_of u v)
