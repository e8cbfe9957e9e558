-- Monomials: products of admissible Lyndon words (Radford 1979).
use Rattle.std.specs.Prelude.{◌≡◌, ◌+◌, ◌≤◌, cond, List, [], ◌∷◌, length, IsTrue}
use Rattle.std.specs.Ordering.{is_lt}
use Rattle.zeta_model.specs.declared.Letter.{Letter}
use Rattle.zeta_model.specs.Words.{word_cmp, is_admissible}
use Rattle.zeta_model.specs.Sums.{sum_of}
use Rattle.lyndon_words.specs.Lyndon.{AllLyndon, Falls, joined}

abbrev pub AllAdmissible : List (List Letter) → Type 0
AllAdmissible [] = Unit {0}
AllAdmissible (u ∷ us) = IsTrue (is_admissible u) × AllAdmissible us

-- admissible Lyndon words that do not increase, of weight at most 24 together
pub record IsMonomial (p : List (List Letter)) : Type 0 where
  pub lyndon : AllLyndon p
  pub admissible : AllAdmissible p
  pub falls : Falls p
  pub within : length (joined p) ≤ 24

-- p has each factor as often as a and b together
pub record IsProduct (a b p : List (List Letter)) : Type 0 where
  pub monomial : IsMonomial p
  pub counts : (w : List Letter) → sum_of p w ≡ sum_of a w + sum_of b w

-- w put behind the words of a list that are not less
abbrev pub put : List Letter → List (List Letter) → List (List Letter)
put w [] = w ∷ []
put w (u ∷ us) = cond (is_lt (word_cmp u w)) (w ∷ u ∷ us) (u ∷ put w us)

-- the factors of a put into b, one after the other
abbrev pub product_of : List (List Letter) → List (List Letter) → List (List Letter)
product_of [] b = b
product_of (w ∷ a) b = product_of a (put w b)
