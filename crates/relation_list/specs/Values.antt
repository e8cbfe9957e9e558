-- The value of a name: a sum of admissible words of its weight, modulo m, that is zero for multiple zeta values
-- (Ihara, Kaneko and Zagier 2006).
use Rattle.std.specs.Prelude.{◌≡◌, ℕ, ◌*◌, ◌≤◌, true, List, length}
use Rattle.zeta_model.specs.declared.Letter.{Letter}
use Rattle.zeta_model.specs.Words.{depth_of, is_admissible}
use Rattle.zeta_model.specs.Product.{total}
use Rattle.zeta_model.specs.Duality.{dual_of}
use Rattle.zeta_model.specs.Alphabets.{shuffle_of, stuffle_of}
use Rattle.zeta_model.specs.Sums.{Sum, single, sum_of, difference}
use Rattle.zeta_model.specs.Regularise.{y_word, reg_of}
use Rattle.relation_list.specs.declared.names.Direct.{Direct}
use Rattle.relation_list.specs.declared.names.Direct.TheVariants.{Fin, Reg, Dual}
use Rattle.relation_list.specs.declared.names.RelName.{RelName}
use Rattle.relation_list.specs.declared.names.RelName.TheVariants.{Plain, Prod}
use Rattle.zeta_model.specs.WordLists.{all_words}
use Rattle.relation_list.specs.Names.{direct_weight_of, weight_of_name, depth_of_name}

-- shuffle less stuffle; the regularised stuffle of y^k with v; a word less its dual
abbrev pub direct_value_of : ℕ → Direct → Sum
direct_value_of m (Fin u v) = difference m (sum_of (shuffle_of u v)) (sum_of (stuffle_of u v))
direct_value_of m (Reg k v) = λ t. total (λ w. reg_of m w t) (stuffle_of (y_word k) v)
direct_value_of m (Dual u) = difference m (single u) (single (dual_of u))

-- for Prod, the shuffle of the value of r with u: each word of r's weight times its coefficient
abbrev pub value_of : ℕ → RelName → Sum
value_of m (Plain r) = direct_value_of m r
value_of m (Prod r u) = λ t. total (λ w. direct_value_of m r w * sum_of (shuffle_of w u) t) (all_words (direct_weight_of r))

-- t is an admissible word of the weight of n, and at most as deep as n
pub record IsWordOf (n : RelName) (t : List Letter) : Type 0 where
  pub admissible : is_admissible t ≡ true
  pub weight : length t ≡ weight_of_name n
  pub depth : depth_of t ≤ depth_of_name n
