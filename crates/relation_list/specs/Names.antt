-- Names of relations: which are names, their weight and their depth.
use Rattle.std.specs.Prelude.{ℕ, ◌+◌, max, Bool, ◌&&◌, ◌||◌, ◌==◌, nat_lt, nat_le, List, length}
use Rattle.std.specs.Ordering.{is_lt, is_le}
use Rattle.zeta_model.specs.declared.Letter.{Letter}
use Rattle.zeta_model.specs.Words.{word_cmp, depth_of, is_admissible}
use Rattle.zeta_model.specs.Duality.{dual_of}
use Rattle.relation_list.specs.declared.names.Direct.{Direct}
use Rattle.relation_list.specs.declared.names.Direct.TheVariants.{Fin, Reg, Dual}
use Rattle.relation_list.specs.declared.names.RelName.{RelName}
use Rattle.relation_list.specs.declared.names.RelName.TheVariants.{Plain, Prod}

-- (weight of u, u) is not after (weight of v, v)
abbrev pub in_order : List Letter → List Letter → Bool
in_order u v = nat_lt (length u) (length v) || (length u == length v && is_le (word_cmp u v))

-- the word is less than its dual
abbrev pub below_dual : List Letter → Bool
below_dual u = is_lt (word_cmp u (dual_of u))

abbrev pub direct_weight_of : Direct → ℕ
direct_weight_of (Fin u v) = length u + length v
direct_weight_of (Reg m v) = m + length v
direct_weight_of (Dual u) = length u

abbrev pub weight_of_name : RelName → ℕ
weight_of_name (Plain r) = direct_weight_of r
weight_of_name (Prod r u) = direct_weight_of r + length u

abbrev pub direct_depth_of : Direct → ℕ
direct_depth_of (Fin u v) = depth_of u + depth_of v
direct_depth_of (Reg m v) = m + depth_of v
direct_depth_of (Dual u) = max (depth_of u) (depth_of (dual_of u))

abbrev pub depth_of_name : RelName → ℕ
depth_of_name (Plain r) = direct_depth_of r
depth_of_name (Prod r u) = direct_depth_of r + depth_of u

-- the name of a direct relation
abbrev pub is_direct : Direct → Bool
is_direct (Fin u v) = is_admissible u && (is_admissible v && in_order u v)
is_direct (Reg m v) = nat_lt 0 m && is_admissible v
is_direct (Dual u) = is_admissible u && below_dual u

-- the name of a direct relation, or of a product of a direct relation of weight 3 or more with an admissible word
abbrev pub is_formed : RelName → Bool
is_formed (Plain r) = is_direct r
is_formed (Prod r u) = is_direct r && (nat_le 3 (direct_weight_of r) && is_admissible u)

-- the name of a relation of weight at most 24
abbrev pub is_name_of : RelName → Bool
is_name_of n = is_formed n && nat_le (weight_of_name n) 24
