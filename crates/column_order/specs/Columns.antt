-- The columns of a weight and a depth: which monomials they are, how many, and their list in lead order.
use Rattle.std.specs.Prelude.{◌≡◌, ℕ, ◌-◌, ◌<◌, ◌≤◌, ◌↔◌, List, length, IsTrue}
use Rattle.std.specs.List.{Contains}
use Rattle.std.specs.List.Sorted.{IsStrictlySortedBy}
use Rattle.zeta_model.specs.declared.Letter.{Letter}
use Rattle.zeta_model.specs.WordLists.{binomial_sum}
use Rattle.zeta_model.specs.Words.{depth_of, is_admissible}
use Rattle.lyndon_words.specs.Lyndon.{joined}
use Rattle.lyndon_words.specs.Monomials.{IsMonomial}
use Rattle.column_order.specs.declared.ranks.Preference.{Preference}
use Rattle.column_order.specs.LeadOrder.{lead_cmp}
use Rattle.column_order.specs.Ranks.{rank_of}

-- a monomial of weight w and depth at most d
pub record IsColumn (w d : ℕ) (p : List (List Letter)) : Type 0 where
  pub monomial : IsMonomial p
  pub weight : length (joined p) ≡ w
  pub depth : depth_of (joined p) ≤ d

-- an admissible word of weight w and depth at most d
pub record IsColumnWord (w d : ℕ) (u : List Letter) : Type 0 where
  pub admissible : IsTrue (is_admissible u)
  pub weight : length u ≡ w
  pub depth : depth_of u ≤ d

-- the sum of w - 2 over r - 1, for r from 1 to d
abbrev pub column_count : ℕ → ℕ → ℕ
column_count w d = binomial_sum (w - 2) d

-- the columns and nothing else, each strictly before every later one in lead order
pub record IsColumnList (ranks : List Letter → ℕ) (w d : ℕ) (list : List (List (List Letter))) : Type 0 where
  pub in_order : IsStrictlySortedBy (lead_cmp ranks) list
  pub whole : (p : List (List Letter)) → Contains list p ↔ IsColumn w d p

-- the weights and depths for which columns are listed
pub record HasLimits (w d : ℕ) : Type 0 where
  pub least : 2 ≤ w
  pub most : w ≤ 24
  pub some : 1 ≤ d
  pub below : d < w

-- a list of columns with their weight, the greatest depth, and what orders them
pub record ColumnList : Type 0 where
  pub weight : ℕ
  pub depth : ℕ
  pub preference : Preference
  pub list : List (List (List Letter))

-- it is the whole list of columns, in lead order
abbrev pub IsColumns : ColumnList → Type 0
IsColumns columns = IsColumnList (rank_of columns.preference) columns.weight columns.depth columns.list
