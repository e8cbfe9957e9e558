-- The shuffle of a sum with a word, and monomials whose products with the columns of one table are columns of another.
use Rattle.std.specs.Prelude.{◌≡◌, ℕ, ◌+◌, ◌*◌, ◌<◌, ◌≤◌, List, length}
use Rattle.zeta_model.specs.declared.Letter.{Letter}
use Rattle.zeta_model.specs.Words.{depth_of}
use Rattle.zeta_model.specs.WordLists.{all_words}
use Rattle.zeta_model.specs.Product.{total}
use Rattle.zeta_model.specs.Alphabets.{shuffle_of}
use Rattle.zeta_model.specs.Sums.{Sum, sum_of}
use Rattle.lyndon_words.specs.Lyndon.{joined}
use Rattle.lyndon_words.specs.Monomials.{IsMonomial}
use Rattle.column_order.specs.Columns.{ColumnList}
use Rattle.table_model.specs.MonomialWords.{column_at}

-- the shuffle of a sum of words of weight k with u: for each of the words, its shuffle with u times its coefficient
abbrev pub shuffle_of_sum : ℕ → Sum → List Letter → Sum
shuffle_of_sum k s u t = total (λ w. s w * sum_of (shuffle_of w u) t) (all_words k)

-- columns of one order, the lower ones of a weight of at least 3, the higher ones of at least 2 more
pub record IsLower (low high : ColumnList) : Type 0 where
  pub order : low.preference ≡ high.preference
  pub least : 3 ≤ low.weight
  pub most : low.weight + 2 ≤ high.weight

-- a monomial whose weight with the lower weight is the higher weight, and whose depth with the lower depth is at most the higher depth
pub record IsCofactor (low high : ColumnList) (q : List (List Letter)) : Type 0 where
  pub monomial : IsMonomial q
  pub weight : low.weight + length (joined q) ≡ high.weight
  pub depth : low.depth + depth_of (joined q) ≤ high.depth

-- p is the monomial of the column at which one of the rows leads
abbrev pub LeadsARow : ColumnList → ℕ → (ℕ → ℕ) → List (List Letter) → Type 0
LeadsARow columns count lead p = (i : ℕ) × (i < count) × (column_at columns.list (lead i) ≡ p)
