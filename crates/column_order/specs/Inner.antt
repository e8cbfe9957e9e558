-- What single steps of the code answer. No public clause cites these, so a reader need not believe them.
use Rattle.std.specs.Prelude.{◌≡◌, ℕ, ◌≤◌, List, length, map, get_or, slice_get, Some}
use Rattle.std.specs.List.{All}
use Rattle.std.specs.declared.cmp.Ordering.{Ordering}
use Rattle.std.specs.Ordering.{nat_cmp, ordering_then}
use Rattle.std.specs.Cmp.Lexicographic.{slice_cmp}
use Rattle.zeta_model.specs.declared.Letter.{Letter}
use Rattle.zeta_model.specs.Words.{word_cmp, depth_of}
use Rattle.zeta_model.specs.WordLists.{admissible_within}
use Rattle.lyndon_words.specs.Lyndon.{joined}
use Rattle.lyndon_words.specs.Monomials.{IsMonomial}
use Rattle.column_order.specs.declared.lead_order.Standing.{Standing}
use Rattle.column_order.specs.declared.column.Column.{Column}
use Rattle.column_order.specs.LeadOrder.{rank_sum}
use Rattle.column_order.specs.Columns.{HasLimits, IsColumnList}

-- the numbers are the sum of ranks and the depth of p
pub record IsStanding (f : List Letter → ℕ) (p : List (List Letter)) (s : Standing) : Type 0 where
  pub ranks : s.ranks ≡ rank_sum f p
  pub depth : s.depth ≡ depth_of (joined p)

-- the lead order of p and q, whose standings are s and t
abbrev pub standing_cmp : List (List Letter) → Standing → List (List Letter) → Standing → Ordering
standing_cmp p s q t =
    ordering_then (nat_cmp (length p) (length q))
    (ordering_then (nat_cmp t.ranks s.ranks)
    (ordering_then (nat_cmp t.depth s.depth)
    (slice_cmp word_cmp q p)))

abbrev pub column_cmp : Column → Column → Ordering
column_cmp a b = standing_cmp a.monomial a.standing b.monomial b.standing

-- a monomial with its own standing
pub record HasStanding (f : List Letter → ℕ) (c : Column) : Type 0 where
  pub monomial : IsMonomial c.monomial
  pub standing : IsStanding f c.monomial c.standing

abbrev pub monomials_of : List Column → List (List (List Letter))
monomials_of cs = map (λ c. c.monomial) cs

-- the columns are the monomials of the words, one for each
pub record AreOf (f : List Letter → ℕ) (ws : List (List Letter)) (cs : List Column) : Type 0 where
  pub words : map joined (monomials_of cs) ≡ ws
  pub stood : All (HasStanding f) cs

-- the columns of weight w and depth at most d, in lead order
pub record AreColumns (f : List Letter → ℕ) (w d : ℕ) (cs : List Column) : Type 0 where
  pub list : IsColumnList f w d (monomials_of cs)
  pub stood : All (HasStanding f) cs

-- each word stands in the other list at the place that is kept beside it
pub record ArePlaces (words others : List (List Letter)) (places : List ℕ) : Type 0 where
  pub long : length places ≡ length words
  pub at : (k : ℕ) (u : List Letter) → slice_get words k ≡ Some u → slice_get others (get_or places k 0) ≡ Some u

-- the words of columns
abbrev pub column_words : List Column → List (List Letter)
column_words cs = map joined (monomials_of cs)

-- the columns of weight w and depth at most d in lead order, their words in increasing order, and the place of each word's column
pub record AreKept (f : List Letter → ℕ) (w d : ℕ) (cs : List Column) (words : List (List Letter)) (places : List ℕ) : Type 0 where
  pub columns : AreColumns f w d cs
  pub limits : HasLimits w d
  pub few : length cs ≤ 2048
  pub words_are : words ≡ admissible_within w d
  pub places_are : ArePlaces words (column_words cs) places
