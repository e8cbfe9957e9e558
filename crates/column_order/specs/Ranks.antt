-- The ranks of words: in the two modes, with preferred words, and functions that answer them.
use Rattle.std.specs.Prelude.{◌≡◌, ℕ, ◌+◌, ◌%◌, ◌≤◌, Bool, ◌&&◌, ◌==◌, nat_le, cond, List, length, IsTrue}
use Rattle.std.specs.List.{list_all, list_any}
use Rattle.std.specs.Ordering.{eq_by_cmp}
use Rattle.std.specs.Fn.{Shared}
use Rattle.zeta_model.specs.declared.Letter.{Letter}
use Rattle.zeta_model.specs.Words.{is_admissible, word_cmp}
use Rattle.zeta_model.specs.Indices.{index_of}
use Rattle.lyndon_words.specs.Lyndon.{IsLyndon}
use Rattle.column_order.specs.declared.ranks.Mode.{Mode}
use Rattle.column_order.specs.declared.ranks.Mode.TheVariants.{Lex, Odd}
use Rattle.column_order.specs.declared.ranks.Preference.{Preference}

-- odd and at least 3
abbrev pub is_odd_from_3 : ℕ → Bool
is_odd_from_3 k = (k % 2 == 1) && nat_le 3 k

-- lex: 0 for every word; odd: 0 where all numbers of its index are odd and at least 3, else 1
abbrev pub mode_rank : Mode → List Letter → ℕ
mode_rank Lex w = 0
mode_rank Odd w = cond (list_all is_odd_from_3 (index_of w)) 0 1

-- w is one of the words
abbrev pub is_among : List (List Letter) → List Letter → Bool
is_among words w = list_any (λ u. eq_by_cmp word_cmp u w) words

-- 0 for a preferred word; for any other, 1 plus its rank in the mode
abbrev pub rank_of : Preference → List Letter → ℕ
rank_of preference w = cond (is_among preference.words w) 0 (1 + mode_rank preference.mode w)

-- an admissible Lyndon word of weight 2 to 24
pub record IsRanked (w : List Letter) : Type 0 where
  pub lyndon : IsLyndon w
  pub admissible : IsTrue (is_admissible w)
  pub least : 2 ≤ length w
  pub most : length w ≤ 24

-- a function that may be asked for every such word, and answers its rank; `calls` is what is said of the calls of the function
pub record AnswersRank {F : Type 0} (calls : Shared F (List Letter × Unit {0}) ℕ) (function : F) (preference : Preference) : Type 0 where
  pub may : (w : List Letter) → IsRanked w → calls.pre function (w, tt)
  pub is : (w : List Letter) (r : ℕ) → IsRanked w → calls.post function (w, tt) r → r ≡ rank_of preference w
