-- Rules: a function beside the preference whose ranks it answers.
use Rattle.std.specs.Prelude.{ℕ, List}
use Rattle.std.specs.Fn.{Shared}
use Rattle.zeta_model.specs.declared.Letter.{Letter}
use Rattle.column_order.specs.declared.rank_rule.RankRule.{RankRule}
use Rattle.column_order.specs.Ranks.{AnswersRank}

-- the rule's function answers the ranks of its preference
abbrev pub IsRule : {F : Type 0} → Shared F (List Letter × Unit {0}) ℕ → RankRule F → Type 0
IsRule calls rule = AnswersRank calls rule.function rule.preference
