use Rattle.std.proofs.Common.{subst}
use Rattle.zeta_model.specs.WordLists.{admissible_within}
use Rattle.column_order.specs.Columns.{IsColumnWord}
use Rattle.column_order.specs.Ranks.{rank_of}
use Rattle.column_order.specs.Inner.{AreOf}
use Rattle.column_order.proofs.ColumnLists.{AreColumns-sorted}
use Rattle.column_order.proofs.ColumnWords.{word_found}
use Rattle.column_order.proofs.Places.{words_held}
use Rattle.column_order.proofs.column.sorted_columns.Goals as goal

pub columns_of-requires-clause-admissible : goal.columns_of-requires-clause-admissible
columns_of-requires-clause-admissible g c = λ k u e.
    let found : IsColumnWord c.args.w c.args.d u =
    word_found c.args.w c.args.d u (words_held c.args.words.now (admissible_within c.args.w c.args.d) k u c.requires.words e) in
    found.admissible

pub returns : goal.returns
returns g c =
    AreColumns-sorted (rank_of c.args.rule.now.preference) c.args.w c.args.d c.in_ok-columns.columns.items c.sort.new.self.items c.requires.least
    (subst (λ t. AreOf (rank_of c.args.rule.now.preference) t c.in_ok-columns.columns.items) c.requires.words c.in_ok-columns.ensures)
    c.in_ok-sort.ensures.permutation c.in_ok-sort.ensures.sorted
