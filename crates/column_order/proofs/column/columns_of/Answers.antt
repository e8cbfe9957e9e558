use Rattle.std.proofs.Common.{Some, sym, ap, ◌∙◌}
use Rattle.std.proofs.lemmas.Option.{slice_get-get_or}
use Rattle.column_order.specs.Ranks.{rank_of}
use Rattle.column_order.proofs.ColumnLists.{AreOf-next}
use Rattle.column_order.proofs.column.columns_of.Goals as goal

pub factors-monomial-requires : goal.factors-monomial-requires
factors-monomial-requires g c =
    c.requires.admissible c.loop-word.word-index c.word-item.result
    (slice_get-get_or c.args.words.now c.loop-word.word-index c.word-item.result c.loop-word-test.true ∙ ap Some (sym c.word-item.is))

pub loop-word-preserved : goal.loop-word-preserved
loop-word-preserved g c =
    AreOf-next (rank_of c.args.rule.now.preference) c.args.words.now c.loop-word.word-index c.word-item.result c.loop-word.columns.items c.push.new.self.items
    (record { monomial = c.factors-monomial.result; standing = c.standing-standing.result }) c.loop-word-test.true c.word-item.is c.loop-word.invariant
    c.in_ok-push.ensures.items c.factors-monomial.ensures.monomial c.factors-monomial.ensures.factors.whole c.standing-standing.ensures.standing
