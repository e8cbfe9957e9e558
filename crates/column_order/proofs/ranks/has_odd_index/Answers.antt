use Rattle.std.proofs.Common.{◌+◌, Some, ap, sym, ◌∙◌, arith}
use Rattle.std.specs.List.{list_all}
use Rattle.zeta_model.specs.Indices.{index_of}
use Rattle.column_order.specs.Ranks.{is_odd_from_3}
use Rattle.column_order.proofs.Ranking.{index_from-x, index_from-y_odd, index_from-y_other, read_on}
use Rattle.column_order.proofs.ranks.has_odd_index.Goals.{in-X, in-Y+else-not-is_odd_from_3}
use Rattle.column_order.proofs.ranks.has_odd_index.Goals as goal

pub returns-then-not-is_odd_from_3 : goal.returns-then-not-is_odd_from_3
returns-then-not-is_odd_from_3 c =
    index_from-y_other c.args.w c.loop-i.run c.loop-i.i (list_all is_odd_from_3 (index_of c.args.w)) (c.letter.ensures
    ∙ ap Some c.in-Y.is) c.loop-i.invariant.rest (sym c.is_odd_from_3.ensures ∙ c.if-not-is_odd_from_3.true)

pub loop-i-preserved : goal.loop-i-preserved
loop-i-preserved c = elim c.match-letter.branch [
  | in-X w ↦ record {
    short = omega (arith, w.run-is, c.loop-i.invariant.short);
    rest = read_on c.args.w c.match-letter.run (c.loop-i.run + 1) (c.loop-i.i + 1) (list_all is_odd_from_3 (index_of c.args.w)) w.run-is
        (index_from-x c.args.w c.loop-i.run c.loop-i.i (list_all is_odd_from_3 (index_of c.args.w)) (c.letter.ensures
        ∙ ap Some w.in-X.is) c.loop-i.invariant.rest);
  }
  | in-Y+else-not-is_odd_from_3 w ↦ record {
    short = omega (arith, w.run-is);
    rest = read_on c.args.w c.match-letter.run 1 (c.loop-i.i + 1) (list_all is_odd_from_3 (index_of c.args.w)) w.run-is
        (index_from-y_odd c.args.w c.loop-i.run c.loop-i.i (list_all is_odd_from_3 (index_of c.args.w)) (c.letter.ensures
        ∙ ap Some w.in-Y.is) c.loop-i.invariant.rest (sym w.is_odd_from_3.ensures ∙ w.if-not-is_odd_from_3.false));
  }
]
