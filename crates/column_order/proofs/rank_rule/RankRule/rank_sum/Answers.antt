use Rattle.std.proofs.Common.{◌≡◌, arith}
use Rattle.column_order.specs.Ranks.{rank_of, IsRanked}
use Rattle.column_order.proofs.Ranking.{rank_of-le, IsRanked-factor, sum_by-one_more}
use Rattle.column_order.proofs.rank_rule.RankRule.rank_sum.Goals as goal

pub function-sum-requires : goal.function-sum-requires
function-sum-requires g c = c.requires.rule.may c.factor.result
    (IsRanked-factor c.args.p.now c.loop-i.i c.factor.result c.len-i-end.ensures.monomial c.factor.ensures)

pub overflow_add-sum : goal.overflow_add-sum
overflow_add-sum g c =
    let ranked : IsRanked c.factor.result = IsRanked-factor c.args.p.now c.loop-i.i c.factor.result c.len-i-end.ensures.monomial c.factor.ensures in
    omega (arith, c.requires.rule.is c.factor.result c.function-sum.result ranked c.function-sum.ensures, rank_of-le c.args.self.now.preference c.factor.result)

pub loop-i-preserved : goal.loop-i-preserved
loop-i-preserved g c =
    let ranked : IsRanked c.factor.result = IsRanked-factor c.args.p.now c.loop-i.i c.factor.result c.len-i-end.ensures.monomial c.factor.ensures in
    let is : c.function-sum.result ≡ rank_of c.args.self.now.preference c.factor.result =
    c.requires.rule.is c.factor.result c.function-sum.result ranked c.function-sum.ensures in
    record {
      so_far = sum_by-one_more (rank_of c.args.self.now.preference) c.args.p.now c.loop-i.i c.factor.result c.loop-i.sum c.function-sum.result c.factor.ensures c.loop-i.invariant.so_far is;
      few = omega (arith, is, rank_of-le c.args.self.now.preference c.factor.result);
    }
