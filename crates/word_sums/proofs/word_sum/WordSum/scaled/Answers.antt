use Rattle.word_sums.proofs.SumLemmas.{IsSum-none}
use Rattle.word_sums.proofs.word_sum.WordSum.scaled.Goals as goal

pub add_each-requires-clause-sum : goal.add_each-requires-clause-sum
add_each-requires-clause-sum g c = IsSum-none g.R.Ring.zero (g.R.Ring.has c.args.ring.now) c.new-sum.result c.new-sum.ensures
