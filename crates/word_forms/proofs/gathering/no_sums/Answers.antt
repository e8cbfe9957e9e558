use Rattle.word_forms.proofs.SumLemmas.{zeros_filled}
use Rattle.word_forms.proofs.gathering.no_sums.Goals as goal

pub returns-clause-zero : goal.returns-clause-zero
returns-clause-zero g c =
    zeros_filled (g.R.Ring.total c.args.ring.now) _ _ _ _ _ c.new-sums.ensures.items c.in_ok-resize.ensures.items c.start_sum.ensures.total
