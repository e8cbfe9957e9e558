use Rattle.std.proofs.Common.{None, ap, sym, ◌∙◌}
use Rattle.std.specs.Map.{keys_of}
use Rattle.word_sums.proofs.LeastWords.{least_from, least_found}
use Rattle.word_sums.proofs.word_sum.WordSum.least_failing.Goals as goal

pub returns : goal.returns
returns g c =
    let passes = g.T.WordTest.passes c.args.test.now in
    least_found passes (keys_of c.args.self.now) c.loop-word.least
    (ap (λ es. least_from passes c.loop-word.least (keys_of es)) (sym c.in-None.ensures.steps.0) ∙ c.loop-word.invariant
    ∙ ap (λ es. least_from passes None (keys_of es)) (c.into_iter-word-iterator.ensures.into_iter_gives ∙ c.iter-word-items.ensures.rest))
