use Rattle.std.proofs.Common.{sym, ap, ◌∙◌}
use Rattle.word_sums.specs.Terms.{coefficient_of}
use Rattle.word_sums.proofs.TermLemmas.{coefficient_of-lookup, value_or_zero}
use Rattle.word_sums.proofs.word_sum.WordSum.coefficient.Goals as goal

pub returns-in-Some-clause-value : goal.returns-in-Some-clause-value
returns-in-Some-clause-value g c =
    ap (value_or_zero (g.R.Ring.value c.args.ring.now)) c.in-Some.ensures.value
    ∙ sym (coefficient_of-lookup (g.R.Ring.value c.args.ring.now) c.self.inside.terms.entries c.args.word c.self.invariant.once)
    ∙ ap (λ es. coefficient_of (g.R.Ring.value c.args.ring.now) es c.args.word) c.self.view_is

pub returns-in-None-clause-value : goal.returns-in-None-clause-value
returns-in-None-clause-value g c =
    ap (g.R.Ring.value c.args.ring.now) c.zero.ensures ∙ g.met.R.Ring.value_zero c.args.ring.now
    ∙ ap (value_or_zero (g.R.Ring.value c.args.ring.now)) c.in-None.ensures.value
    ∙ sym (coefficient_of-lookup (g.R.Ring.value c.args.ring.now) c.self.inside.terms.entries c.args.word c.self.invariant.once)
    ∙ ap (λ es. coefficient_of (g.R.Ring.value c.args.ring.now) es c.args.word) c.self.view_is
