use Rattle.word_sums.proofs.SumLemmas.{words_of_sum}
use Rattle.relation_list.specs.Values.{value_of, IsWordOf}
use Rattle.relation_list.proofs.HeldWords.{after_ok}
use Rattle.relation_list.proofs.ValueWords.{value_of-words}
use Rattle.kept_products.proofs.values.value_kept.Goals as goal

pub returns-clause-words : goal.returns-clause-words
returns-clause-words g c =
    let ring = c.kept.inside.ring in
    let r = g.met.R.Ring in
    let m = g.R.Ring.modulus ring in
    let n = c.args.name.now in
    after_ok _ _
    (λ sum made. words_of_sum g.R.Ring.zero (g.R.Ring.has ring) (g.R.Ring.value ring) m (IsWordOf n) (value_of m n) sum (r.has_zero ring) (r.value_zero ring)
    (r.value_injective ring) made
    (λ t some. value_of-words m n t c.requires some))
    c.summed.result c.summed.ensures.value
