use Rattle.std.proofs.Common.{subst, arith}
use Rattle.zeta_model.specs.Sums.{single}
use Rattle.word_sums.specs.Sums.{IsSumOf}
use Rattle.cert_checker.proofs.ShuffleSteps.{no_factor, one_factor_more, factor_fits, all_factors}
use Rattle.cert_checker.proofs.column_words.column_words.Goals as goal

pub loop-i-init : goal.loop-i-init
loop-i-init g c =
    let ring = c.args.ring.now in
    no_factor g.R.Ring.zero (g.R.Ring.has ring) (g.R.Ring.value ring) (g.R.Ring.modulus ring) c.args.p.now c.in_ok-sum.sum
    (subst (λ w. IsSumOf g.R.Ring.zero (g.R.Ring.has ring) (g.R.Ring.value ring) (g.R.Ring.modulus ring)
    (single w) c.in_ok-sum.sum) c.empty.ensures c.in_ok-sum.ensures)

pub times_word-requires-clause-in_ring : goal.times_word-requires-clause-in_ring
times_word-requires-clause-in_ring g c = c.loop-i.invariant.in_ring

pub times_word-requires-clause-fits : goal.times_word-requires-clause-fits
times_word-requires-clause-fits g c =
    let ring = c.args.ring.now in
    let r = g.met.R.Ring in
    factor_fits g.R.Ring.zero (g.R.Ring.has ring) (g.R.Ring.value ring) (g.R.Ring.modulus ring) c.args.p.now c.loop-i.i c.factor.result c.loop-i.sum
    (r.has_zero ring) (r.value_zero ring) (r.value_injective ring)
    c.len-i-end.ensures.monomial c.factor.ensures c.loop-i.invariant

pub loop-i-preserved : goal.loop-i-preserved
loop-i-preserved g c =
    let ring = c.args.ring.now in
    one_factor_more g.R.Ring.zero (g.R.Ring.has ring) (g.R.Ring.value ring)
    (g.R.Ring.modulus ring) c.args.p.now c.loop-i.i c.factor.result c.loop-i.sum c.in_ok-sum-2.sum
    (omega (arith, g.met.R.Ring.modulus_from ring))
    (omega (arith, c.loop-i-test.true, c.len-i-end.ensures.length)) c.factor.ensures c.loop-i.invariant c.in_ok-sum-2.ensures

pub returns : goal.returns
returns g c =
    let ring = c.args.ring.now in
    all_factors g.R.Ring.zero (g.R.Ring.has ring) (g.R.Ring.value ring) (g.R.Ring.modulus ring) c.args.p.now c.loop-i.i c.loop-i.sum
    (omega (arith, c.loop-i-test.false, c.len-i-end.ensures.length)) c.loop-i.invariant
