use Rattle.std.proofs.Common.{ap, ◌∙◌, arith}
use Rattle.zeta_expr.specs.Forms.{TermForm}
use Rattle.zeta_expr.proofs.TotalLemmas.{adding_begins, adding_goes_on, adding_ends}
use Rattle.zeta_expr.proofs.sums.sum_of_terms.Goals as goal

pub loop-term-init : goal.loop-term-init
loop-term-init g c =
    let ring = c.args.ring.now in
    adding_begins g.R.Ring.zero (g.R.Ring.has ring) (g.R.Ring.value ring) (g.R.Ring.modulus ring) c.new-sum.result c.args.terms.now c.new-sum.ensures

pub loop-term-preserved : goal.loop-term-preserved
loop-term-preserved g c =
    let ring = c.args.ring.now in
    let f = c.as_slice.ensures.value ∙ ap (λ (t : TermForm). t.factors) c.term.view_is in
    adding_goes_on g.R.Ring.zero (g.R.Ring.has ring) (g.R.Ring.value ring)
    (g.R.Ring.modulus ring) c.loop-term.sum c.in_ok-product.product c.add_times.new.sum
    c.number_of.result c.args.terms.now c.args.terms.now
    c.loop-term.term-index c.term-item.result c.as_slice.result.now c.loop-term-test.true c.term-item.is f c.loop-term.invariant c.in_ok-product.ensures
    c.number_of.ensures.value c.in_ok-add_times.ensures.sum c.in_ok-add_times.ensures.ok

pub returns : goal.returns
returns g c =
    let r = g.met.R.Ring in
    let ring = c.args.ring.now in
    adding_ends g.R.Ring.zero (g.R.Ring.has ring) (g.R.Ring.value ring) (g.R.Ring.modulus ring) c.loop-term.sum c.args.terms.now c.args.terms.now
    c.loop-term.term-index c.loop-term-test.false (omega (arith, r.modulus_from ring)) (r.value_below ring) c.loop-term.invariant
