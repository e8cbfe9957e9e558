use Rattle.std.proofs.Common.{◌≡◌, length, sym, ◌∙◌, arith}
use Rattle.std.specs.Ordering.{nat_cmp}
use Rattle.column_order.proofs.Comparing.{is_ne-true, is_ne-false, compared_differs, compared_same, compared_end, min_reached}
use Rattle.column_order.proofs.lead_order.factor_order.Goals as goal

pub returns-then-is_ne : goal.returns-then-is_ne
returns-then-is_ne c = compared_differs c.args.a.now c.args.b.now c.loop-i.i c.factor.result c.factor-in-loop-i.result c.cmp-order.result c.factor.ensures c.factor-in-loop-i.ensures c.cmp-order.ensures (is_ne-true c.cmp-order.result (sym c.is_ne.ensures ∙ c.if-is_ne.true)) c.loop-i.invariant

pub loop-i-preserved : goal.loop-i-preserved
loop-i-preserved c = compared_same c.args.a.now c.args.b.now c.loop-i.i c.factor.result c.factor-in-loop-i.result c.cmp-order.result c.factor.ensures c.factor-in-loop-i.ensures c.cmp-order.ensures (is_ne-false c.cmp-order.result (sym c.is_ne.ensures ∙ c.if-is_ne.false)) c.loop-i.invariant

pub returns : goal.returns
returns c =
    let end : c.loop-i.i ≡ c.min-i-end.result = omega (arith, c.loop-i-test.false, c.loop-i.auto.i-end) in
    let first : c.len.result ≡ length c.args.a.now = c.len.ensures.length in
    let second : c.len-2.result ≡ length c.args.b.now = c.len-2.ensures.length in
    c.cmp.ensures ∙ (λ j. nat_cmp (c.len-3.ensures.length j) (c.len-4.ensures.length j))
    ∙ compared_end c.args.a.now c.args.b.now c.loop-i.i (omega (arith, c.min-i-end.ensures)) (omega (arith, c.min-i-end.ensures))
    (min_reached (length c.args.a.now) (length c.args.b.now) c.loop-i.i (omega (arith, c.min-i-end.ensures))) c.loop-i.invariant
