use Rattle.std.proofs.Common.{◌+◌, ◌++◌, drop, ap, ◌∙◌, arith, string_bytes, sym}
use Rattle.zeta_model.specs.Words.{ends_with_y}
use Rattle.poly_print.proofs.PowerSteps.{rest_powers, power-first, power-more, power-next, power-ends}
use Rattle.poly_print.proofs.monomial.push_monomial.Goals as goal
use Rattle.poly_print.proofs.monomial.push_monomial.Goals.{then-eq, else-eq+in_ok-push_power}

pub loop-i-init : goal.loop-i-init
loop-i-init c =
    let p = c.args.p.now in
    let u = c.factor-word.result in
    record {
      text = ap (λ r. string_bytes c.args.text.now ++ r) (power-first p u c.factor-word.ensures);
      small = omega arith;
      ends = power-ends p 0 u c.len-count.ensures.monomial c.factor-word.ensures;
    }

pub loop-i-preserved : goal.loop-i-preserved
loop-i-preserved c =
    let l = c.loop-i in
    let m = c.if-eq in
    let p = c.args.p.now in
    elim c.if-eq.branch [
      | then-eq w ↦ record {
        text = (λ j. string_bytes (w.text-is j) ++ rest_powers (w.first-is j) (w.word-is j) m.power (drop (l.i + 1) p))
            ∙ power-more p l.i c.factor-next.result c.factor-next.ensures l.word l.power (string_bytes l.text) l.first m.power _ (sym c.eq.ensures
            ∙ w.if-eq.true) w.power-is l.invariant.text;
        small = omega arith;
        ends = ap ends_with_y w.word-is ∙ l.invariant.ends;
      }
      | else-eq+in_ok-push_power w ↦ record {
        text = (λ j. string_bytes m.text ++ rest_powers (w.first-is j) (w.word-is j) (w.power-is j) (drop (l.i + 1) p))
            ∙ power-next p l.i c.factor-next.result c.factor-next.ensures l.word l.power (string_bytes l.text) (string_bytes m.text) l.first _
            (sym c.eq.ensures ∙ w.if-eq.false) (ap string_bytes w.text-is ∙ w.in_ok-push_power.ensures) l.invariant.text;
        small = omega arith;
        ends = ap ends_with_y w.word-is ∙ power-ends p l.i c.factor-next.result c.len-count.ensures.monomial c.factor-next.ensures;
      }
    ]
