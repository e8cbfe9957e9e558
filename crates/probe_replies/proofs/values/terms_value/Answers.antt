use Rattle.std.proofs.Common.{◌≡◌, ◌+◌, ◌%◌, List, ◌∷◌, drop, sym, ap, ◌∙◌, arith, add-one, drop_of_length-le}
use Rattle.std.proofs.Math.Seq.{drop-cons}
use Rattle.std.proofs.Math.Nat.{mod-eq_of_lt}
use Rattle.zeta_expr.specs.Forms.{TermForm}
use Rattle.probe_replies.specs.Values.{term_value, terms_value}
use Rattle.probe_replies.proofs.ValueLemmas.{sum_more}
use Rattle.probe_replies.proofs.values.terms_value.Goals as goal

pub loop-term-preserved : goal.loop-term-preserved
loop-term-preserved g c =
    let r = g.met.R.Ring in
    let ring = c.args.ring.now in
    let m = g.R.Ring.modulus ring in
    let n = c.args.sums.now.1 in
    let v = g.R.Ring.value ring in
    let ts = c.args.terms.now in
    let i = c.loop-term.term-index in
    let t = c.term-item.result in
    let w = c.loop-term.invariant in
    let value = c.in_ok-value.value in
    let rest = terms_value m n (drop (i + 1) ts) in
    let front : drop i ts ≡ t ∷ drop (i + 1) ts = drop-cons ts i t c.loop-term-test.true ∙ (λ k. sym c.term-item.is k ∷ drop (sym (add-one i) k) ts) in
    record {
      has = ap (g.R.Ring.has ring) c.add-sum.ensures ∙ r.has_add ring c.loop-term.sum value w.has c.in_ok-value.ensures.has;
      same = sum_more m (v c.loop-term.sum) (v value) (term_value m n t) rest (terms_value m n ts) (v c.add-sum.result)
          (ap v c.add-sum.ensures ∙ r.value_add ring c.loop-term.sum value w.has c.in_ok-value.ensures.has)
          c.in_ok-value.ensures.value
          (ap (λ (l : List TermForm). (v c.loop-term.sum + terms_value m n l) % m) (sym front) ∙ w.same);
    }

pub returns-clause-value : goal.returns-clause-value
returns-clause-value g c =
    let ring = c.args.ring.now in
    let m = g.R.Ring.modulus ring in
    let n = c.args.sums.now.1 in
    let v = g.R.Ring.value ring in
    let p = c.loop-term.sum in
    let w = c.loop-term.invariant in
    let e : v p + terms_value m n (drop c.loop-term.term-index c.args.terms.now) ≡ v p =
    ap (λ (l : List TermForm). v p + terms_value m n l) (drop_of_length-le c.args.terms.now c.loop-term-test.false) ∙ omega arith in
    sym (mod-eq_of_lt (g.met.R.Ring.value_below ring p w.has)) ∙ ap (λ x. x % m) (sym e) ∙ w.same
