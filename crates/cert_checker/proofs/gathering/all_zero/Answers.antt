use Rattle.std.proofs.Common.{◌≡◌, sym, ap, subst, ◌∙◌, arith, mod-eq_of_lt}
use Rattle.std.specs.List.{All}
use Rattle.std.proofs.lemmas.List.Elements.{All-head, All-tail}
use Rattle.zeta_model.specs.Modular.{Same}
use Rattle.cert_checker.proofs.Zeros.{all_zero-first, all_zero-behind, all_zero-more, not_both}
use Rattle.cert_checker.proofs.gathering.all_zero.Goals as goal

pub close_sum-requires : goal.close_sum-requires
close_sum-requires g c =
    let is_sum = g.R.Ring.is_sum c.args.ring.now in
    All-head is_sum c.in-Some.sum.now c.in-Some.behind.now (subst (All is_sum) c.in-Some.ensures.cases.0 c.loop-sum.invariant.all)

pub returns-then-not-is_zero : goal.returns-then-not-is_zero
returns-then-not-is_zero g c =
    let ring = c.args.ring.now in
    let r = g.met.R.Ring in
    let m = g.R.Ring.modulus ring in (
      λ t. absurd (not_both t),
      λ all.
          let first : Same m (g.R.Ring.total ring c.in-Some.sum.now) 0 =
          all_zero-first m (g.R.Ring.total ring) c.loop-sum.rest.now c.in-Some.sum.now c.in-Some.behind.now c.in-Some.ensures.cases.0
          (c.loop-sum.invariant.same.1 all) in
          let none : g.R.Ring.value ring c.close_sum.result ≡ 0 =
          c.close_sum.ensures.value ∙ first ∙ mod-eq_of_lt (omega (arith, r.modulus_from ring)) in
          let zero : c.close_sum.result ≡ g.R.Ring.zero =
          r.value_injective ring c.close_sum.result g.R.Ring.zero c.close_sum.ensures.has (r.has_zero ring) (none ∙ sym (r.value_zero ring)) in
          absurd (not_both (sym c.if-not-is_zero.true ∙ c.is_zero.ensures.1 zero)),
    )

pub loop-sum-preserved : goal.loop-sum-preserved
loop-sum-preserved g c =
    let ring = c.args.ring.now in
    let m = g.R.Ring.modulus ring in
    let total = g.R.Ring.total ring in
    let is_sum = g.R.Ring.is_sum ring in
    let begins = c.in-Some.ensures.cases.0 in
    let none : g.R.Ring.value ring c.close_sum.result ≡ 0 =
    ap (g.R.Ring.value ring) (c.is_zero.ensures.0 c.if-not-is_zero.false) ∙ g.met.R.Ring.value_zero ring in
    let here : Same m (total c.in-Some.sum.now) 0 =
    sym c.close_sum.ensures.value ∙ none ∙ sym (mod-eq_of_lt (omega (arith, g.met.R.Ring.modulus_from ring))) in
    record {
      all = All-tail is_sum c.in-Some.sum.now c.in-Some.behind.now (subst (All is_sum) begins c.loop-sum.invariant.all);
      same = (
        λ z. c.loop-sum.invariant.same.0 (all_zero-more m total c.loop-sum.rest.now c.in-Some.sum.now c.in-Some.behind.now begins here z),
        λ z. all_zero-behind m total c.loop-sum.rest.now c.in-Some.sum.now c.in-Some.behind.now begins (c.loop-sum.invariant.same.1 z),
      );
    }
