use Rattle.std.proofs.Common.{◌≡◌, ◌<◌, [], ◌∷◌, ◌++◌, length, true, sym, ◌∙◌, ap, subst, arith, get_or}
use Rattle.std.specs.List.{All}
use Rattle.std.proofs.lemmas.List.{get_or_default}
use Rattle.linear_model.proofs.Sweeps.{swept_none}
use Rattle.echelon.specs.Lists.{lead_at, row_at}
use Rattle.echelon.specs.Inner.{numbers_of}
use Rattle.echelon.proofs.SumLemmas.{zeros_push, All-push, numbers_of-push_before}
use Rattle.echelon.proofs.Swept.{swept_more}
use Rattle.echelon.proofs.sweeping.sweep.Goals as goal

pub loop-preserved : goal.loop-preserved
loop-preserved g c =
    let ring = c.args.ring.now in
    let value = g.R.Ring.value ring in
    let pushed : c.push.new.self.items ≡ c.loop.factors.items ++ c.zero.result ∷ [] = c.in_ok-push.ensures.items in
    let none : value c.zero.result ≡ 0 = ap value c.zero.ensures ∙ g.met.R.Ring.value_zero ring in
    let is_in : g.R.Ring.has ring c.zero.result ≡ true = ap (g.R.Ring.has ring) c.zero.ensures ∙ g.met.R.Ring.has_zero ring in
    record {
      count = omega (arith, c.in_ok-push.ensures.len);
      in_ring = subst (All (λ a. g.R.Ring.has ring a ≡ true)) (sym pushed)
          (All-push (λ a. g.R.Ring.has ring a ≡ true) c.loop.factors.items c.zero.result c.loop.invariant.in_ring is_in);
      zero = λ i. ap (λ xs. numbers_of value xs i) pushed ∙ zeros_push value c.loop.factors.items c.zero.result c.loop.invariant.zero none i;
    }

pub loop-i-init : goal.loop-i-init
loop-i-init g c =
    let ring = c.args.ring.now in
    let value = g.R.Ring.value ring in
    record {
      count = omega (arith, c.loop.invariant.count);
      in_ring = c.loop.invariant.in_ring;
      zero = λ i l. c.loop.invariant.zero i;
      all_sums = c.requires.all;
      swept = swept_none (g.R.Ring.modulus ring) (lead_at c.args.rows.now) (row_at value c.args.rows.now) c.args.first
          (numbers_of value c.loop.factors.items) (numbers_of (g.R.Ring.total ring) c.args.sums.now) (λ i l. c.loop.invariant.zero i);
    }

pub cancel-factor-requires-clause-fits : goal.cancel-factor-requires-clause-fits
cancel-factor-requires-clause-fits g c =
    let ring = c.args.ring.now in
    let inside : c.loop-i.i < length c.args.rows.now = omega (arith, c.loop-i-test.true) in
    let is : c.index-rows-i.result ≡ get_or c.args.rows.now c.loop-i.i [] =
    c.index-rows-i.is ∙ get_or_default c.args.rows.now c.loop-i.i c.index-rows-i.result [] inside in
    rw (is, c.loop-i.auto.sums) (c.requires.fit c.loop-i.i inside)

pub loop-i-preserved : goal.loop-i-preserved
loop-i-preserved g c =
    let ring = c.args.ring.now in
    let value = g.R.Ring.value ring in
    let inside : c.loop-i.i < length c.args.rows.now = omega (arith, c.loop-i-test.true) in
    let is : c.index-rows-i.result ≡ get_or c.args.rows.now c.loop-i.i [] =
    c.index-rows-i.is ∙ get_or_default c.args.rows.now c.loop-i.i c.index-rows-i.result [] inside in
    let pushed : c.push-in-loop-i.new.self.items ≡ c.loop-i.factors.items ++ c.cancel-factor.result ∷ [] = c.in_ok-push-2.ensures.items in
    record {
      count = omega (arith, c.in_ok-push-2.ensures.len, c.loop-i.invariant.count);
      in_ring = subst (All (λ a. g.R.Ring.has ring a ≡ true)) (sym pushed)
          (All-push (λ a. g.R.Ring.has ring a ≡ true) c.loop-i.factors.items c.cancel-factor.result c.loop-i.invariant.in_ring c.cancel-factor.ensures.has);
      zero = λ i l. ap (λ xs. numbers_of value xs i) pushed
          ∙ numbers_of-push_before value c.loop-i.factors.items c.cancel-factor.result i (omega (arith, c.loop-i.invariant.count, c.loop-i.auto.i))
          ∙ c.loop-i.invariant.zero i l;
      all_sums = c.cancel-factor.ensures.all;
      swept = swept_more (g.R.Ring.modulus ring) value c.args.rows.now c.args.first c.loop-i.i c.loop-i.factors.items c.push-in-loop-i.new.self.items
          c.cancel-factor.result c.index-rows-i.result
          (numbers_of (g.R.Ring.total ring) c.args.sums.now) (numbers_of (g.R.Ring.total ring) c.loop-i.sums)
          (numbers_of (g.R.Ring.total ring) c.cancel-factor.new.sums)
          c.requires.forward inside is c.loop-i.invariant.count pushed c.loop-i.invariant.swept c.cancel-factor.ensures.undone c.cancel-factor.ensures.sum;
    }
