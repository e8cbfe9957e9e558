use Rattle.std.proofs.Common.{◌≡◌, ◌+◌, ◌<◌, length, true, refl, sym, ◌∙◌, ap, subst, arith}
use Rattle.echelon.specs.Inner.{numbers_of}
use Rattle.echelon.proofs.SumLemmas.{numbers_of-get}
use Rattle.echelon.proofs.Leads.{true_or_false}
use Rattle.echelon.proofs.Naming.{Naming, named_more, named_none}
use Rattle.echelon.proofs.offering.named.Goals as goal
use Rattle.echelon.proofs.offering.named.Goals.{then-not-is_zero+in_ok-push, else-not-is_zero}

pub push-requires-clause-behind : goal.push-requires-clause-behind
push-requires-clause-behind g c =
    let inside : c.loop-i.i < length c.args.numbers.now = omega (arith, c.loop-i-test.true) in
    c.loop-i.invariant.below c.loop-i.i (omega arith) inside

pub loop-i-preserved : goal.loop-i-preserved
loop-i-preserved g c =
    let ring = c.args.ring.now in
    let value = g.R.Ring.value ring in
    let has = g.R.Ring.has ring in
    let a = c.index-factors-i.result in
    let inside : c.loop-i.i < length c.args.numbers.now = omega (arith, c.loop-i-test.true) in
    let within : c.loop-i.i < length c.args.factors.now = omega (arith, c.requires.count) in
    let a_is : value a ≡ numbers_of value c.args.factors.now c.loop-i.i =
    ap value c.index-factors-i.is ∙ numbers_of-get value c.args.factors.now c.loop-i.i a within in
    let a_in : has a ≡ true = subst (λ x. has x ≡ true) (sym c.index-factors-i.is) (c.requires.in_ring c.loop-i.i a within) in
    elim c.if-not-is_zero.branch [
      | then-not-is_zero+in_ok-push w ↦ named_more has value g.R.Ring.zero c.args.numbers.now
          (numbers_of value c.args.factors.now) c.loop-i.i _ c.loop-i.uses a c.requires.rising inside refl c.loop-i.invariant a_in a_is _
          (w.uses-is ∙ w.in_ok-push.ensures.ok) (λ e. true_or_false c.is_zero.result (c.is_zero.ensures.1 e) w.if-not-is_zero.true)
      | else-not-is_zero w ↦ subst (Naming has value g.R.Ring.zero c.args.numbers.now (numbers_of value c.args.factors.now) (c.loop-i.i + 1))
          (sym w.uses-is)
          (named_none has value g.R.Ring.zero c.args.numbers.now
          (numbers_of value c.args.factors.now) c.loop-i.i _ c.loop-i.uses a c.requires.rising inside refl c.loop-i.invariant a_in a_is
          (ap value (c.is_zero.ensures.0 w.if-not-is_zero.false) ∙ g.met.R.Ring.value_zero ring))
    ]
