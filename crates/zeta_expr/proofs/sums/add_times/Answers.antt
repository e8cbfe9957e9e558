use Rattle.std.proofs.Common.{◌+◌, ◌*◌, ◌%◌, ap, ◌∙◌, arith}
use Rattle.word_sums.specs.Terms.{coefficient_of}
use Rattle.word_sums.proofs.Adding.{Adding-next, Adding-end, Adding-has}
use Rattle.zeta_expr.proofs.sums.add_times.Goals as goal

pub mul-requires-clause-has_b : goal.mul-requires-clause-has_b
mul-requires-clause-has_b g c =
    Adding-has _ _ _ _ _ _ _ _ c.in-Some.word.now c.in-Some.residue.now c.loop-word.word-iterator c.next.new.self c.in-Some.ensures.steps
    c.loop-word.invariant

pub add_term-requires-clause-has : goal.add_term-requires-clause-has
add_term-requires-clause-has g c =
    let ring = c.args.ring.now in
    let has = Adding-has _ _ _ _ _ _ _ _ c.in-Some.word.now c.in-Some.residue.now c.loop-word.word-iterator c.next.new.self c.in-Some.ensures.steps
    c.loop-word.invariant in
    ap (g.R.Ring.has ring) c.mul.ensures ∙ g.met.R.Ring.has_mul ring c.args.c c.in-Some.residue.now c.requires.has_c has

pub loop-word-preserved : goal.loop-word-preserved
loop-word-preserved g c =
    let has = Adding-has _ _ _ _ _ _ _ _ c.in-Some.word.now c.in-Some.residue.now c.loop-word.word-iterator c.next.new.self c.in-Some.ensures.steps
    c.loop-word.invariant in
    Adding-next _ _ _ _ _ _ _ _ c.in-Some.word.now c.in-Some.residue.now c.mul.result c.loop-word.word-iterator c.next.new.self c.add_term.new.self
    c.in-Some.ensures.steps c.loop-word.invariant
    (ap (g.R.Ring.value c.args.ring.now) c.mul.ensures ∙ g.met.R.Ring.value_mul c.args.ring.now c.args.c c.in-Some.residue.now c.requires.has_c has)
    (record { terms = c.in_ok-add_term.ensures.terms; in_ring = c.in_ok-add_term.ensures.in_ring }) c.in_ok-add_term.ensures.ok

pub returns-clause-ok : goal.returns-clause-ok
returns-clause-ok g c = record {
  each = λ t.
      Adding-end _ _ _ _ _ c.into_iter-word-iterator.result c.args.sum.now c.loop-word.sum c.loop-word.word-iterator
      (omega (arith, g.met.R.Ring.modulus_from c.args.ring.now)) (g.met.R.Ring.value_below c.args.ring.now)
      c.in-None.ensures.steps.0 c.loop-word.invariant t
      ∙ ap (λ es. (coefficient_of (g.R.Ring.value c.args.ring.now) c.args.sum.now t + g.R.Ring.value c.args.ring.now c.args.c * coefficient_of
      (g.R.Ring.value c.args.ring.now) es t) % g.R.Ring.modulus c.args.ring.now)
      (c.into_iter-word-iterator.ensures.into_iter_gives ∙ c.iter-word-items.ensures.rest);
}
