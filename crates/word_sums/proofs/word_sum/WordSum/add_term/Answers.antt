use Rattle.std.proofs.Common.{◌≡◌, ◌+◌, ◌%◌, true, false, Some, None, sym, ap, subst, ◌∙◌, arith}
use Rattle.word_sums.specs.Terms.{coefficient_of, AllIn}
use Rattle.word_sums.proofs.TermLemmas.{All-changed, coefficient_of-added, coefficient_of-found, coefficient_of-same, new_value, changed_again, has_found}
use Rattle.word_sums.proofs.word_sum.WordSum.add_term.Goals as goal

pub returns-then-is_zero-clause-ok : goal.returns-then-is_zero-clause-ok
returns-then-is_zero-clause-ok g c =
    let ring = c.args.ring.now in
    coefficient_of-same (g.R.Ring.value ring) (g.R.Ring.has ring) (g.R.Ring.modulus ring)
    (g.R.Ring.value ring c.args.residue) c.self.inside.terms.entries c.args.self.now c.args.word c.self.view_is
    (omega (arith, g.met.R.Ring.modulus_from ring)) (g.met.R.Ring.value_below ring) c.self.invariant.once c.requires.self_in_ring
    (ap (g.R.Ring.value ring) (c.is_zero.ensures.0 c.if-is_zero.true) ∙ g.met.R.Ring.value_zero ring)

pub invariant_of-self-in-Ok-None : goal.invariant_of-self-in-Ok-None
invariant_of-self-in-Ok-None g c = record {
  once = c.in-Ok-None.ensures.unique;
  nonzero = All-changed (λ a. 0) c.self.inside.terms.entries c.insert.new.self.entries c.args.word
      (Some c.args.residue) c.self.invariant.once c.in-Ok-None.ensures.unique c.in-Ok-None.ensures.updates.0
      (λ a. a ≡ g.R.Ring.zero → ⊥) c.self.invariant.nonzero (λ is. let h : false ≡ true = c.if-is_zero.ensures.1 is in cc);
}

pub returns-in-Ok-None-clause-in_ring : goal.returns-in-Ok-None-clause-in_ring
returns-in-Ok-None-clause-in_ring g c =
    All-changed (λ a. 0) c.self.inside.terms.entries c.insert.new.self.entries c.args.word
    (Some c.args.residue) c.self.invariant.once c.in-Ok-None.ensures.unique c.in-Ok-None.ensures.updates.0
    (λ a. g.R.Ring.has c.args.ring.now a ≡ true) (subst (AllIn (g.R.Ring.has c.args.ring.now)) (sym c.self.view_is) c.requires.self_in_ring) c.requires.has

pub returns-in-Ok-None-clause-ok : goal.returns-in-Ok-None-clause-ok
returns-in-Ok-None-clause-ok g c =
    let ring = c.args.ring.now in
    coefficient_of-added (g.R.Ring.value ring) c.self.inside.terms.entries c.insert.new.self.entries c.args.word
    (Some c.args.residue) c.self.invariant.once c.in-Ok-None.ensures.unique c.in-Ok-None.ensures.updates.0
    (g.R.Ring.has ring) (g.R.Ring.modulus ring) (g.R.Ring.value ring c.args.residue) c.args.self.now c.self.view_is
    (omega (arith, g.met.R.Ring.modulus_from ring)) (g.met.R.Ring.value_below ring) c.requires.self_in_ring
    (new_value (g.R.Ring.value ring) c.self.inside.terms.entries c.args.self.now c.args.word c.args.residue
    (g.R.Ring.modulus ring) c.self.view_is c.self.invariant.once (sym c.in-Ok-None.field-0-is ∙ c.in-Ok-None.ensures.old)
    (g.met.R.Ring.value_below ring c.args.residue c.requires.has))

pub add-sum-requires-clause-has_a : goal.add-sum-requires-clause-has_a
add-sum-requires-clause-has_a g c =
    has_found (g.R.Ring.has c.args.ring.now) c.self.inside.terms.entries c.args.self.now c.args.word c.in-Ok-Some.old c.self.view_is
    (sym c.in-Ok-Some.field-0-is ∙ c.in-Ok-Some.ensures.old) c.requires.self_in_ring

pub invariant_of-self-then-is_zero-2 : goal.invariant_of-self-then-is_zero-2
invariant_of-self-then-is_zero-2 g c = record {
  once = c.swap_remove.ensures.unique;
  nonzero = All-changed (λ a. 0) c.self.inside.terms.entries c.swap_remove.new.self.entries c.args.word None c.self.invariant.once c.swap_remove.ensures.unique
      (changed_again (λ a. 0) c.self.inside.terms.entries c.insert.new.self.entries c.swap_remove.new.self.entries c.args.word None
      (Some c.args.residue) c.in-Ok-Some.ensures.updates.0 c.swap_remove.ensures.updates.0)
      (λ a. a ≡ g.R.Ring.zero → ⊥) c.self.invariant.nonzero tt;
}

pub returns-then-is_zero-2-clause-in_ring : goal.returns-then-is_zero-2-clause-in_ring
returns-then-is_zero-2-clause-in_ring g c =
    All-changed (λ a. 0) c.self.inside.terms.entries c.swap_remove.new.self.entries c.args.word None c.self.invariant.once c.swap_remove.ensures.unique
    (changed_again (λ a. 0) c.self.inside.terms.entries c.insert.new.self.entries c.swap_remove.new.self.entries c.args.word None
    (Some c.args.residue) c.in-Ok-Some.ensures.updates.0 c.swap_remove.ensures.updates.0)
    (λ a. g.R.Ring.has c.args.ring.now a ≡ true) (subst (AllIn (g.R.Ring.has c.args.ring.now)) (sym c.self.view_is) c.requires.self_in_ring) tt

pub returns-then-is_zero-2-clause-ok : goal.returns-then-is_zero-2-clause-ok
returns-then-is_zero-2-clause-ok g c =
    let ring = c.args.ring.now in
    let value = g.R.Ring.value ring in
    let found : coefficient_of value c.args.self.now c.args.word ≡ value c.in-Ok-Some.old =
    coefficient_of-found value c.self.inside.terms.entries c.args.self.now c.args.word (Some c.in-Ok-Some.old) c.self.view_is c.self.invariant.once
    (sym c.in-Ok-Some.field-0-is ∙ c.in-Ok-Some.ensures.old) in
    let has_old : g.R.Ring.has ring c.in-Ok-Some.old ≡ true =
    has_found (g.R.Ring.has c.args.ring.now) c.self.inside.terms.entries c.args.self.now c.args.word c.in-Ok-Some.old c.self.view_is
    (sym c.in-Ok-Some.field-0-is ∙ c.in-Ok-Some.ensures.old) c.requires.self_in_ring in
    let sum : value c.add-sum.result ≡ (coefficient_of value c.args.self.now c.args.word + value c.args.residue) % g.R.Ring.modulus ring =
    ap value c.add-sum.ensures ∙ g.met.R.Ring.value_add ring c.in-Ok-Some.old c.args.residue has_old c.requires.has
    ∙ ap (λ n. (n + value c.args.residue) % g.R.Ring.modulus ring) (sym found) in
    coefficient_of-added value c.self.inside.terms.entries c.swap_remove.new.self.entries c.args.word None c.self.invariant.once c.swap_remove.ensures.unique
    (changed_again value c.self.inside.terms.entries c.insert.new.self.entries c.swap_remove.new.self.entries c.args.word None
    (Some c.args.residue) c.in-Ok-Some.ensures.updates.0 c.swap_remove.ensures.updates.0)
    (g.R.Ring.has ring) (g.R.Ring.modulus ring) (value c.args.residue) c.args.self.now c.self.view_is
    (omega (arith, g.met.R.Ring.modulus_from ring)) (g.met.R.Ring.value_below ring) c.requires.self_in_ring
    (sym (g.met.R.Ring.value_zero ring) ∙ ap value (sym (c.is_zero-2.ensures.0 c.if-is_zero-2.true)) ∙ sum)

pub invariant_of-self-2 : goal.invariant_of-self-2
invariant_of-self-2 g c = record {
  once = c.in-Ok.ensures.unique;
  nonzero = All-changed (λ a. 0) c.self.inside.terms.entries c.insert-2.new.self.entries c.args.word
      (Some c.add-sum.result) c.self.invariant.once c.in-Ok.ensures.unique
      (changed_again (λ a. 0) c.self.inside.terms.entries c.insert.new.self.entries c.insert-2.new.self.entries c.args.word (Some c.add-sum.result)
      (Some c.args.residue) c.in-Ok-Some.ensures.updates.0 c.in-Ok.ensures.updates.0)
      (λ a. a ≡ g.R.Ring.zero → ⊥) c.self.invariant.nonzero (λ is. let h : false ≡ true = c.if-is_zero-2.ensures.1 is in cc);
}

pub returns-clause-in_ring : goal.returns-clause-in_ring
returns-clause-in_ring g c =
    let ring = c.args.ring.now in
    All-changed (λ a. 0) c.self.inside.terms.entries c.insert-2.new.self.entries c.args.word
    (Some c.add-sum.result) c.self.invariant.once c.in-Ok.ensures.unique
    (changed_again (λ a. 0) c.self.inside.terms.entries c.insert.new.self.entries c.insert-2.new.self.entries c.args.word (Some c.add-sum.result)
    (Some c.args.residue) c.in-Ok-Some.ensures.updates.0 c.in-Ok.ensures.updates.0)
    (λ a. g.R.Ring.has ring a ≡ true) (subst (AllIn (g.R.Ring.has ring)) (sym c.self.view_is) c.requires.self_in_ring)
    (subst (λ a. g.R.Ring.has ring a ≡ true) (sym c.add-sum.ensures)
    (g.met.R.Ring.has_add ring c.in-Ok-Some.old c.args.residue
    (has_found (g.R.Ring.has c.args.ring.now) c.self.inside.terms.entries c.args.self.now c.args.word c.in-Ok-Some.old c.self.view_is
    (sym c.in-Ok-Some.field-0-is ∙ c.in-Ok-Some.ensures.old) c.requires.self_in_ring) c.requires.has))

pub returns-clause-ok : goal.returns-clause-ok
returns-clause-ok g c =
    let ring = c.args.ring.now in
    let value = g.R.Ring.value ring in
    let found : coefficient_of value c.args.self.now c.args.word ≡ value c.in-Ok-Some.old =
    coefficient_of-found value c.self.inside.terms.entries c.args.self.now c.args.word (Some c.in-Ok-Some.old) c.self.view_is c.self.invariant.once
    (sym c.in-Ok-Some.field-0-is ∙ c.in-Ok-Some.ensures.old) in
    let has_old : g.R.Ring.has ring c.in-Ok-Some.old ≡ true =
    has_found (g.R.Ring.has c.args.ring.now) c.self.inside.terms.entries c.args.self.now c.args.word c.in-Ok-Some.old c.self.view_is
    (sym c.in-Ok-Some.field-0-is ∙ c.in-Ok-Some.ensures.old) c.requires.self_in_ring in
    coefficient_of-added value c.self.inside.terms.entries c.insert-2.new.self.entries c.args.word
    (Some c.add-sum.result) c.self.invariant.once c.in-Ok.ensures.unique
    (changed_again value c.self.inside.terms.entries c.insert.new.self.entries c.insert-2.new.self.entries c.args.word (Some c.add-sum.result)
    (Some c.args.residue) c.in-Ok-Some.ensures.updates.0 c.in-Ok.ensures.updates.0)
    (g.R.Ring.has ring) (g.R.Ring.modulus ring) (value c.args.residue) c.args.self.now c.self.view_is
    (omega (arith, g.met.R.Ring.modulus_from ring)) (g.met.R.Ring.value_below ring) c.requires.self_in_ring
    (ap value c.add-sum.ensures ∙ g.met.R.Ring.value_add ring c.in-Ok-Some.old c.args.residue has_old c.requires.has
    ∙ ap (λ n. (n + value c.args.residue) % g.R.Ring.modulus ring) (sym found))

pub returns-in-Ok-None-clause-terms : goal.returns-in-Ok-None-clause-terms
returns-in-Ok-None-clause-terms g c = invariant_of-self-in-Ok-None g c

pub returns-then-is_zero-2-clause-terms : goal.returns-then-is_zero-2-clause-terms
returns-then-is_zero-2-clause-terms g c = invariant_of-self-then-is_zero-2 g c

pub returns-clause-terms : goal.returns-clause-terms
returns-clause-terms g c = invariant_of-self-2 g c
