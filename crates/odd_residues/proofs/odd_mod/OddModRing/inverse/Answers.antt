use Rattle.std.proofs.Common.{◌≡◌, ◌*◌, ◌%◌, refl, sym, ap, subst, ◌∙◌}
use Rattle.std.specs.Int.{IsGcd}
use Rattle.odd_residues.specs.Montgomery.{residue_of}
use Rattle.odd_residues.proofs.Reductions.{one-of_values}
use Rattle.std.proofs.lemmas.Bool.{lt-ltb}
use Rattle.odd_residues.proofs.odd_mod.OddModRing.inverse.Goals as goal

pub returns-in-Some-clause-inverse : goal.returns-in-Some-clause-inverse
returns-in-Some-clause-inverse c =
    let ring = c.args.self.now in
    let m = ring.modulus in
    let product : residue_of m c.args.a * c.in-Some.n % m ≡ 1 =
    ap (λ t. t * c.in-Some.n % m) (sym c.reduced.ensures) ∙ ap (λ t. c.reduced.result * c.in-Some.n % t) (sym ring.plain_is) ∙ c.in-Some.ensures.inverse.1 in (
      lt-ltb c.form.result m c.form.ensures.below,
      one-of_values m c.args.a c.form.result c.in-Some.n ring.from ring.odd c.form.ensures.value product,
    )

pub returns-in-Some-clause-unit : goal.returns-in-Some-clause-unit
returns-in-Some-clause-unit c =
    let ring = c.args.self.now in
    let value : IsGcd (residue_of ring.modulus c.args.a) ring.plain.modulus 1 =
    subst (λ n. IsGcd n ring.plain.modulus 1) c.reduced.ensures (c.in-Some.ensures.unit.0 refl) in
    (λ _. subst (λ m. IsGcd (residue_of ring.modulus c.args.a) m 1) ring.plain_is value, λ _. refl)

pub returns-in-None-clause-unit : goal.returns-in-None-clause-unit
returns-in-None-clause-unit c =
    let ring = c.args.self.now in (
      λ e. absurd (cc e),
      λ gcd. c.in-None.ensures.unit.1
          (subst (λ n. IsGcd n ring.plain.modulus 1) (sym c.reduced.ensures)
          (subst (λ m. IsGcd (residue_of ring.modulus c.args.a) m 1) (sym ring.plain_is) gcd)),
    )
