use Rattle.std.proofs.Common.{◌≡◌, ◌*◌, ◌%◌, true, rules, arith, ap, subst, sym, ◌∙◌}
use Rattle.zeta_model.proofs.ModularLemmas.{same-mod, same-sum_of_rests}
use Rattle.sparse_rows.proofs.merge.add_product.Goals as goal

pub returns-in-Some-Some-clause-value : goal.returns-in-Some-Some-clause-value
returns-in-Some-Some-clause-value g c =
    let ring = c.args.ring.now in
    let a = c.in-Some-Some.a in
    let b = c.in-Some-Some.b in
    let has_a : g.R.Ring.has ring a ≡ true = search rules in
    let has_b : g.R.Ring.has ring b ≡ true = search rules in
    let has_product : g.R.Ring.has ring c.mul.result ≡ true =
    subst (λ x. g.R.Ring.has ring x ≡ true) (sym c.mul.ensures) (g.met.R.Ring.has_mul ring c.args.c b c.requires.has_c has_b) in
    rw c.in-Some-Some.is-0 (rw c.in-Some-Some.is-1
    (same-sum_of_rests (g.R.Ring.modulus ring) (g.R.Ring.value ring c.add.result) (g.R.Ring.value ring a) (g.R.Ring.value ring c.mul.result)
    (g.R.Ring.value ring c.args.c * g.R.Ring.value ring b)
    (ap (g.R.Ring.value ring) c.add.ensures ∙ g.met.R.Ring.value_add ring a c.mul.result has_a has_product)
    (ap (g.R.Ring.value ring) c.mul.ensures ∙ g.met.R.Ring.value_mul ring c.args.c b c.requires.has_c has_b)))

pub returns-in-None-Some-clause-value : goal.returns-in-None-Some-clause-value
returns-in-None-Some-clause-value g c =
    let ring = c.args.ring.now in
    let b = c.in-None-Some.b in
    let has_b : g.R.Ring.has ring b ≡ true = search rules in
    rw c.in-None-Some.is-0 (rw c.in-None-Some.is-1
    (ap (λ x. x % g.R.Ring.modulus ring) (ap (g.R.Ring.value ring) c.mul-in-None-Some.ensures
    ∙ g.met.R.Ring.value_mul ring c.args.c b c.requires.has_c has_b)
    ∙ same-mod (g.R.Ring.modulus ring) (g.R.Ring.value ring c.args.c * g.R.Ring.value ring b)
    ∙ ap (λ x. x % g.R.Ring.modulus ring) (omega arith)))
