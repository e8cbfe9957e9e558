use Rattle.std.proofs.Common.{sym, ap, ◌∙◌}
use Rattle.std.proofs.lemmas.Bool.{eqb-true}
use Rattle.word_sums.specs.Terms.{coefficient_of}
use Rattle.zeta_expr.proofs.MeaningLemmas.{one_alone}
use Rattle.zeta_expr.proofs.powers.is_one.Goals as goal

pub returns-then-len-eq1 : goal.returns-then-len-eq1
returns-then-len-eq1 g c =
    λ is t.
    let ring = c.args.ring.now in
    let v = g.R.Ring.value ring in
    one_alone v c.args.sum.now (sym c.len.ensures.len ∙ c.if-len-eq1.true)
    (ap (coefficient_of v c.args.sum.now) (sym c.empty.ensures) ∙ sym c.coefficient.ensures.value ∙ sym c.value.ensures ∙ eqb-true _ _ is) t
