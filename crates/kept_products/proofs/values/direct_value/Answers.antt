use Rattle.std.proofs.Common.{sym, subst}
use Rattle.std.specs.Prelude.{IfOk}
use Rattle.word_sums.specs.Sums.{IsSumOf}
use Rattle.relation_list.specs.Values.{direct_value_of}
use Rattle.relation_list.proofs.NameBounds.{fin-admissible}
use Rattle.relation_list.proofs.ValueLemmas.{admissible-has_index}
use Rattle.kept_products.proofs.values.direct_value.Goals as goal

pub fin_value-requires-clause-covers_v : goal.fin_value-requires-clause-covers_v
fin_value-requires-clause-covers_v g c = admissible-has_index c.in-Fin.v (fin-admissible c.args.r.now c.in-Fin.u c.in-Fin.v c.requires.direct c.in-Fin.is).1

pub returns-in-Fin-clause-value : goal.returns-in-Fin-clause-value
returns-in-Fin-clause-value g c =
    let ring = c.args.ring.now in
    let m = g.R.Ring.modulus ring in
    subst (λ r. IfOk c.fin_value.result (IsSumOf g.R.Ring.zero (g.R.Ring.has ring) (g.R.Ring.value ring) m (direct_value_of m r)))
    (sym c.in-Fin.is) c.fin_value.ensures.value
