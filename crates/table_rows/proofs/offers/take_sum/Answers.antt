use Rattle.table_rows.proofs.KnownValues.{table_sum, offered_in_vain}
use Rattle.table_rows.proofs.Answering.{same_told}
use Rattle.table_rows.proofs.offers.take_sum.Goals as goal

pub returns-in-Ok-true-clause-ok : goal.returns-in-Ok-true-clause-ok
returns-in-Ok-true-clause-ok g c =
    let t = c.args.table.now in
    let m = g.R.Ring.modulus t.ring in
    let has = g.R.Ring.has t.ring in
    let value = g.R.Ring.value t.ring in
    let e = c.args.offers.now.echelon in
    let so_far = c.requires.so_far in
    let sum = c.args.sum.now in
    record {
      offered = offered_in_vain m has value t c.args.n e so_far.offered sum c.requires.value
          (c.in-Ok-true.ensures.passes c.in-Ok-true.field-0-test e.rows so_far.known
          (table_sum m has value t c.args.n e so_far.offered sum c.requires.value));
      known = so_far.known;
    }

pub returns-in-Err-offer_sum-clause-no_inverse : goal.returns-in-Err-offer_sum-clause-no_inverse
returns-in-Err-offer_sum-clause-no_inverse g c = λ lead k e. c.in-Err-offer_sum.ensures.no_inverse lead k (same_told _ _ e)
