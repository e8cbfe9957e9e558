use Rattle.std.proofs.Common.{◌+◌, ◌*◌, ◌<◌, ℕ, Err, sym, ap, subst, arith}
use Rattle.echelon.specs.Lists.{entries_of}
use Rattle.echelon.specs.States.{IsElimination}
use Rattle.echelon.specs.Offers.{HasNoInverse, TakesIn}
use Rattle.table_model.specs.Conversion.{IsCols}
use Rattle.table_model.specs.ListedSpan.{values_of, count_of}
use Rattle.share_build.proofs.NamedValues.{listed, listed_value-named, item_named, count_is}
use Rattle.share_build.proofs.OfferSteps.{ZeroTold, AcceptedTold, ValueTold, offer_breaks, offered_next}
use Rattle.share_build.proofs.offering.offer_relation.Goals as goal

pub value_row-requires-clause-is_name : goal.value_row-requires-clause-is_name
value_row-requires-clause-is_name g c =
    let columns = c.args.table.now.columns in
    let limits = c.requires.so_far.is_table.limits in
    let n = c.args.id.index + c.args.id.of * c.args.k in
    (listed columns.weight columns.depth n c.index-names-n.result limits.most
    (item_named c.args.names.now columns.weight columns.depth n c.index-names-n.result c.requires.names c.requires.inside c.index-names-n.is)).0

pub value_row-requires-clause-weight : goal.value_row-requires-clause-weight
value_row-requires-clause-weight g c =
    let columns = c.args.table.now.columns in
    let limits = c.requires.so_far.is_table.limits in
    let n = c.args.id.index + c.args.id.of * c.args.k in
    (listed columns.weight columns.depth n c.index-names-n.result limits.most
    (item_named c.args.names.now columns.weight columns.depth n c.index-names-n.result c.requires.names c.requires.inside c.index-names-n.is)).1

pub value_row-requires-clause-depth : goal.value_row-requires-clause-depth
value_row-requires-clause-depth g c =
    let columns = c.args.table.now.columns in
    let limits = c.requires.so_far.is_table.limits in
    let n = c.args.id.index + c.args.id.of * c.args.k in
    (listed columns.weight columns.depth n c.index-names-n.result limits.most
    (item_named c.args.names.now columns.weight columns.depth n c.index-names-n.result c.requires.names c.requires.inside c.index-names-n.is)).2

pub returns-in-Ok-offer-clause-ok : goal.returns-in-Ok-offer-clause-ok
returns-in-Ok-offer-clause-ok g c =
    let t = c.args.table.now in
    let old = c.args.echelon.now in
    let new = c.offer.new.self in
    let so_far = c.requires.so_far in
    let told = c.in-Ok-offer.ensures in
    let m = g.R.Ring.modulus t.ring in
    let has = g.R.Ring.has t.ring in
    let value = g.R.Ring.value t.ring in
    let zero = g.R.Ring.zero in
    let id = c.args.id in
    let n = id.index + id.of * c.args.k in
    let p = c.in-Ok.row in
    let columns = t.columns in
    let name = item_named c.args.names.now columns.weight columns.depth n c.index-names-n.result c.requires.names c.requires.inside c.index-names-n.is in
    let row : IsCols m columns (values_of m columns n) (entries_of value p) =
    subst (λ s. IsCols m columns s (entries_of value p)) (sym (listed_value-named m columns.weight columns.depth n c.index-names-n.result name))
    c.in-Ok.ensures.cols in
    let inside : n < count_of columns = omega (arith, c.requires.inside, count_is c.args.names.now columns c.requires.names) in
    let answer = c.in-Ok-offer.field-0 in
    offered_next m has value zero t id.index id.of c.args.k old so_far p row _ new (omega (arith, c.requires.id.some)) inside
    (subst (λ r. (lead : ℕ) → ¬ (HasNoInverse (g.R.Ring.modulus r) (g.R.Ring.value r) old.core.rows (entries_of (g.R.Ring.value r) p) lead)) so_far.ring
    told.fits)
    (subst (λ r. TakesIn (g.R.Ring.modulus r) (g.R.Ring.value r) old.core.rows (entries_of (g.R.Ring.value r) p) new.core.rows) so_far.ring told.span)
    (subst (λ r. IsElimination (g.R.Ring.modulus r) (g.R.Ring.has r) (g.R.Ring.value r) zero old.core.columns new.core.above new.core.numbers new.core.rows)
    so_far.ring c.offer.ensures.elimination)
    answer
    (subst (λ r. ZeroTold (g.R.Ring.modulus r) (g.R.Ring.has r) (g.R.Ring.value r) zero n old p _ new answer) so_far.ring told.zero)
    (subst (λ r. AcceptedTold (g.R.Ring.modulus r) (g.R.Ring.has r) (g.R.Ring.value r) zero n old p _ new answer) so_far.ring told.accepted)
    (subst (λ r. ValueTold (g.R.Ring.modulus r) (g.R.Ring.has r) (g.R.Ring.value r) zero n old p _ answer) so_far.ring told.value)

pub returns-in-Err-NoInverse-clause-fault : goal.returns-in-Err-NoInverse-clause-fault
returns-in-Err-NoInverse-clause-fault g c =
    let t = c.args.table.now in
    let old = c.args.echelon.now in
    let so_far = c.requires.so_far in
    let m = g.R.Ring.modulus t.ring in
    let has = g.R.Ring.has t.ring in
    let value = g.R.Ring.value t.ring in
    let id = c.args.id in
    let n = id.index + id.of * c.args.k in
    let p = c.in-Ok.row in
    let columns = t.columns in
    let name = item_named c.args.names.now columns.weight columns.depth n c.index-names-n.result c.requires.names c.requires.inside c.index-names-n.is in
    let row : IsCols m columns (values_of m columns n) (entries_of value p) =
    subst (λ s. IsCols m columns s (entries_of value p)) (sym (listed_value-named m columns.weight columns.depth n c.index-names-n.result name))
    c.in-Ok.ensures.cols in
    let fault = c.in-Err-NoInverse in
    let told = fault.ensures.no_inverse fault.value fault.n (ap Err fault.field-0-is) in
    let found : HasNoInverse m value old.core.rows (entries_of value p) fault.value =
    subst (λ r. HasNoInverse (g.R.Ring.modulus r) (g.R.Ring.value r) old.core.rows (entries_of (g.R.Ring.value r) p) fault.value) so_far.ring told.1 in
    (told.0, offer_breaks m has value g.R.Ring.zero t id.index id.of c.args.k old so_far p row fault.value found)
