use Rattle.std.proofs.Common.{ℕ, ◌+◌, Err, ap, subst, arith}
use Rattle.word_sums.specs.Sums.{IsSumOf}
use Rattle.word_sums.specs.Terms.{coefficient_of}
use Rattle.relation_list.specs.Values.{value_of}
use Rattle.echelon.specs.Lists.{entries_of, AreForward}
use Rattle.echelon.specs.Offers.{TakesIn, HasNoInverse}
use Rattle.known_sums.proofs.KnownLaws.{kept_within}
use Rattle.table_build.proofs.NamedValues.{listed}
use Rattle.table_build.proofs.Offerings.{offer_breaks}
use Rattle.table_build.proofs.OfferSteps.{few_enough, the_name, the_value, the_row, ZeroTold, AcceptedTold, accepted_told, offered_told, made_told}
use Rattle.table_build.proofs.KnownOffers.{table_sum, offered_in_vain}
use Rattle.table_build.proofs.offering.Offering.offer.Goals as goal

pub value_sum-requires-clause-is_name : goal.value_sum-requires-clause-is_name
value_sum-requires-clause-is_name g c =
    let columns = c.args.self.now.table.columns in let can = c.requires.can in let limits = can.limits in
    (listed columns.weight columns.depth c.args.n c.index.result.now limits.most (the_name c.args.self.now.table c.args.self.now.names.items
    c.args.self.now.kept.ring c.args.self.now.echelon c.args.n c.requires.can c.requires.within c.index.result.now c.index.ensures)).0

pub value_sum-requires-clause-weight : goal.value_sum-requires-clause-weight
value_sum-requires-clause-weight g c =
    let columns = c.args.self.now.table.columns in let can = c.requires.can in let limits = can.limits in
    (listed columns.weight columns.depth c.args.n c.index.result.now limits.most (the_name c.args.self.now.table c.args.self.now.names.items
    c.args.self.now.kept.ring c.args.self.now.echelon c.args.n c.requires.can c.requires.within c.index.result.now c.index.ensures)).1

pub value_sum-requires-clause-depth : goal.value_sum-requires-clause-depth
value_sum-requires-clause-depth g c =
    let columns = c.args.self.now.table.columns in let can = c.requires.can in let limits = can.limits in
    (listed columns.weight columns.depth c.args.n c.index.result.now limits.most (the_name c.args.self.now.table c.args.self.now.names.items
    c.args.self.now.kept.ring c.args.self.now.echelon c.args.n c.requires.can c.requires.within c.index.result.now c.index.ensures)).2

pub returns-in-Ok-true-clause-offered : goal.returns-in-Ok-true-clause-offered
returns-in-Ok-true-clause-offered g c = λ course so_far.
    let t = c.args.self.now.table in
    let old = c.args.self.now.echelon in
    let ring = t.ring in
    let m = g.R.Ring.modulus ring in
    let value = g.R.Ring.value ring in
    let sum = c.in-Ok.sum in
    let name = c.index.result.now in
    let few = few_enough t c.args.self.now.names.items c.args.self.now.kept.ring old c.args.n c.requires.can c.requires.within in
    let made : IsSumOf g.R.Ring.zero (g.R.Ring.has ring) value m (value_of m name) sum = c.in-Ok.ensures.value in
    let coefficients = the_value t c.args.self.now.names.items c.args.self.now.kept.ring old c.args.n c.requires.can c.requires.within m name
    (coefficient_of value sum) c.index.ensures made.coefficients in
    let listed = table_sum m value t.columns course c.args.n old.numbers old.rows so_far few sum coefficients in
    offered_in_vain m value t.columns course c.args.n old.numbers old.rows so_far few sum coefficients
    (c.in-Ok-true.ensures.passes c.in-Ok-true.field-0-test old.rows c.requires.known listed)

pub returns-in-Ok-note-clause-accepted : goal.returns-in-Ok-note-clause-accepted
returns-in-Ok-note-clause-accepted g c =
    let t = c.args.self.now.table in
    let old = c.args.self.now.echelon in
    let new = c.offer.new.self in
    let can = c.requires.can in
    let ring = t.ring in
    let told = c.in-Ok-offer.ensures in
    let from = g.met.R.Ring.modulus_from ring in
    accepted_told (g.R.Ring.modulus ring) (g.R.Ring.has ring) (g.R.Ring.value ring) g.R.Ring.zero old.columns c.args.n (c.args.n + 1) old new
    (entries_of (g.R.Ring.value ring) c.in-Ok-row_of_value.row) (omega (arith, from)) (g.met.R.Ring.value_zero ring) c.in-Ok-offer.traced
    (subst (λ r. AcceptedTold (g.R.Ring.modulus r) (g.R.Ring.has r) (g.R.Ring.value r) g.R.Ring.zero old.columns c.args.n (c.args.n + 1) old new
    (entries_of (g.R.Ring.value r) c.in-Ok-row_of_value.row) c.in-Ok-offer.traced) can.ring told.accepted)

pub returns-in-Ok-note-clause-offered : goal.returns-in-Ok-note-clause-offered
returns-in-Ok-note-clause-offered g c = λ course so_far.
    let t = c.args.self.now.table in
    let old = c.args.self.now.echelon in
    let new = c.offer.new.self in
    let can = c.requires.can in
    let ring = t.ring in
    let told = c.in-Ok-offer.ensures in
    let made : IsSumOf g.R.Ring.zero (g.R.Ring.has ring) (g.R.Ring.value ring) (g.R.Ring.modulus ring) (value_of (g.R.Ring.modulus ring) c.index.result.now)
    c.in-Ok.sum = c.in-Ok.ensures.value in
    let few = few_enough t c.args.self.now.names.items c.args.self.now.kept.ring old c.args.n c.requires.can c.requires.within in
    let is_row = the_row t c.args.self.now.names.items c.args.self.now.kept.ring old c.args.n c.requires.can c.requires.within (g.R.Ring.modulus ring)
    (g.R.Ring.value ring) c.index.result.now c.in-Ok.sum (entries_of (g.R.Ring.value ring) c.in-Ok-row_of_value.row) c.index.ensures made.coefficients
    c.in-Ok-row_of_value.ensures.cols in
    offered_told (g.R.Ring.modulus ring) (g.R.Ring.has ring) (g.R.Ring.value ring) g.R.Ring.zero old.columns c.args.n (c.args.n + 1) old new
    (entries_of (g.R.Ring.value ring) c.in-Ok-row_of_value.row) t.columns course so_far few is_row
    (subst (λ r. (lead : ℕ) → ¬ (HasNoInverse (g.R.Ring.modulus r) (g.R.Ring.value r) old.rows (entries_of (g.R.Ring.value r) c.in-Ok-row_of_value.row) lead))
    can.ring told.fits)
    (subst (λ r. TakesIn (g.R.Ring.modulus r) (g.R.Ring.value r) old.rows (entries_of (g.R.Ring.value r) c.in-Ok-row_of_value.row) new.rows) can.ring told.span)
    (subst (λ r. AreForward (g.R.Ring.modulus r) (g.R.Ring.value r) new.rows) can.ring c.offer.ensures.elimination.forward) c.in-Ok-offer.traced
    (subst (λ r. ZeroTold (g.R.Ring.modulus r) (g.R.Ring.has r) (g.R.Ring.value r) g.R.Ring.zero old.columns c.args.n (c.args.n + 1) old new
    (entries_of (g.R.Ring.value r) c.in-Ok-row_of_value.row) c.in-Ok-offer.traced) can.ring told.zero)
    (subst (λ r. AcceptedTold (g.R.Ring.modulus r) (g.R.Ring.has r) (g.R.Ring.value r) g.R.Ring.zero old.columns c.args.n (c.args.n + 1) old new
    (entries_of (g.R.Ring.value r) c.in-Ok-row_of_value.row) c.in-Ok-offer.traced) can.ring told.accepted)

pub returns-in-Ok-note-clause-made : goal.returns-in-Ok-note-clause-made
returns-in-Ok-note-clause-made g c = λ course so_far.
    let t = c.args.self.now.table in
    let old = c.args.self.now.echelon in
    let new = c.offer.new.self in
    let can = c.requires.can in
    let ring = t.ring in
    let told = c.in-Ok-offer.ensures in
    let made : IsSumOf g.R.Ring.zero (g.R.Ring.has ring) (g.R.Ring.value ring) (g.R.Ring.modulus ring) (value_of (g.R.Ring.modulus ring) c.index.result.now)
    c.in-Ok.sum = c.in-Ok.ensures.value in
    let few = few_enough t c.args.self.now.names.items c.args.self.now.kept.ring old c.args.n c.requires.can c.requires.within in
    let is_row = the_row t c.args.self.now.names.items c.args.self.now.kept.ring old c.args.n c.requires.can c.requires.within (g.R.Ring.modulus ring)
    (g.R.Ring.value ring) c.index.result.now c.in-Ok.sum (entries_of (g.R.Ring.value ring) c.in-Ok-row_of_value.row) c.index.ensures made.coefficients
    c.in-Ok-row_of_value.ensures.cols in
    made_told (g.R.Ring.modulus ring) (g.R.Ring.has ring) (g.R.Ring.value ring) g.R.Ring.zero old.columns c.args.n (c.args.n + 1) old new
    (entries_of (g.R.Ring.value ring) c.in-Ok-row_of_value.row) t.columns course so_far few is_row
    (subst (λ r. (lead : ℕ) → ¬ (HasNoInverse (g.R.Ring.modulus r) (g.R.Ring.value r) old.rows (entries_of (g.R.Ring.value r) c.in-Ok-row_of_value.row) lead))
    can.ring told.fits)
    c.in-Ok-offer.traced
    (subst (λ r. AcceptedTold (g.R.Ring.modulus r) (g.R.Ring.has r) (g.R.Ring.value r) g.R.Ring.zero old.columns c.args.n (c.args.n + 1) old new
    (entries_of (g.R.Ring.value r) c.in-Ok-row_of_value.row) c.in-Ok-offer.traced) can.ring told.accepted)

pub returns-in-Ok-note-clause-known : goal.returns-in-Ok-note-clause-known
returns-in-Ok-note-clause-known g c =
    let t = c.args.self.now.table in
    let old = c.args.self.now.echelon in
    let new = c.offer.new.self in
    let can = c.requires.can in
    let ring = t.ring in
    let told = c.in-Ok-offer.ensures in
    let m = g.R.Ring.modulus ring in
    let value = g.R.Ring.value ring in
    let taken : TakesIn m value old.rows (entries_of value c.in-Ok-row_of_value.row) new.rows =
    subst (λ r. TakesIn (g.R.Ring.modulus r) (g.R.Ring.value r) old.rows (entries_of (g.R.Ring.value r) c.in-Ok-row_of_value.row) new.rows) can.ring
    told.span in
    c.in-Ok-note.ensures.knows old.rows (kept_within m value old.rows new.rows (entries_of value c.in-Ok-row_of_value.row) taken) c.requires.known

pub returns-in-Err-NoInverse-clause-fault : goal.returns-in-Err-NoInverse-clause-fault
returns-in-Err-NoInverse-clause-fault g c = λ course so_far.
    let t = c.args.self.now.table in
    let old = c.args.self.now.echelon in
    let can = c.requires.can in
    let ring = t.ring in
    let fault = c.in-Err-NoInverse in
    let told = fault.ensures.no_inverse fault.value fault.n (ap Err fault.field-0-is) in
    let made : IsSumOf g.R.Ring.zero (g.R.Ring.has ring) (g.R.Ring.value ring) (g.R.Ring.modulus ring) (value_of (g.R.Ring.modulus ring) c.index.result.now)
    c.in-Ok.sum = c.in-Ok.ensures.value in
    let few = few_enough t c.args.self.now.names.items c.args.self.now.kept.ring old c.args.n c.requires.can c.requires.within in
    let is_row = the_row t c.args.self.now.names.items c.args.self.now.kept.ring old c.args.n c.requires.can c.requires.within (g.R.Ring.modulus ring)
    (g.R.Ring.value ring) c.index.result.now c.in-Ok.sum (entries_of (g.R.Ring.value ring) c.in-Ok-row_of_value.row) c.index.ensures made.coefficients
    c.in-Ok-row_of_value.ensures.cols in
    let found : HasNoInverse (g.R.Ring.modulus ring) (g.R.Ring.value ring) old.rows (entries_of (g.R.Ring.value ring) c.in-Ok-row_of_value.row) fault.value =
    subst (λ r. HasNoInverse (g.R.Ring.modulus r) (g.R.Ring.value r) old.rows (entries_of (g.R.Ring.value r) c.in-Ok-row_of_value.row) fault.value) can.ring
    told.1 in (
      told.0,
      offer_breaks (g.R.Ring.modulus ring) (g.R.Ring.value ring) t.columns course c.args.n old.numbers old.rows so_far few
          (entries_of (g.R.Ring.value ring) c.in-Ok-row_of_value.row) is_row fault.value found,
    )
