use Rattle.std.proofs.Common.{ℕ, ◌+◌, Err, sym, ◌∙◌, ap, subst, arith}
use Rattle.echelon.specs.Lists.{entries_of, AreForward}
use Rattle.echelon.specs.Offers.{TakesIn, HasNoInverse}
use Rattle.table_model.specs.Conversion.{IsCols}
use Rattle.table_model.specs.ListedSpan.{values_of}
use Rattle.word_sums.specs.Terms.{coefficient_of}
use Rattle.table_rows.proofs.NamedValues.{same_cols}
use Rattle.known_sums.proofs.KnownLaws.{kept_within}
use Rattle.table_rows.proofs.OfferedValues.{span_next, broken, unbroken_next}
use Rattle.table_model.specs.ReducedRows.{IsBrokenAt}
use Rattle.table_rows.proofs.Answering.{offered, same_fault, same_rows}
use Rattle.table_rows.proofs.offers.offer_sum.Given as given
use Rattle.table_rows.proofs.offers.offer_sum.Goals as goal

-- the row of the value, by its number
row_is : (g : given.Over) (c : goal.After-drop-row-inside g)
    → IsCols (g.R.Ring.modulus c.args.table.now.ring) c.args.table.now.columns (values_of (g.R.Ring.modulus c.args.table.now.ring) c.args.table.now.columns c.args.n)
    (entries_of (g.R.Ring.value c.args.table.now.ring) c.in-Ok.row)
row_is g c =
    let t = c.args.table.now in
    let m = g.R.Ring.modulus t.ring in
    let value = g.R.Ring.value t.ring in
    same_cols m t.columns (coefficient_of value c.args.sum.now) (values_of m t.columns c.args.n) (entries_of value c.in-Ok.row) c.requires.value.coefficients
    c.in-Ok.ensures.cols

pub returns-in-Ok-offer-clause-ok : goal.returns-in-Ok-offer-clause-ok
returns-in-Ok-offer-clause-ok g c =
    let t = c.args.table.now in
    let old = c.args.echelon.now in
    let new = c.offer.new.self in
    let m = g.R.Ring.modulus t.ring in
    let value = g.R.Ring.value t.ring in
    let so_far = c.requires.so_far in
    let told = c.in-Ok-offer.ensures in
    let facts = offered old new (c.args.n + 1) c.args.n _ _ _ c.in-Ok-offer.traced told.zero told.accepted in
    let p = entries_of value c.in-Ok.row in
    let taken : TakesIn m value old.rows p new.rows =
    subst (λ r. TakesIn (g.R.Ring.modulus r) (g.R.Ring.value r) old.rows (entries_of (g.R.Ring.value r) c.in-Ok.row) new.rows) so_far.ring told.span in
    let fits : (lead : ℕ) → ¬ (HasNoInverse m value old.rows p lead) =
    subst (λ r. (lead : ℕ) → ¬ (HasNoInverse (g.R.Ring.modulus r) (g.R.Ring.value r) old.rows (entries_of (g.R.Ring.value r) c.in-Ok.row) lead)) so_far.ring
    told.fits in
    record {
      is_table = so_far.is_table;
      converts = so_far.converts;
      ring = facts.0 ∙ so_far.ring;
      columns = facts.1 ∙ so_far.columns;
      above = omega (arith, facts.2);
      forward = subst (λ r. AreForward (g.R.Ring.modulus r) (g.R.Ring.value r) new.rows) so_far.ring c.offer.ensures.elimination.forward;
      span = span_next m value t.columns so_far.is_table so_far.converts c.args.n old.rows p so_far.span (row_is g c) new.rows taken;
      unbroken = unbroken_next m value t.columns so_far.is_table so_far.converts c.args.n old.rows p so_far.span (row_is g c) so_far.forward
          so_far.unbroken fits;
    }

pub returns-in-Err-NoInverse-clause-no_inverse : goal.returns-in-Err-NoInverse-clause-no_inverse
returns-in-Err-NoInverse-clause-no_inverse g c = λ lead k e.
    let t = c.args.table.now in
    let old = c.args.echelon.now in
    let m = g.R.Ring.modulus t.ring in
    let value = g.R.Ring.value t.ring in
    let so_far = c.requires.so_far in
    let fault = c.in-Err-NoInverse in
    let told = fault.ensures.no_inverse fault.value fault.n (ap Err fault.field-0-is) in
    let same = same_fault fault.value lead fault.n k e in
    let found : HasNoInverse m value old.rows (entries_of value c.in-Ok.row) fault.value =
    subst (λ r. HasNoInverse (g.R.Ring.modulus r) (g.R.Ring.value r) old.rows (entries_of (g.R.Ring.value r) c.in-Ok.row) fault.value) so_far.ring told.1 in
    let row : IsCols m t.columns (values_of m t.columns c.args.n) (entries_of value c.in-Ok.row) =
    same_cols m t.columns (coefficient_of value c.args.sum.now) (values_of m t.columns c.args.n) (entries_of value c.in-Ok.row) c.requires.value.coefficients
    c.in-Ok.ensures.cols in (
      sym same.1 ∙ told.0,
      (
        subst (IsBrokenAt m t.columns (values_of m t.columns) c.args.n) same.0
            (broken m value t.columns so_far.is_table so_far.converts c.args.n old.rows (entries_of value c.in-Ok.row) so_far.span row so_far.forward so_far.unbroken
            fault.value found),
        so_far.unbroken,
      ),
    )

pub returns-in-Ok-offer-clause-within : goal.returns-in-Ok-offer-clause-within
returns-in-Ok-offer-clause-within g c =
    let t = c.args.table.now in
    let old = c.args.echelon.now in
    let new = c.offer.new.self in
    let taken : TakesIn (g.R.Ring.modulus t.ring) (g.R.Ring.value t.ring) old.rows (entries_of (g.R.Ring.value t.ring) c.in-Ok.row) new.rows =
    subst (λ r. TakesIn (g.R.Ring.modulus r) (g.R.Ring.value r) old.rows (entries_of (g.R.Ring.value r) c.in-Ok.row) new.rows) c.requires.so_far.ring
    c.in-Ok-offer.ensures.span in
    kept_within (g.R.Ring.modulus t.ring) (g.R.Ring.value t.ring) old.rows new.rows (entries_of (g.R.Ring.value t.ring) c.in-Ok.row) taken

pub returns-in-Ok-offer-clause-same : goal.returns-in-Ok-offer-clause-same
returns-in-Ok-offer-clause-same g c = λ not_new.
    same_rows c.args.echelon.now c.offer.new.self (c.args.n + 1) _ c.in-Ok-offer.traced (c.is_accepted.ensures not_new) c.in-Ok-offer.ensures.zero
