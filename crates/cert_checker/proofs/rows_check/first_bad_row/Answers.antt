use Rattle.std.proofs.Common.{ℕ, ◌<◌, [], length, sym, subst, ◌∙◌, arith}
use Rattle.std.proofs.lemmas.List.{get_or_default}
use Rattle.sparse_rows.specs.Entries.{AllIn, IsBelow}
use Rattle.echelon.specs.Lists.{row_at}
use Rattle.table_model.specs.Complete.{Evaluates}
use Rattle.cert_checker.specs.Inner.{AreValues}
use Rattle.cert_checker.proofs.Zeros.{not_both}
use Rattle.cert_checker.proofs.RowsAtHand.{told-of, each-more}
use Rattle.cert_checker.proofs.rows_check.first_bad_row.Goals as goal

pub evaluates-requires-clause-row_below : goal.evaluates-requires-clause-row_below
evaluates-requires-clause-row_below g c =
    let there = c.entries-row.ensures.entries ∙ c.index-rows-i.is ∙ get_or_default c.args.rows.now c.loop-i.i c.index-rows-i.result [] c.loop-i-test.true in
    subst (IsBelow (λ k. k) (length c.args.columns.now.list)) (sym there) (c.requires.rows.below c.loop-i.i c.loop-i-test.true)

pub evaluates-requires-clause-row_in_ring : goal.evaluates-requires-clause-row_in_ring
evaluates-requires-clause-row_in_ring g c =
    let there = c.entries-row.ensures.entries ∙ c.index-rows-i.is ∙ get_or_default c.args.rows.now c.loop-i.i c.index-rows-i.result [] c.loop-i-test.true in
    subst (λ r. AllIn (g.R.Ring.has r) c.entries-row.result.now) (sym c.loop-i.invariant.same_ring)
    (subst (AllIn (g.R.Ring.has c.args.ring.now)) (sym there) (c.requires.rows.in_ring c.loop-i.i c.loop-i-test.true))

pub evaluates-requires-clause-combination_below : goal.evaluates-requires-clause-combination_below
evaluates-requires-clause-combination_below g c =
    let inside : c.loop-i.i < length c.args.combinations.now = omega (arith, c.loop-i-test.true, c.requires.as_many) in
    let there = c.entries-combination.ensures.entries ∙ c.index-combinations-i.is
    ∙ get_or_default c.args.combinations.now c.loop-i.i c.index-combinations-i.result [] inside in
    subst (IsBelow (λ k. k) (length c.args.names.now)) (sym there) (c.requires.combinations.below c.loop-i.i inside)

pub evaluates-requires-clause-combination_in_ring : goal.evaluates-requires-clause-combination_in_ring
evaluates-requires-clause-combination_in_ring g c =
    let inside : c.loop-i.i < length c.args.combinations.now = omega (arith, c.loop-i-test.true, c.requires.as_many) in
    let there = c.entries-combination.ensures.entries ∙ c.index-combinations-i.is
    ∙ get_or_default c.args.combinations.now c.loop-i.i c.index-combinations-i.result [] inside in
    subst (λ r. AllIn (g.R.Ring.has r) c.entries-combination.result.now) (sym c.loop-i.invariant.same_ring)
    (subst (AllIn (g.R.Ring.has c.args.ring.now)) (sym there) (c.requires.combinations.in_ring c.loop-i.i inside))

pub returns-then-not-good : goal.returns-then-not-good
returns-then-not-good g c =
    let inside : c.loop-i.i < length c.args.combinations.now = omega (arith, c.loop-i-test.true, c.requires.as_many) in
    let told = told-of g.R.Ring.modulus g.R.Ring.value c.args.columns.now c.loop-i.products.ring c.args.ring.now c.loop-i.invariant.same_ring c.in_ok-good.good
    c.args.rows.now c.args.combinations.now c.loop-i.i c.entries-row.result.now c.entries-combination.result.now
    (c.entries-row.ensures.entries ∙ c.index-rows-i.is ∙ get_or_default c.args.rows.now c.loop-i.i c.index-rows-i.result [] c.loop-i-test.true)
    (c.entries-combination.ensures.entries ∙ c.index-combinations-i.is
    ∙ get_or_default c.args.combinations.now c.loop-i.i c.index-combinations-i.result [] inside) c.in_ok-good.ensures.evaluates in
    record {
      below = c.loop-i-test.true;
      lacks = λ evaluates. not_both (sym c.if-not-good.true ∙ told.1 evaluates);
      earlier = c.loop-i.invariant.earlier;
    }

pub loop-i-preserved : goal.loop-i-preserved
loop-i-preserved g c =
    let ring = c.args.ring.now in
    let m = g.R.Ring.modulus ring in
    let value = g.R.Ring.value ring in
    let inside : c.loop-i.i < length c.args.combinations.now = omega (arith, c.loop-i-test.true, c.requires.as_many) in
    let told = told-of g.R.Ring.modulus g.R.Ring.value c.args.columns.now c.loop-i.products.ring c.args.ring.now c.loop-i.invariant.same_ring c.in_ok-good.good
    c.args.rows.now c.args.combinations.now c.loop-i.i c.entries-row.result.now c.entries-combination.result.now
    (c.entries-row.ensures.entries ∙ c.index-rows-i.is ∙ get_or_default c.args.rows.now c.loop-i.i c.index-rows-i.result [] c.loop-i-test.true)
    (c.entries-combination.ensures.entries ∙ c.index-combinations-i.is
    ∙ get_or_default c.args.combinations.now c.loop-i.i c.index-combinations-i.result [] inside) c.in_ok-good.ensures.evaluates in
    record {
      same_ring = c.in_ok-good.ensures.ring ∙ c.loop-i.invariant.same_ring;
      values = subst (λ r. AreValues (g.R.Ring.modulus r) (g.R.Ring.has r) (g.R.Ring.value r) c.args.columns.now c.args.names.now c.evaluates.new.values.items)
          c.loop-i.invariant.same_ring c.in_ok-good.ensures.values;
      earlier = each-more (λ (k : ℕ). Evaluates m c.args.columns.now (row_at value c.args.rows.now k) (row_at value c.args.combinations.now k)) c.loop-i.i
          c.loop-i.invariant.earlier (told.0 c.if-not-good.false);
    }

pub returns : goal.returns
returns g c = λ i l. c.loop-i.invariant.earlier i (omega (arith, l, c.loop-i.auto.i-end, c.loop-i-test.false))
