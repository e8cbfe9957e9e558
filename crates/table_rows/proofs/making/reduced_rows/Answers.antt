use Rattle.std.proofs.Common.{◌≡◌, ◌≤◌, refl, length, sym, subst, arith}
use Rattle.relation_list.specs.Listings.{listing_of}
use Rattle.echelon.specs.Lists.{lead_at, row_at}
use Rattle.table_model.specs.ListedSpan.{values_of, count_of}
use Rattle.table_model.specs.ReducedRows.{IsReducedRows, IsUnbroken, BreaksFirst}
use Rattle.table_rows.proofs.NamedValues.{few_names, item_named, items_are, count_is}
use Rattle.table_rows.proofs.OfferedValues.{reduced_rows_of}
use Rattle.table_rows.proofs.Answering.{same_told}
use Rattle.table_rows.proofs.making.reduced_rows.Goals as goal

pub overflow_cast-n : goal.overflow_cast-n
overflow_cast-n g c =
    let x = c.columns-columns.result.now in
    let names = c.deref-name-items.result.now in
    let few : length (listing_of x.weight x.depth) ≤ 1179648 =
    few_names x.weight x.depth (omega (arith, c.weight.ensures.weight, c.weight.ensures.least)) (omega (arith, c.weight.ensures.weight, c.weight.ensures.most))
    (omega (arith, c.len.ensures.count, c.len.ensures.within)) in
    let is : names ≡ listing_of x.weight x.depth =
    items_are names c.in-Ok.names.items c.weight.result c.depth.result x x c.deref-name-items.ensures.value c.in-Ok.ensures c.weight.ensures.weight
    c.depth.ensures.depth refl in
    let small : length names ≤ 1179648 = subst (λ xs. length xs ≤ 1179648) (sym is) few in
    omega (arith, small, c.loop-n-test.true)

pub take_value-requires-clause-named : goal.take_value-requires-clause-named
take_value-requires-clause-named g c =
    let columns = c.args.table.now.columns in
    let names = c.deref-name-items.result.now in
    let is : names ≡ listing_of columns.weight columns.depth =
    items_are names c.in-Ok.names.items c.weight.result c.depth.result c.columns-columns.result.now columns c.deref-name-items.ensures.value c.in-Ok.ensures
    c.weight.ensures.weight c.depth.ensures.depth c.columns-columns.ensures.columns in
    item_named names columns.weight columns.depth c.loop-n.n c.name-item.result is c.loop-n-test.true c.name-item.is

pub returns-in-Err-take_value-clause-no_inverse : goal.returns-in-Err-take_value-clause-no_inverse
returns-in-Err-take_value-clause-no_inverse g c = λ lead n e.
    let columns = c.args.table.now.columns in
    let names = c.deref-name-items.result.now in
    let is : names ≡ listing_of columns.weight columns.depth =
    items_are names c.in-Ok.names.items c.weight.result c.depth.result c.columns-columns.result.now columns c.deref-name-items.ensures.value c.in-Ok.ensures
    c.weight.ensures.weight c.depth.ensures.depth c.columns-columns.ensures.columns in
    let told = c.in-Err-take_value.ensures.no_inverse lead n (same_told _ _ e) in
    let m = g.R.Ring.modulus c.args.table.now.ring in (
      omega (arith, told.0, count_is names columns is, c.loop-n-test.true),
      subst (λ k. BreaksFirst m columns (values_of m columns) k lead) (sym told.0) told.1,
    )

pub returns-in-Ok-forms_of_all-clause-ok : goal.returns-in-Ok-forms_of_all-clause-ok
returns-in-Ok-forms_of_all-clause-ok g c =
    let t = c.args.table.now in
    let columns = t.columns in
    let m = g.R.Ring.modulus t.ring in
    let value = g.R.Ring.value t.ring in
    let names = c.deref-name-items.result.now in
    let is : names ≡ listing_of columns.weight columns.depth =
    items_are names c.in-Ok.names.items c.weight.result c.depth.result c.columns-columns.result.now columns c.deref-name-items.ensures.value c.in-Ok.ensures
    c.weight.ensures.weight c.depth.ensures.depth c.columns-columns.ensures.columns in
    let all : c.loop-n.n ≡ count_of columns = omega (arith, count_is names columns is, c.loop-n.auto.n-end, c.loop-n-test.false) in
    let so_far = c.loop-n.invariant.taken.offered in
    let kept = c.loop-n.offers.echelon.rows in
    let list = c.in-Ok-forms_of_all.made.rows.rows in
    let fresh = c.in-Ok-forms_of_all.ensures in
    subst (λ n. IsReducedRows m columns (values_of m columns) n (length list) (lead_at list) (row_at value list)) all
    (reduced_rows_of m value columns so_far.is_table so_far.converts c.loop-n.n kept list so_far.span fresh.is_list.reduced fresh.span)

pub returns-in-Ok-forms_of_all-clause-fits : goal.returns-in-Ok-forms_of_all-clause-fits
returns-in-Ok-forms_of_all-clause-fits g c =
    let t = c.args.table.now in
    let columns = t.columns in
    let m = g.R.Ring.modulus t.ring in
    let names = c.deref-name-items.result.now in
    let is : names ≡ listing_of columns.weight columns.depth =
    items_are names c.in-Ok.names.items c.weight.result c.depth.result c.columns-columns.result.now columns c.deref-name-items.ensures.value c.in-Ok.ensures
    c.weight.ensures.weight c.depth.ensures.depth c.columns-columns.ensures.columns in
    let all : c.loop-n.n ≡ count_of columns = omega (arith, count_is names columns is, c.loop-n.auto.n-end, c.loop-n-test.false) in
    subst (IsUnbroken m columns (values_of m columns)) all c.loop-n.invariant.taken.offered.unbroken
