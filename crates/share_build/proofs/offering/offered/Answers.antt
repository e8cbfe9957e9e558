use Rattle.std.proofs.Common.{◌≡◌, ◌+◌, ◌-◌, ◌*◌, ◌/◌, ◌≤◌, ◌<◌, length, refl, sym, ◌∙◌, ap, subst, arith}
use Rattle.relation_list.specs.Listings.{listing_of}
use Rattle.table_model.specs.ListedSpan.{count_of}
use Rattle.table_model.specs.ReducedRows.{BreaksFirst}
use Rattle.share_model.specs.Dealing.{share_values, share_size}
use Rattle.share_build.specs.Refusals.{BreaksAt}
use Rattle.share_build.specs.Inner.{HasOffered}
use Rattle.share_build.proofs.NamedValues.{few_names, items_are, count_is}
use Rattle.share_build.proofs.OfferSteps.{other_cause}
use Rattle.share_build.proofs.offering.offered.Goals as goal

pub overflow_cast-size : goal.overflow_cast-size
overflow_cast-size g c =
    let x = c.columns-columns.result.now in
    let few : length (listing_of x.weight x.depth) ≤ 1179648 =
    few_names x.weight x.depth (omega (arith, c.weight.ensures.weight, c.weight.ensures.least)) (omega (arith, c.weight.ensures.weight, c.weight.ensures.most))
    (omega (arith, c.len.ensures.count, c.len.ensures.within)) in
    let is : c.in-Ok.names.items ≡ listing_of x.weight x.depth =
    items_are c.in-Ok.names.items c.in-Ok.names.items c.weight.result c.depth.result x x refl c.in-Ok.ensures c.weight.ensures.weight c.depth.ensures.depth
    refl in
    let small : length c.in-Ok.names.items ≤ 1179648 = subst (λ xs. length xs ≤ 1179648) (sym is) few in
    omega (arith, small, c.in-Ok.names.ok.0, c.len-2.ensures, c.requires.id.few)

pub overflow_add-size : goal.overflow_add-size
overflow_add-size g c =
    let x = c.columns-columns.result.now in
    let few : length (listing_of x.weight x.depth) ≤ 1179648 =
    few_names x.weight x.depth (omega (arith, c.weight.ensures.weight, c.weight.ensures.least)) (omega (arith, c.weight.ensures.weight, c.weight.ensures.most))
    (omega (arith, c.len.ensures.count, c.len.ensures.within)) in
    let is : c.in-Ok.names.items ≡ listing_of x.weight x.depth =
    items_are c.in-Ok.names.items c.in-Ok.names.items c.weight.result c.depth.result x x refl c.in-Ok.ensures c.weight.ensures.weight c.depth.ensures.depth
    refl in
    let small : length c.in-Ok.names.items ≤ 1179648 = subst (λ xs. length xs ≤ 1179648) (sym is) few in
    omega (arith, small, c.in-Ok.names.ok.0, c.len-2.ensures, c.requires.id.few)

pub offer_relation-requires-clause-few : goal.offer_relation-requires-clause-few
offer_relation-requires-clause-few g c =
    let x = c.columns-columns.result.now in
    let few : length (listing_of x.weight x.depth) ≤ 1179648 =
    few_names x.weight x.depth (omega (arith, c.weight.ensures.weight, c.weight.ensures.least)) (omega (arith, c.weight.ensures.weight, c.weight.ensures.most))
    (omega (arith, c.len.ensures.count, c.len.ensures.within)) in
    let is : c.deref.result.now ≡ listing_of x.weight x.depth =
    items_are c.deref.result.now c.in-Ok.names.items c.weight.result c.depth.result x x c.deref.ensures.value c.in-Ok.ensures c.weight.ensures.weight
    c.depth.ensures.depth refl in
    subst (λ xs. length xs ≤ 1179648) (sym is) few

pub returns-in-Err-offer_relation-clause-fault : goal.returns-in-Err-offer_relation-clause-fault
returns-in-Err-offer_relation-clause-fault g c =
    let columns = c.args.table.now.columns in
    let m = g.R.Ring.modulus c.args.table.now.ring in
    let id = c.args.id in
    let k = c.loop-k.k in
    let is : c.in-Ok.names.items ≡ listing_of columns.weight columns.depth =
    items_are c.in-Ok.names.items c.in-Ok.names.items c.weight.result c.depth.result c.columns-columns.result.now columns refl c.in-Ok.ensures
    c.weight.ensures.weight c.depth.ensures.depth c.columns-columns.ensures.columns in
    let counted : c.len-2.result ≡ count_of columns =
    omega (arith, c.in-Ok.names.ok.0, c.len-2.ensures, count_is c.in-Ok.names.items columns is) in
    let inside : k < share_size columns id.index id.of = subst (λ x. k < (x + (id.of - 1 - id.index)) / id.of) counted c.loop-k-test.true in
    other_cause (λ value n. (n ≡ id.index + id.of * k) × BreaksFirst m columns (share_values m columns id.index id.of) k value)
    (λ value n. BreaksAt m columns id.index id.of n value) (λ value n h. record { place = k; inside = inside; is = h.0; breaks = h.1 })
    c.in-Err-offer_relation.fault c.in-Err-offer_relation.ensures.fault

pub returns-clause-ok : goal.returns-clause-ok
returns-clause-ok g c =
    let table = c.args.table.now in
    let columns = table.columns in
    let ring = table.ring in
    let id = c.args.id in
    let is : c.in-Ok.names.items ≡ listing_of columns.weight columns.depth =
    items_are c.in-Ok.names.items c.in-Ok.names.items c.weight.result c.depth.result c.columns-columns.result.now columns refl c.in-Ok.ensures
    c.weight.ensures.weight c.depth.ensures.depth c.columns-columns.ensures.columns in
    let counted : c.len-2.result ≡ count_of columns =
    omega (arith, c.in-Ok.names.ok.0, c.len-2.ensures, count_is c.in-Ok.names.items columns is) in
    let all : c.loop-k.k ≡ (c.len-2.result + (id.of - 1 - id.index)) / id.of = omega (arith, c.loop-k.auto.k-end, c.loop-k-test.false) in
    subst (λ k. HasOffered (g.R.Ring.modulus ring) (g.R.Ring.has ring) (g.R.Ring.value ring) g.R.Ring.zero table id.index id.of k c.loop-k.echelon)
    (all ∙ ap (λ x. (x + (id.of - 1 - id.index)) / id.of) counted) c.loop-k.invariant.offered
