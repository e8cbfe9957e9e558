use Rattle.std.proofs.Common.{◌≡◌, suc, ◌+◌, ◌/◌, length, refl, slice_get, sym, ◌∙◌, ap, subst, arith}
use Rattle.std.specs.Prelude.{IfSome, OnOk, Some}
use Rattle.page_codec.specs.declared.page.Page.{Page}
use Rattle.page_codec.specs.declared.page.Page.TheVariants.{Done}
use Rattle.table_build.specs.Inner.{IsReadyAt, Holds}
use Rattle.table_build.proofs.Keepings.{keeps_same, keeps_then}
use Rattle.table_build.proofs.SealSteps.{told_always, keeps_next, holds_where_done}
use Rattle.table_build.proofs.FinalSums.{finals_have, last_stands}
use Rattle.table_build.proofs.FinalPages.{finals_on}
use Rattle.table_build.proofs.finals.seal_finals.Goals as goal

pub returns-in-Err-clause-keeps : goal.returns-in-Err-clause-keeps
returns-in-Err-clause-keeps g c = λ columns course all are.
    keeps_then course.pages (1 + c.args.blocks + c.args.first) (1 + c.args.blocks + c.loop-place.place) (g.D.Disk.trace c.args.disk.now)
    (g.D.Disk.trace c.loop-place.disk)
    (g.D.Disk.trace c.seal_group.new.disk) (omega (arith, c.loop-place.invariant.from)) (c.loop-place.invariant.keeps columns course all are)
    (c.seal_group.ensures.keeps columns course all (c.loop-place.invariant.are columns course all are))

pub loop-place-init : goal.loop-place-init
loop-place-init g c =
    let told = g.D.Disk.trace c.args.disk.now in
    record {
      from = omega arith;
      within = omega (arith, c.if-first-end.false);
      ready = c.requires.ready;
      suits = c.requires.suits;
      keeps = λ columns course all are. keeps_same course.pages (1 + c.args.blocks + c.args.first) told told refl;
      are = λ columns course all are. are;
      untold = λ none. none;
      faults = omega arith;
    }

pub loop-place-preserved : goal.loop-place-preserved
loop-place-preserved g c =
    let ring = c.args.ring.now in
    let blocks = c.args.blocks in
    let place = c.loop-place.place in
    let next = c.loop-place.place + c.min.result in
    let old = g.D.Disk.trace c.args.disk.now in
    let mid = g.D.Disk.trace c.loop-place.disk in
    let now = g.D.Disk.trace c.seal_group.new.disk in
    record {
      from = omega (arith, c.loop-place.invariant.from);
      within = omega (arith, c.min.ensures, c.loop-place.invariant.within);
      ready = c.in_default.ensures.ready;
      suits = c.in_default.ensures.suits;
      keeps = λ columns course all are.
          keeps_then course.pages (1 + blocks + c.args.first) (1 + blocks + place) old mid now (omega (arith, c.loop-place.invariant.from))
          (c.loop-place.invariant.keeps columns course all are)
          (c.seal_group.ensures.keeps columns course all (c.loop-place.invariant.are columns course all are));
      are = λ columns course all are.
          let was = c.loop-place.invariant.are columns course all are in
          finals_on (g.R.Ring.modulus ring) (g.R.Ring.value ring) columns course (1 + blocks + place) (1 + blocks + next)
          c.args.sealed.now.numbers.items c.args.sealed.now.rows.items c.args.finals.now.rows.rows c.args.finals.now.uses.items mid now was
          (c.in_default.ensures.holds columns course all was);
      untold = λ none. c.seal_group.ensures.untold (c.loop-place.invariant.untold none);
      faults = omega (arith, c.loop-place.invariant.faults, c.seal_group.ensures.faults);
    }

pub returns-clause-ready : goal.returns-clause-ready
returns-clause-ready g c =
    let k = 1 + c.args.blocks + c.loop-place.place in
    let n = length c.args.finals.now.rows.rows in
    subst (λ x. OnOk c.seal.result (IsReadyAt x c.seal.new.file))
    (let e : suc k ≡ 2 + c.args.blocks + (n + 63) / 64 = omega (
      arith,
      c.len-count.ensures,
      c.loop-place-test.false,
      c.loop-place.invariant.within,
      c.requires.from,
    ) in e)
    (c.seal.ensures.ready k c.loop-place.invariant.ready)

pub returns-clause-keeps : goal.returns-clause-keeps
returns-clause-keeps g c = λ columns course all are.
    let ring = c.args.ring.now in
    let m = g.R.Ring.modulus ring in
    let has = g.R.Ring.has ring in
    let value = g.R.Ring.value ring in
    let blocks = c.args.blocks in
    let k = 1 + c.args.blocks + c.loop-place.place in
    let old = g.D.Disk.trace c.args.disk.now in
    let mid = g.D.Disk.trace c.loop-place.disk in
    let now = g.D.Disk.trace c.seal.new.disk in
    let finals = c.args.finals.now.rows.rows in
    let count : c.len-count.result ≡ length finals = c.len-count.ensures in
    let last : Page = Done c.len-count.result in
    let there = last_stands m g.R.Ring.zero has value (g.met.R.Ring.has_zero ring) (g.met.R.Ring.value_zero ring) (g.met.R.Ring.value_injective ring)
    (g.met.R.Ring.value_below ring) course columns blocks c.args.sealed.now.numbers.items c.args.sealed.now.rows.items finals
    c.args.finals.now.uses.items old all (finals_have m value columns course blocks (1 + blocks + c.args.first) c.args.sealed.now.numbers.items
    c.args.sealed.now.rows.items finals c.args.finals.now.uses.items old (omega arith) are) c.requires.rows in
    let k_is : k ≡ 1 + blocks + (length finals + 63) / 64 = omega (arith, count, c.loop-place-test.false, c.loop-place.invariant.within, c.requires.from) in
    let at : slice_get course.pages k ≡ Some last = ap (slice_get course.pages) k_is ∙ there.0 ∙ ap (λ n. Some (Done n)) (sym count) in
    let next : IfSome mid (λ t. slice_get course.pages k ≡ Some last) = told_always (slice_get course.pages k ≡ Some last) mid at in
    let mid_are = c.loop-place.invariant.are columns course all are in
    keeps_then course.pages (1 + blocks + c.args.first) k old mid now (omega (arith, c.loop-place.invariant.from))
    (c.loop-place.invariant.keeps columns course all are)
    (keeps_next course.pages k last mid now c.seal.ensures.keeps mid_are.holds next)

pub returns-clause-holds : goal.returns-clause-holds
returns-clause-holds g c = λ columns course all are.
    let ring = c.args.ring.now in
    let m = g.R.Ring.modulus ring in
    let has = g.R.Ring.has ring in
    let value = g.R.Ring.value ring in
    let blocks = c.args.blocks in
    let k = 1 + c.args.blocks + c.loop-place.place in
    let old = g.D.Disk.trace c.args.disk.now in
    let mid = g.D.Disk.trace c.loop-place.disk in
    let now = g.D.Disk.trace c.seal.new.disk in
    let finals = c.args.finals.now.rows.rows in
    let count : c.len-count.result ≡ length finals = c.len-count.ensures in
    let last : Page = Done c.len-count.result in
    let there = last_stands m g.R.Ring.zero has value (g.met.R.Ring.has_zero ring) (g.met.R.Ring.value_zero ring) (g.met.R.Ring.value_injective ring)
    (g.met.R.Ring.value_below ring) course columns blocks c.args.sealed.now.numbers.items c.args.sealed.now.rows.items finals
    c.args.finals.now.uses.items old all (finals_have m value columns course blocks (1 + blocks + c.args.first) c.args.sealed.now.numbers.items
    c.args.sealed.now.rows.items finals c.args.finals.now.uses.items old (omega arith) are) c.requires.rows in
    let k_is : k ≡ 1 + blocks + (length finals + 63) / 64 = omega (arith, count, c.loop-place-test.false, c.loop-place.invariant.within, c.requires.from) in
    let at : slice_get course.pages k ≡ Some last = ap (slice_get course.pages) k_is ∙ there.0 ∙ ap (λ n. Some (Done n)) (sym count) in
    let next : IfSome mid (λ t. slice_get course.pages k ≡ Some last) = told_always (slice_get course.pages k ≡ Some last) mid at in
    let mid_are = c.loop-place.invariant.are columns course all are in
    subst (λ n. OnOk c.seal.result (Holds course.pages n now)) (let e : suc k ≡ length course.pages = omega (arith, there.1, k_is) in e)
    (holds_where_done course.pages k last mid now c.seal.result c.seal.ensures.keeps mid_are.holds c.seal.ensures.holds next)

pub returns-then-first-end-clause-holds : goal.returns-then-first-end-clause-holds
returns-then-first-end-clause-holds g c = λ columns course all are.
    let ring = c.args.ring.now in
    let m = g.R.Ring.modulus ring in
    let value = g.R.Ring.value ring in
    let blocks = c.args.blocks in
    let old = g.D.Disk.trace c.args.disk.now in
    let finals = c.args.finals.now.rows.rows in
    let there = last_stands m g.R.Ring.zero (g.R.Ring.has ring) value (g.met.R.Ring.has_zero ring) (g.met.R.Ring.value_zero ring)
    (g.met.R.Ring.value_injective ring) (g.met.R.Ring.value_below ring) course columns blocks c.args.sealed.now.numbers.items c.args.sealed.now.rows.items
    finals
    c.args.finals.now.uses.items old all (finals_have m value columns course blocks (1 + blocks + c.args.first) c.args.sealed.now.numbers.items
    c.args.sealed.now.rows.items finals c.args.finals.now.uses.items old (omega arith) are) c.requires.rows in
    subst (λ n. Holds course.pages n old)
    (let e : 1 + blocks + c.args.first ≡ length course.pages = omega (arith, there.1, c.len-count.ensures, c.if-first-end.true, c.requires.from) in e)
    are.holds
