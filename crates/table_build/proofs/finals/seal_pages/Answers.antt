use Rattle.std.proofs.Common.{◌≡◌, ◌+◌, refl, subst, arith}
use Rattle.table_build.specs.Inner.{AreRecorded, IsReadyAt, Holds}
use Rattle.table_build.proofs.Keepings.{keeps_same, keeps_then}
use Rattle.table_build.proofs.SealSteps.{told_on}
use Rattle.table_build.proofs.finals.seal_pages.Goals as goal

pub returns-in-Err-clause-keeps : goal.returns-in-Err-clause-keeps
returns-in-Err-clause-keeps g c = λ columns course all are.
    keeps_then course.pages (1 + c.args.blocks + c.args.group.now.first) (1 + c.args.blocks + c.loop-place.place) (g.D.Disk.trace c.args.disk.now)
    (g.D.Disk.trace c.loop-place.disk)
    (g.D.Disk.trace c.seal_final.new.disk) (omega (arith, c.loop-place.auto.place)) (c.loop-place.invariant.keeps columns course all are)
    (c.seal_final.ensures.keeps columns course all (c.loop-place.invariant.are columns course all are))

pub loop-place-init : goal.loop-place-init
loop-place-init g c =
    let told = g.D.Disk.trace c.args.disk.now in
    record {
      ready = c.requires.ready;
      suits = c.requires.suits;
      keeps = λ columns course all are. keeps_same course.pages (1 + c.args.blocks + c.args.group.now.first) told told refl;
      are = λ columns course all are. are;
      untold = λ none. none;
      faults = omega arith;
    }

pub loop-place-preserved : goal.loop-place-preserved
loop-place-preserved g c =
    let ring = c.args.ring.now in
    let m = g.R.Ring.modulus ring in
    let value = g.R.Ring.value ring in
    let blocks = c.args.blocks in
    let place = c.loop-place.place in
    let group = c.args.group.now in
    let old = g.D.Disk.trace c.args.disk.now in
    let mid = g.D.Disk.trace c.loop-place.disk in
    let now = g.D.Disk.trace c.seal_final.new.disk in
    let step : 2 + blocks + place ≡ 1 + blocks + (place + 1) = omega arith in
    record {
      ready = subst (λ k. IsReadyAt k c.seal_final.new.file) step c.in_default.ensures.ready;
      suits = c.in_default.ensures.suits;
      keeps = λ columns course all are.
          keeps_then course.pages (1 + blocks + group.first) (1 + blocks + place) old mid now (omega (arith, c.loop-place.auto.place))
          (c.loop-place.invariant.keeps columns course all are)
          (c.seal_final.ensures.keeps columns course all (c.loop-place.invariant.are columns course all are));
      are = λ columns course all are.
          let was = c.loop-place.invariant.are columns course all are in
          record {
            holds = subst (λ k. Holds course.pages k now) step (c.in_default.ensures.holds columns course all was);
            recorded = told_on (AreRecorded m value columns course group.first c.args.rows.now.rows group.combinations.items) mid now
                c.seal_final.ensures.untold was.recorded;
          };
      untold = λ none. c.seal_final.ensures.untold (c.loop-place.invariant.untold none);
      faults = omega (arith, c.loop-place.invariant.faults, c.seal_final.ensures.faults);
    }

pub returns-clause-ready : goal.returns-clause-ready
returns-clause-ready g c =
    let e : c.loop-place.place ≡ c.args.group.now.end = omega (arith, c.loop-place-test.false, c.loop-place.auto.place-end, c.requires.order) in
    subst (λ n. IsReadyAt (1 + c.args.blocks + n) c.loop-place.file) e c.loop-place.invariant.ready

pub returns-clause-holds : goal.returns-clause-holds
returns-clause-holds g c = λ columns course all are.
    let e : c.loop-place.place ≡ c.args.group.now.end = omega (arith, c.loop-place-test.false, c.loop-place.auto.place-end, c.requires.order) in
    let was = c.loop-place.invariant.are columns course all are in
    subst (λ n. Holds course.pages (1 + c.args.blocks + n) (g.D.Disk.trace c.loop-place.disk)) e was.holds
