use Rattle.std.proofs.Common.{◌≡◌, suc, ◌+◌, slice_get, subst, arith}
use Rattle.std.specs.Prelude.{IfSome, OnOk, Some, None}
use Rattle.outside_io.specs.Causes.{Rose}
use Rattle.page_codec.specs.Bounds.{IsPage}
use Rattle.table_build.specs.Inner.{IsReadyAt, Holds}
use Rattle.table_build.proofs.SealSteps.{keeps_next, holds_where_done, cause_where_failed}
use Rattle.table_build.proofs.FinalPages.{next_told, recorded_untold}
use Rattle.table_build.proofs.finals.seal_final.Goals as goal

pub returns-clause-ready : goal.returns-clause-ready
returns-clause-ready g c =
    let k = 1 + c.args.blocks + c.args.place in
    subst (λ n. OnOk c.seal.result (IsReadyAt n c.seal.new.file)) (let e : suc k ≡ 2 + c.args.blocks + c.args.place = omega arith in e)
    (c.seal.ensures.ready k c.requires.ready)

pub returns-clause-keeps : goal.returns-clause-keeps
returns-clause-keeps g c = λ columns course all are.
    let ring = c.args.ring.now in
    let m = g.R.Ring.modulus ring in
    let value = g.R.Ring.value ring in
    let blocks = c.args.blocks in
    let group = c.args.group.now in
    let made = group.combinations.items in
    let k = 1 + c.args.blocks + c.args.place in
    let old = g.D.Disk.trace c.args.disk.now in
    let now = g.D.Disk.trace c.seal.new.disk in
    let page = c.in-Ok.page in
    let next : IfSome old (λ t. slice_get course.pages k ≡ Some page) = next_told m value columns course blocks group.first c.args.place
    c.args.rows.now.rows made page old all (c.in-Ok.ensures.page columns course) are.recorded in
    keeps_next course.pages k page old now c.seal.ensures.keeps are.holds next

pub returns-clause-holds : goal.returns-clause-holds
returns-clause-holds g c = λ columns course all are.
    let ring = c.args.ring.now in
    let m = g.R.Ring.modulus ring in
    let value = g.R.Ring.value ring in
    let blocks = c.args.blocks in
    let group = c.args.group.now in
    let made = group.combinations.items in
    let k = 1 + c.args.blocks + c.args.place in
    let old = g.D.Disk.trace c.args.disk.now in
    let now = g.D.Disk.trace c.seal.new.disk in
    let page = c.in-Ok.page in
    let next : IfSome old (λ t. slice_get course.pages k ≡ Some page) = next_told m value columns course blocks group.first c.args.place
    c.args.rows.now.rows made page old all (c.in-Ok.ensures.page columns course) are.recorded in
    subst (λ n. OnOk c.seal.result (Holds course.pages n now)) (let e : suc k ≡ 2 + blocks + c.args.place = omega arith in e)
    (holds_where_done course.pages k page old now c.seal.result c.seal.ensures.keeps are.holds c.seal.ensures.holds next)

pub returns-clause-fault : goal.returns-clause-fault
returns-clause-fault g c = λ columns course all are.
    let ring = c.args.ring.now in
    let m = g.R.Ring.modulus ring in
    let value = g.R.Ring.value ring in
    let blocks = c.args.blocks in
    let group = c.args.group.now in
    let made = group.combinations.items in
    let k = 1 + c.args.blocks + c.args.place in
    let old = g.D.Disk.trace c.args.disk.now in
    let page = c.in-Ok.page in
    let next : IfSome old (λ t. slice_get course.pages k ≡ Some page) = next_told m value columns course blocks group.first c.args.place
    c.args.rows.now.rows made page old all (c.in-Ok.ensures.page columns course) are.recorded in
    let rose : Type 0 = Rose (g.D.Disk.faults c.args.disk.now) (g.D.Disk.faults c.seal.new.disk) in
    cause_where_failed rose (¬ (IsPage page)) rose (old ≡ None) c.seal.result (λ r. r)
    (λ isnt. recorded_untold m value columns course group.first k c.args.rows.now.rows made page old are.recorded next isnt) c.seal.ensures.fault
