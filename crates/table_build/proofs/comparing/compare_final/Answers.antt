use Rattle.std.proofs.Common.{◌≡◌, ◌+◌, subst, arith}
use Rattle.std.specs.Prelude.{IfSome, OnOk, Some, slice_get}
use Rattle.table_build.specs.Inner.{AreFirstUpTo}
use Rattle.table_build.proofs.FinalPages.{next_told}
use Rattle.table_build.proofs.comparing.compare_final.Goals as goal

pub returns-clause-first : goal.returns-clause-first
returns-clause-first g c = λ columns course all recorded first.
    let ring = c.args.ring.now in
    let group = c.args.group.now in
    let old = g.D.Disk.trace c.args.disk.now in
    let k = 1 + c.args.blocks + c.args.place in
    let number = c.from.result + 1 + c.from-2.result in
    let is : k ≡ number = omega (arith, c.from.ensures, c.from-2.ensures) in
    let next = subst (λ x. IfSome old (λ t. slice_get course.pages x ≡ Some c.in-Ok.made)) is (next_told (g.R.Ring.modulus ring) (g.R.Ring.value ring)
    columns course c.args.blocks group.first c.args.place c.args.rows.now.rows group.combinations.items c.in-Ok.made old all
    (c.in-Ok.ensures.page columns course) recorded) in
    let on : 1 + number ≡ 2 + c.args.blocks + c.args.place = omega (arith, is) in
    subst (λ x. OnOk c.compare_page.result (AreFirstUpTo course.pages x old)) on
    (c.compare_page.ensures.first course.pages next (subst (λ x. AreFirstUpTo course.pages x old) is first))

pub returns-clause-fault : goal.returns-clause-fault
returns-clause-fault g c = λ columns course all recorded first.
    let ring = c.args.ring.now in
    let group = c.args.group.now in
    let old = g.D.Disk.trace c.args.disk.now in
    let k = 1 + c.args.blocks + c.args.place in
    let number = c.from.result + 1 + c.from-2.result in
    let is : k ≡ number = omega (arith, c.from.ensures, c.from-2.ensures) in
    let next = subst (λ x. IfSome old (λ t. slice_get course.pages x ≡ Some c.in-Ok.made)) is (next_told (g.R.Ring.modulus ring) (g.R.Ring.value ring)
    columns course c.args.blocks group.first c.args.place c.args.rows.now.rows group.combinations.items c.in-Ok.made old all
    (c.in-Ok.ensures.page columns course) recorded) in
    c.compare_page.ensures.fault course.pages next (subst (λ x. AreFirstUpTo course.pages x old) is first)
