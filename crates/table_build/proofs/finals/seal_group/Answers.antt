use Rattle.std.proofs.Common.{◌≡◌, ◌+◌, sym, ◌∙◌, subst, arith}
use Rattle.std.specs.Prelude.{OnOk, None}
use Rattle.outside_io.specs.Causes.{Rose}
use Rattle.table_build.specs.Inner.{AreReady, IsReadyAt, Holds, Keeps}
use Rattle.table_build.proofs.SealSteps.{cause_where_failed}
use Rattle.table_build.proofs.FinalSums.{finals_have}
use Rattle.table_build.proofs.FinalPages.{group_ready}
use Rattle.table_build.proofs.finals.seal_group.Goals as goal

pub returns-in-Err-clause-fault : goal.returns-in-Err-clause-fault
returns-in-Err-clause-fault g c = λ columns course all are.
    c.in-Err.ensures.fault columns course all (finals_have (g.R.Ring.modulus c.args.ring.now) (g.R.Ring.value c.args.ring.now) columns course c.args.blocks
    (1 + c.args.blocks + c.args.first) c.args.sealed.now.numbers.items c.args.sealed.now.rows.items c.args.finals.now.rows.rows c.args.finals.now.uses.items
    (g.D.Disk.trace c.args.disk.now) (omega arith) are)

pub returns-clause-ready : goal.returns-clause-ready
returns-clause-ready g c =
    subst (λ n. OnOk c.seal_pages.result (IsReadyAt (1 + c.args.blocks + n) c.seal_pages.new.file)) c.in-Ok.ensures.end c.seal_pages.ensures.ready

pub returns-clause-keeps : goal.returns-clause-keeps
returns-clause-keeps g c = λ columns course all are.
    let ring = c.args.ring.now in
    let m = g.R.Ring.modulus ring in
    let value = g.R.Ring.value ring in
    let blocks = c.args.blocks in
    let k = 1 + c.args.blocks + c.args.first in
    let numbers = c.args.sealed.now.numbers.items in
    let rows = c.args.sealed.now.rows.items in
    let finals = c.args.finals.now.rows.rows in
    let uses = c.args.finals.now.uses.items in
    let group = c.in-Ok.group in
    let made = group.combinations.items in
    let old = g.D.Disk.trace c.args.disk.now in
    let mid = g.D.Disk.trace c.made_group.new.disk in
    let now = g.D.Disk.trace c.seal_pages.new.disk in
    let same : mid ≡ old = c.made_group.ensures.disk in
    let from : c.args.first ≡ group.first = sym c.in-Ok.ensures.first in
    let have = finals_have m value columns course blocks k numbers rows finals uses old (omega arith) are in
    let ready = subst (λ f. AreReady m value columns course (1 + blocks + f) f finals made mid) from
    (group_ready m value columns course k c.args.first numbers rows finals uses made old mid same are
    (c.in-Ok.ensures.recorded columns course all have)) in
    subst (λ o. Keeps course.pages k o now) same
    (subst (λ f. Keeps course.pages (1 + blocks + f) mid now) (sym from) (c.seal_pages.ensures.keeps columns course all ready))

pub returns-clause-holds : goal.returns-clause-holds
returns-clause-holds g c = λ columns course all are.
    let ring = c.args.ring.now in
    let m = g.R.Ring.modulus ring in
    let value = g.R.Ring.value ring in
    let blocks = c.args.blocks in
    let k = 1 + c.args.blocks + c.args.first in
    let numbers = c.args.sealed.now.numbers.items in
    let rows = c.args.sealed.now.rows.items in
    let finals = c.args.finals.now.rows.rows in
    let uses = c.args.finals.now.uses.items in
    let group = c.in-Ok.group in
    let made = group.combinations.items in
    let old = g.D.Disk.trace c.args.disk.now in
    let mid = g.D.Disk.trace c.made_group.new.disk in
    let now = g.D.Disk.trace c.seal_pages.new.disk in
    let same : mid ≡ old = c.made_group.ensures.disk in
    let from : c.args.first ≡ group.first = sym c.in-Ok.ensures.first in
    let have = finals_have m value columns course blocks k numbers rows finals uses old (omega arith) are in
    let ready = subst (λ f. AreReady m value columns course (1 + blocks + f) f finals made mid) from
    (group_ready m value columns course k c.args.first numbers rows finals uses made old mid same are
    (c.in-Ok.ensures.recorded columns course all have)) in
    subst (λ n. OnOk c.seal_pages.result (Holds course.pages (1 + blocks + n) now)) c.in-Ok.ensures.end
    (c.seal_pages.ensures.holds columns course all ready)

pub returns-clause-fault : goal.returns-clause-fault
returns-clause-fault g c = λ columns course all are.
    let ring = c.args.ring.now in
    let m = g.R.Ring.modulus ring in
    let value = g.R.Ring.value ring in
    let blocks = c.args.blocks in
    let k = 1 + c.args.blocks + c.args.first in
    let numbers = c.args.sealed.now.numbers.items in
    let rows = c.args.sealed.now.rows.items in
    let finals = c.args.finals.now.rows.rows in
    let uses = c.args.finals.now.uses.items in
    let group = c.in-Ok.group in
    let made = group.combinations.items in
    let old = g.D.Disk.trace c.args.disk.now in
    let mid = g.D.Disk.trace c.made_group.new.disk in
    let same : mid ≡ old = c.made_group.ensures.disk in
    let from : c.args.first ≡ group.first = sym c.in-Ok.ensures.first in
    let have = finals_have m value columns course blocks k numbers rows finals uses old (omega arith) are in
    let ready = subst (λ f. AreReady m value columns course (1 + blocks + f) f finals made mid) from
    (group_ready m value columns course k c.args.first numbers rows finals uses made old mid same are
    (c.in-Ok.ensures.recorded columns course all have)) in
    let was = g.D.Disk.faults c.args.disk.now in
    let between = g.D.Disk.faults c.made_group.new.disk in
    let after = g.D.Disk.faults c.seal_pages.new.disk in
    cause_where_failed (Rose between after) (mid ≡ None) (Rose was after) (old ≡ None) c.seal_pages.result
    (λ r. omega (arith, r, c.made_group.ensures.faults)) (λ none. sym same ∙ none) (c.seal_pages.ensures.fault columns course all ready)
