use Rattle.std.proofs.Common.{◌≡◌, ◌+◌, sym, subst}
use Rattle.std.specs.Prelude.{IfSome, OnOk}
use Rattle.outside_io.specs.Causes.{Rose}
use Rattle.file_model.specs.Resuming.{Differs}
use Rattle.table_build.specs.Inner.{AreFirstUpTo, AreRecorded}
use Rattle.table_build.proofs.BuildEndings.{rose_since}
use Rattle.table_build.proofs.Comparisons.{compare_cause, compare_where_failed}
use Rattle.table_build.proofs.comparing.compare_group.Goals as goal

pub returns-in-Err-clause-fault : goal.returns-in-Err-clause-fault
returns-in-Err-clause-fault g c = λ columns course all have first.
    compare_cause (Rose (g.D.Disk.faults c.args.disk.now) (g.D.Disk.faults c.made_group.new.disk)) (g.D.Disk.trace c.args.disk.now)
    (λ i sealed. Differs sealed course.pages i) c.in-Err.fault (c.in-Err.ensures.fault columns course all have)

pub returns-clause-first : goal.returns-clause-first
returns-clause-first g c = λ columns course all have first.
    let ring = c.args.ring.now in
    let m = g.R.Ring.modulus ring in
    let value = g.R.Ring.value ring in
    let blocks = c.args.blocks in
    let finals = c.args.finals.now.rows.rows in
    let group = c.in-Ok.group in
    let made = group.combinations.items in
    let old = g.D.Disk.trace c.args.disk.now in
    let mid = g.D.Disk.trace c.made_group.new.disk in
    let same : mid ≡ old = c.made_group.ensures.disk in
    let from : c.args.first ≡ group.first = sym c.in-Ok.ensures.first in
    let recorded = subst (λ f. IfSome mid (λ t. AreRecorded m value columns course f finals made)) from
    (subst (λ o. IfSome o (λ t. AreRecorded m value columns course c.args.first finals made)) (sym same)
    (c.in-Ok.ensures.recorded columns course all have)) in
    let before = subst (λ f. AreFirstUpTo course.pages (1 + blocks + f) mid) from
    (subst (AreFirstUpTo course.pages (1 + blocks + c.args.first)) (sym same) first) in
    subst (λ o. OnOk c.compare_places.result (AreFirstUpTo course.pages (1 + blocks + c.args.end) o)) same
    (subst (λ n. OnOk c.compare_places.result (AreFirstUpTo course.pages (1 + blocks + n) mid)) c.in-Ok.ensures.end
    (c.compare_places.ensures.first columns course all recorded before))

pub returns-clause-fault : goal.returns-clause-fault
returns-clause-fault g c = λ columns course all have first.
    let ring = c.args.ring.now in
    let m = g.R.Ring.modulus ring in
    let value = g.R.Ring.value ring in
    let blocks = c.args.blocks in
    let finals = c.args.finals.now.rows.rows in
    let group = c.in-Ok.group in
    let made = group.combinations.items in
    let old = g.D.Disk.trace c.args.disk.now in
    let mid = g.D.Disk.trace c.made_group.new.disk in
    let same : mid ≡ old = c.made_group.ensures.disk in
    let from : c.args.first ≡ group.first = sym c.in-Ok.ensures.first in
    let recorded = subst (λ f. IfSome mid (λ t. AreRecorded m value columns course f finals made)) from
    (subst (λ o. IfSome o (λ t. AreRecorded m value columns course c.args.first finals made)) (sym same)
    (c.in-Ok.ensures.recorded columns course all have)) in
    let before = subst (λ f. AreFirstUpTo course.pages (1 + blocks + f) mid) from
    (subst (AreFirstUpTo course.pages (1 + blocks + c.args.first)) (sym same) first) in
    let a = g.D.Disk.faults c.args.disk.now in
    let b = g.D.Disk.faults c.made_group.new.disk in
    let d = g.D.Disk.faults c.compare_places.new.disk in
    compare_where_failed (Rose b d) (Rose a d) mid old (λ i sealed. Differs sealed course.pages i) c.compare_places.result
    (rose_since a b d c.made_group.ensures.faults) same (c.compare_places.ensures.fault columns course all recorded before)
