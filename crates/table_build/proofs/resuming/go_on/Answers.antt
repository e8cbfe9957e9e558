use Rattle.std.proofs.Common.{◌≡◌, ◌+◌, ◌-◌, ◌/◌, ◌<◌, max, arith}
use Rattle.std.specs.Prelude.{None}
use Rattle.outside_io.specs.Causes.{Rose}
use Rattle.page_file.specs.Notes.{count_of as page_count}
use Rattle.table_model.specs.ListedSpan.{count_of}
use Rattle.table_model.specs.ReducedRows.{BreaksFirst}
use Rattle.table_build.specs.Inner.{Holds, IsAt}
use Rattle.table_build.proofs.BuildEndings.{rose_since}
use Rattle.table_build.proofs.CauseSteps.{cause_more}
use Rattle.table_build.proofs.Keepings.{keeps_then, keeps_untold}
use Rattle.table_build.proofs.Resumings.{started_at}
use Rattle.table_build.proofs.resuming.go_on.Goals as goal

pub returns-in-Ok-clause-keeps : goal.returns-in-Ok-clause-keeps
returns-in-Ok-clause-keeps g c = λ course started.
    let t = c.args.offering.now.table in
    let m = g.R.Ring.modulus t.ring in
    let value = g.R.Ring.value t.ring in
    let k = page_count c.args.file.now in
    let first = c.count.result - 1 in
    let old = g.D.Disk.trace c.args.disk.now in
    let mid = g.D.Disk.trace c.begin_again.new.disk in
    let now = g.D.Disk.trace c.work.new.disk in
    let ready = c.in_default.ensures.ready in
    let same : first ≡ k - 1 = omega (arith, c.count.ensures, ready.count) in
    let next : max 1 k ≡ 1 + first = omega (arith, same) in
    let at : IsAt m value t.columns course first c.args.kept.numbers.items c.args.kept.rows.items mid =
    started_at m value t.columns c.args.params.now course (k - 1) first (max 1 k) c.args.kept.numbers.items c.args.kept.rows.items old mid started same next
    (c.in_default.ensures.holds course.pages started.header started.first) in
    keeps_then course.pages k (1 + first) old mid now (omega (arith, same))
    (c.begin_again.ensures.keeps course.pages started.header started.first) (c.work.ensures.keeps course at)

pub returns-in-Err-work-clause-keeps : goal.returns-in-Err-work-clause-keeps
returns-in-Err-work-clause-keeps g c = λ course started.
    let t = c.args.offering.now.table in
    let m = g.R.Ring.modulus t.ring in
    let value = g.R.Ring.value t.ring in
    let k = page_count c.args.file.now in
    let first = c.count.result - 1 in
    let old = g.D.Disk.trace c.args.disk.now in
    let mid = g.D.Disk.trace c.begin_again.new.disk in
    let now = g.D.Disk.trace c.work.new.disk in
    let ready = c.in_default.ensures.ready in
    let same : first ≡ k - 1 = omega (arith, c.count.ensures, ready.count) in
    let next : max 1 k ≡ 1 + first = omega (arith, same) in
    let at : IsAt m value t.columns course first c.args.kept.numbers.items c.args.kept.rows.items mid =
    started_at m value t.columns c.args.params.now course (k - 1) first (max 1 k) c.args.kept.numbers.items c.args.kept.rows.items old mid started same next
    (c.in_default.ensures.holds course.pages started.header started.first) in
    keeps_then course.pages k (1 + first) old mid now (omega (arith, same))
    (c.begin_again.ensures.keeps course.pages started.header started.first) (c.work.ensures.keeps course at)

pub returns-in-Ok-clause-end : goal.returns-in-Ok-clause-end
returns-in-Ok-clause-end g c = λ course started.
    let t = c.args.offering.now.table in
    let m = g.R.Ring.modulus t.ring in
    let value = g.R.Ring.value t.ring in
    let k = page_count c.args.file.now in
    let first = c.count.result - 1 in
    let old = g.D.Disk.trace c.args.disk.now in
    let mid = g.D.Disk.trace c.begin_again.new.disk in
    let now = g.D.Disk.trace c.work.new.disk in
    let ready = c.in_default.ensures.ready in
    let same : first ≡ k - 1 = omega (arith, c.count.ensures, ready.count) in
    let next : max 1 k ≡ 1 + first = omega (arith, same) in
    let at : IsAt m value t.columns course first c.args.kept.numbers.items c.args.kept.rows.items mid =
    started_at m value t.columns c.args.params.now course (k - 1) first (max 1 k) c.args.kept.numbers.items c.args.kept.rows.items old mid started same next
    (c.in_default.ensures.holds course.pages started.header started.first) in
    let end = c.in-Ok.ensures.end course at in
    (end, let done = c.in-Ok.ensures.ready in omega (arith, done.count, c.count-in-Ok.ensures, end.pages))

pub returns-in-Err-work-clause-fault : goal.returns-in-Err-work-clause-fault
returns-in-Err-work-clause-fault g c = λ course started.
    let t = c.args.offering.now.table in
    let m = g.R.Ring.modulus t.ring in
    let value = g.R.Ring.value t.ring in
    let k = page_count c.args.file.now in
    let first = c.count.result - 1 in
    let old = g.D.Disk.trace c.args.disk.now in
    let mid = g.D.Disk.trace c.begin_again.new.disk in
    let now = g.D.Disk.trace c.work.new.disk in
    let ready = c.in_default.ensures.ready in
    let same : first ≡ k - 1 = omega (arith, c.count.ensures, ready.count) in
    let next : max 1 k ≡ 1 + first = omega (arith, same) in
    let at : IsAt m value t.columns course first c.args.kept.numbers.items c.args.kept.rows.items mid =
    started_at m value t.columns c.args.params.now course (k - 1) first (max 1 k) c.args.kept.numbers.items c.args.kept.rows.items old mid started same next
    (c.in_default.ensures.holds course.pages started.header started.first) in
    let a = g.D.Disk.faults c.args.disk.now in
    let b = g.D.Disk.faults c.begin_again.new.disk in
    let d = g.D.Disk.faults c.work.new.disk in
    let keeps = c.begin_again.ensures.keeps course.pages started.header started.first in
    cause_more (Rose b d) (mid ≡ None) (Rose a d) (old ≡ None)
    (λ residue n. (n < count_of t.columns) × BreaksFirst m t.columns course.work.sums n residue × Holds course.pages (1 + n / 64) now)
    (λ residue n. (n < count_of t.columns) × BreaksFirst m t.columns course.work.sums n residue × Holds course.pages (1 + n / 64) now)
    (rose_since a b d c.begin_again.ensures.faults) (keeps_untold course.pages k old mid keeps) (λ residue n h. h)
    c.in-Err-work.fault (c.in-Err-work.ensures.fault course at)
