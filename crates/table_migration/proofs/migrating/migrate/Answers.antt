use Rattle.std.proofs.Common.{[], subst, arith}
use Rattle.table_migration.specs.Migrations.{Climbs}
use Rattle.table_migration.specs.Answers.{answer_of}
use Rattle.table_migration.proofs.Outcomes.{outcome, begun_moments, outcome_moments, outcome_left, outcome_file, outcome_unread, told_empty}
use Rattle.table_migration.proofs.migrating.migrate.Goals as goal

pub returns-in_err-file-clause-moments : goal.returns-in_err-file-clause-moments
returns-in_err-file-clause-moments g c =
    let now = g.D.Disk.trace c.begin.new.disk in
    begun_moments (g.S.Source.left c.args.source.now) (g.D.Disk.trace c.args.disk.now) now
    (subst (λ o. Climbs [] o now) c.len.ensures.same c.begin.ensures.keeps)

pub returns-clause-left : goal.returns-clause-left
returns-clause-left g c =
    let first = g.S.Source.left c.args.source.now in
    let start = g.D.Disk.trace c.args.disk.now in
    let mid = g.D.Disk.trace c.begin.new.disk in
    let new = g.D.Disk.trace c.copy_pages.new.disk in
    let begun = subst (λ o. Climbs [] o mid) c.len.ensures.same c.begin.ensures.keeps in
    let out = outcome first (g.S.Source.left c.copy_pages.new.source) start mid new c.copy_pages.new.file c.copy_pages.result begun c.copy_pages.ensures.ok
    c.copy_pages.ensures.stopped in
    outcome_left first start new (answer_of c.copy_pages.result) out

pub returns-clause-moments : goal.returns-clause-moments
returns-clause-moments g c =
    let first = g.S.Source.left c.args.source.now in
    let start = g.D.Disk.trace c.args.disk.now in
    let mid = g.D.Disk.trace c.begin.new.disk in
    let new = g.D.Disk.trace c.copy_pages.new.disk in
    let begun = subst (λ o. Climbs [] o mid) c.len.ensures.same c.begin.ensures.keeps in
    let out = outcome first (g.S.Source.left c.copy_pages.new.source) start mid new c.copy_pages.new.file c.copy_pages.result begun c.copy_pages.ensures.ok
    c.copy_pages.ensures.stopped in
    outcome_moments first start new (answer_of c.copy_pages.result) out

pub returns-clause-file : goal.returns-clause-file
returns-clause-file g c =
    let first = g.S.Source.left c.args.source.now in
    let start = g.D.Disk.trace c.args.disk.now in
    let mid = g.D.Disk.trace c.begin.new.disk in
    let new = g.D.Disk.trace c.copy_pages.new.disk in
    let begun = subst (λ o. Climbs [] o mid) c.len.ensures.same c.begin.ensures.keeps in
    let out = outcome first (g.S.Source.left c.copy_pages.new.source) start mid new c.copy_pages.new.file c.copy_pages.result begun c.copy_pages.ensures.ok
    c.copy_pages.ensures.stopped in
    outcome_file first start new c.copy_pages.result out

pub returns-clause-begun : goal.returns-clause-begun
returns-clause-begun g c = λ _.
    told_empty (g.D.Disk.trace c.args.disk.now) c.in-Ok.len (omega (arith, c.if-len-gt0.false)) c.in-Ok.ensures.length

pub returns-clause-unread : goal.returns-clause-unread
returns-clause-unread g c =
    outcome_unread (g.S.Source.left c.args.source.now) (g.S.Source.left c.copy_pages.new.source) (g.D.Disk.trace c.begin.new.disk)
    (g.D.Disk.trace c.copy_pages.new.disk) c.copy_pages.new.file c.copy_pages.result c.copy_pages.ensures.ok
