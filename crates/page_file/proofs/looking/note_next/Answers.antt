use Rattle.std.proofs.Common.{◌≡◌, drop}
use Rattle.std.specs.Prelude.{IfSome}
use Rattle.page_file.specs.Files.{IsBadPage}
use Rattle.page_file.specs.Inner.{IsUnread}
use Rattle.page_file.proofs.Fronts.{explain_more}
use Rattle.page_file.proofs.Steps.{noted_on, reads_at, bad_at}
use Rattle.page_file.proofs.looking.note_next.Goals as goal

pub returns-in-Err-clause-err : goal.returns-in-Err-clause-err
returns-in-Err-clause-err g c =
    explain_more c.in-Err.fault _ _ (λ n. ⊥) (λ i. (i ≡ c.count.result) × IfSome (g.D.Disk.trace c.args.disk.now) (λ t. IsUnread (drop c.end.result t.now.contents)))
    (λ i. IfSome (g.D.Disk.trace c.args.disk.now) (λ t. IsBadPage i t.now.contents)) (λ rose. rose)
    (bad_at (g.D.Disk.trace c.args.disk.now) c.args.len c.args.file.now c.args.window.now c.end.result c.end.ensures c.requires.told c.count.result c.count.ensures)
    c.in-Err.ensures.err

pub returns-in_default-clause-done : goal.returns-in_default-clause-done
returns-in_default-clause-done g c = λ _.
    reads_at (g.D.Disk.trace c.args.disk.now) c.args.len c.args.file.now c.args.window.now c.end.result c.end.ensures c.requires.told
    (rw c.in_default.is at c.in-Ok.ensures.stops)

pub returns-clause-told : goal.returns-clause-told
returns-clause-told g c =
    noted_on (g.D.Disk.trace c.args.disk.now) c.args.len c.args.file.now c.args.window.now c.end.result c.end.ensures c.requires.told c.note.new.self
    c.next.new.window c.pass.new.self c.in-Some.page c.in-Some.size c.in_ok-note.ensures.ok c.pass.ensures c.in-Ok.ensures.told
    (rw c.in-Some.is at c.in-Ok.ensures.found)
