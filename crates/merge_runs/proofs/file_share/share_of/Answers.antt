use Rattle.std.proofs.Common.{Err, ap}
use Rattle.merge_runs.proofs.ReadFiles.{too_long}
use Rattle.merge_runs.proofs.file_share.share_of.Goals as goal

pub returns-in-Err-TooLong-clause-read : goal.returns-in-Err-TooLong-clause-read
returns-in-Err-TooLong-clause-read g c =
    let n = c.in-Err-TooLong.field-0-0 in
    let told = c.in-Err-TooLong.ensures.too_long n (ap Err c.in-Err-TooLong.field-0-is) in
    too_long (g.D.Disk.trace c.args.disk.now) n told.0 told.1
