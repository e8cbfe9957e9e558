use Rattle.std.proofs.Common.{Ok, List, ℕ, map, string_bytes, inl, inr, refl, subst}
use Rattle.merge_program.specs.ShareRuns.{Ends}
use Rattle.merge_runs.specs.Runs.{ends}
use Rattle.merge_runs.proofs.RunEndings.{ran, broke_off}
use Rattle.merge_runs.proofs.ending.merge_files.Goals as goal

pub returns-in-Ok-clause-outcome : goal.returns-in-Ok-clause-outcome
returns-in-Ok-clause-outcome g c =
    let ending = c.in-Ok.ending in
    let taken = g.K.Sink.taken c.args.sink.now in
    let taken_new = g.K.Sink.taken c.write_and_end.new.sink in
    let faults = g.K.Sink.faults c.args.sink.now in
    let faults_new = g.K.Sink.faults c.write_and_end.new.sink in
    let result = c.write_and_end.result in
    ran taken taken_new faults faults_new result (map g.D.Disk.trace c.args.disks.now) (Ok c.args.merge.now) (ends (string_bytes ending.text) ending.status) c.in-Ok.ensures.ok
    (subst (λ (bytes : List ℕ). Ends bytes ending.status taken taken_new faults faults_new result) c.as_bytes.ensures.value c.write_and_end.ensures)

pub returns-in-Err-DiskFault-clause-outcome : goal.returns-in-Err-DiskFault-clause-outcome
returns-in-Err-DiskFault-clause-outcome g c = broke_off _ _ _ _ _ (map g.D.Disk.trace c.args.disks.now) (Ok c.args.merge.now) (inr refl) refl

pub returns-in-Err-Memory-clause-outcome : goal.returns-in-Err-Memory-clause-outcome
returns-in-Err-Memory-clause-outcome g c = broke_off _ _ _ _ _ (map g.D.Disk.trace c.args.disks.now) (Ok c.args.merge.now) (inl refl) refl
