use Rattle.std.proofs.Common.{◌≡◌, ◌<◌, ◌≤◌, length, map, get_or, sym, subst, arith}
use Rattle.std.proofs.lemmas.List.{length-map, map-set, get_or-map}
use Rattle.std.proofs.Math.Seq.{map-set_same}
use Rattle.outside_io.specs.Causes.{Rose}
use Rattle.merge_runs.specs.Disks.{NoneFell, AnyRose}
use Rattle.merge_runs.proofs.ManyDisks.{one_later, one_rose}
use Rattle.merge_runs.proofs.taking.take_at.Goals as goal

pub returns-clause-disk_fault : goal.returns-clause-disk_fault
returns-clause-disk_fault g c = λ is.
    let f = g.D.Disk.faults in
    let disks = c.args.disks.now in
    let k = c.args.k in
    let one = c.index-disks-k.result in
    let inside : k < length (map f disks) = omega (arith, c.requires, length-map disks f) in
    let at : get_or (map f disks) k 0 ≡ f (get_or disks k one) = get_or-map f disks k one 0 c.requires in
    subst (AnyRose (map f disks)) (sym (map-set f disks k c.take_file.new.disk))
    (one_rose (map f disks) k (f c.take_file.new.disk) inside
    (subst (λ v. Rose v (f c.take_file.new.disk)) (sym at) (c.take_file.ensures.disk_fault is)))

pub returns-clause-same : goal.returns-clause-same
returns-clause-same g c =
    map-set_same g.D.Disk.trace c.args.disks.now c.args.k c.take_file.new.disk c.index-disks-k.result
    c.take_file.ensures.same

pub returns-clause-faults : goal.returns-clause-faults
returns-clause-faults g c =
    let f = g.D.Disk.faults in
    let disks = c.args.disks.now in
    let k = c.args.k in
    let one = c.index-disks-k.result in
    let inside : k < length (map f disks) = omega (arith, c.requires, length-map disks f) in
    let at : get_or (map f disks) k 0 ≡ f (get_or disks k one) = get_or-map f disks k one 0 c.requires in
    subst (NoneFell (map f disks)) (sym (map-set f disks k c.take_file.new.disk))
    (one_later (map f disks) k (f c.take_file.new.disk) inside (subst (λ v. v ≤ f c.take_file.new.disk) (sym at) c.take_file.ensures.faults))
