use Rattle.std.proofs.Common.{◌≡◌, ◌<◌, length, map, take, get_or, None, refl, ap, subst, ◌∙◌, Err, arith}
use Rattle.std.proofs.lemmas.List.{length-map}
use Rattle.std.proofs.Math.Seq.{take-length}
use Rattle.merge_runs.specs.Inner.{TakesFile, RefusesFile, HasTaken, HasRefused}
use Rattle.merge_runs.proofs.ManyDisks.{none_fell, none_fell_since}
use Rattle.merge_runs.proofs.Deliveries.{none_taken, more_taken, not_taken}
use Rattle.merge_runs.proofs.taking.take_files.Goals as goal

pub loop-k-init : goal.loop-k-init
loop-k-init g c = record {
  taken = λ merge table stands. none_taken g.R.Ring.value merge table (map g.D.Disk.trace c.args.disks.now) c.args.coordinator.now stands;
  same = refl;
  faults = none_fell (map g.D.Disk.faults c.args.disks.now);
}

pub loop-k-preserved : goal.loop-k-preserved
loop-k-preserved g c =
    let told = map g.D.Disk.trace c.args.disks.now in
    let k = c.loop-k.k in
    let inside : k < length told = omega (arith, c.loop-k-test.true, length-map c.args.disks.now g.D.Disk.trace) in
    let faults = g.D.Disk.faults in
    record {
      taken = λ merge table stands.
          more_taken g.R.Ring.value merge table told k c.loop-k.coordinator c.take_at.new.coordinator inside
          (c.loop-k.invariant.taken merge table stands)
          (subst (λ ts. TakesFile g.R.Ring.value (get_or ts k None) c.loop-k.coordinator c.take_at.new.coordinator) c.loop-k.invariant.same
          c.in-Ok.ensures.ok);
      same = c.in-Ok.ensures.same ∙ c.loop-k.invariant.same;
      faults = none_fell_since (map faults c.args.disks.now) (map faults c.loop-k.disks) (map faults c.take_at.new.disks) c.loop-k.invariant.faults
          c.in-Ok.ensures.faults;
    }

pub returns-in-Err-NotAShare-clause-refused : goal.returns-in-Err-NotAShare-clause-refused
returns-in-Err-NotAShare-clause-refused g c = λ file why is merge table stands.
    let told = map g.D.Disk.trace c.args.disks.now in
    let k = c.loop-k.k in
    let inside : k < length told = omega (arith, c.loop-k-test.true, length-map c.args.disks.now g.D.Disk.trace) in
    let first = c.in-Err-NotAShare.why in
    let same : first ≡ why = cc in
    let at : k ≡ file = cc in
    subst (λ n. HasRefused merge told n why) at
    (subst (HasRefused merge told k) same
    (not_taken g.R.Ring.value merge table told k first c.loop-k.coordinator inside (c.loop-k.invariant.taken merge table stands)
    (subst (λ ts. RefusesFile g.R.Ring.value (get_or ts k None) c.loop-k.coordinator first) c.loop-k.invariant.same
    (c.in-Err-NotAShare.ensures.refused first (ap Err c.in-Err-NotAShare.field-0-is)))))

pub returns-clause-ok : goal.returns-clause-ok
returns-clause-ok g c = λ merge table stands.
    let told = map g.D.Disk.trace c.args.disks.now in
    let all : c.loop-k.k ≡ length told = omega (arith, c.loop-k-test.false, c.loop-k.auto.k-end, length-map c.args.disks.now g.D.Disk.trace) in
    subst (λ ts. HasTaken g.R.Ring.value merge table ts c.loop-k.coordinator) (ap (λ n. take n told) all ∙ take-length told)
    (c.loop-k.invariant.taken merge table stands)
