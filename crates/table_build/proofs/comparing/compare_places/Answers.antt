use Rattle.std.proofs.Common.{◌≡◌, ◌+◌, sym, ◌∙◌, subst, ap, arith}
use Rattle.std.specs.Prelude.{IfSome}
use Rattle.outside_io.specs.Causes.{Rose}
use Rattle.page_file.specs.Notes.{Notes, Suits, count_of as page_count}
use Rattle.file_model.specs.Resuming.{Differs}
use Rattle.table_build.specs.Inner.{AreFirstUpTo, AreRecorded}
use Rattle.table_build.proofs.BuildEndings.{rose_since}
use Rattle.table_build.proofs.Comparisons.{compare_on}
use Rattle.table_build.proofs.comparing.compare_places.Goals as goal

pub returns-in-Err-clause-fault : goal.returns-in-Err-clause-fault
returns-in-Err-clause-fault g c = λ columns course all have first.
    let told = g.D.Disk.trace c.args.disk.now in
    let mid = g.D.Disk.trace c.loop-place.disk in
    let was = c.loop-place.invariant in
    let a = g.D.Disk.faults c.args.disk.now in
    let b = g.D.Disk.faults c.loop-place.disk in
    let d = g.D.Disk.faults c.compare_final.new.disk in
    compare_on (Rose b d) (Rose a d) mid told (λ i sealed. Differs sealed course.pages i) c.in-Err.fault (rose_since a b d was.faults) was.disk
    (c.in-Err.ensures.fault columns course all
    (subst (λ o. IfSome o (λ t. AreRecorded (g.R.Ring.modulus c.args.ring.now) (g.R.Ring.value c.args.ring.now) columns course
    c.args.group.now.first c.args.rows.now.rows c.args.group.now.combinations.items)) (sym was.disk) have)
    (subst (AreFirstUpTo course.pages (1 + c.args.blocks + c.loop-place.place)) (sym was.disk) (was.first columns course all have first)))

pub loop-place-preserved : goal.loop-place-preserved
loop-place-preserved g c =
    let told = g.D.Disk.trace c.args.disk.now in
    let mid = g.D.Disk.trace c.loop-place.disk in
    let was = c.loop-place.invariant in
    let now = g.D.Disk.trace c.compare_final.new.disk in
    let same : c.compare_final.new.file ≡ c.args.file.now = c.compare_final.ensures.same ∙ was.same in
    let disk : now ≡ told = c.compare_final.ensures.disk ∙ was.disk in
    record {
      live = ap (λ (n : Notes). n.is_live) same ∙ c.requires.live;
      suits = subst (λ n. IfSome now (λ t. Suits n t.now.contents)) (sym same)
          (subst (λ o. IfSome o (λ t. Suits c.args.file.now t.now.contents)) (sym disk) c.requires.suits);
      count = ap page_count same;
      same = same;
      disk = disk;
      first = λ columns course all have first.
          subst (λ x. AreFirstUpTo course.pages x told)
          (let e : 2 + c.args.blocks + c.loop-place.place ≡ 1 + c.args.blocks + (c.loop-place.place + 1) = omega arith in e)
          (subst (AreFirstUpTo course.pages (2 + c.args.blocks + c.loop-place.place)) was.disk
          (c.in_default.ensures.first columns course all
          (subst (λ o. IfSome o (λ t. AreRecorded (g.R.Ring.modulus c.args.ring.now) (g.R.Ring.value c.args.ring.now) columns course
          c.args.group.now.first c.args.rows.now.rows c.args.group.now.combinations.items)) (sym was.disk) have)
          (subst (AreFirstUpTo course.pages (1 + c.args.blocks + c.loop-place.place)) (sym was.disk) (was.first columns course all have first))));
      faults = omega (arith, was.faults, c.compare_final.ensures.faults);
    }

pub returns-clause-first : goal.returns-clause-first
returns-clause-first g c = λ columns course all have first.
    let e : c.loop-place.place ≡ c.args.group.now.end = omega (arith, c.loop-place-test.false, c.loop-place.auto.place-end, c.requires.order) in
    subst (λ n. AreFirstUpTo course.pages (1 + c.args.blocks + n) (g.D.Disk.trace c.args.disk.now)) e
    (c.loop-place.invariant.first columns course all have first)
