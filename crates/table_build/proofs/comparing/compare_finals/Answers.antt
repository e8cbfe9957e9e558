use Rattle.std.proofs.Common.{◌≡◌, ◌+◌, sym, ◌∙◌, subst, ap, arith}
use Rattle.std.specs.Prelude.{IfSome}
use Rattle.outside_io.specs.Causes.{Rose}
use Rattle.page_file.specs.Notes.{Notes, Suits, count_of as page_count}
use Rattle.file_model.specs.Resuming.{Differs}
use Rattle.table_build.specs.Inner.{AreFirstUpTo, HaveFinals}
use Rattle.table_build.proofs.BuildEndings.{rose_since}
use Rattle.table_build.proofs.Comparisons.{compare_on}
use Rattle.table_build.proofs.comparing.compare_finals.Goals as goal

pub returns-in-Err-clause-fault : goal.returns-in-Err-clause-fault
returns-in-Err-clause-fault g c = λ columns course all have first.
    let told = g.D.Disk.trace c.args.disk.now in
    let mid = g.D.Disk.trace c.loop-place.disk in
    let was = c.loop-place.invariant in
    let a = g.D.Disk.faults c.args.disk.now in
    let b = g.D.Disk.faults c.loop-place.disk in
    let d = g.D.Disk.faults c.compare_group.new.disk in
    compare_on (Rose b d) (Rose a d) mid told (λ i sealed. Differs sealed course.pages i) c.in-Err.fault (rose_since a b d was.faults) was.disk
    (c.in-Err.ensures.fault columns course all
    (subst (λ o. HaveFinals (g.R.Ring.modulus c.args.ring.now) (g.R.Ring.value c.args.ring.now) columns course c.args.blocks
    c.args.kept.now.numbers.items c.args.kept.now.rows.items c.args.finals.now.rows.rows c.args.finals.now.uses.items o) (sym was.disk) have)
    (subst (AreFirstUpTo course.pages (1 + c.args.blocks + c.loop-place.place)) (sym was.disk) (was.first columns course all have first)))

pub loop-place-preserved : goal.loop-place-preserved
loop-place-preserved g c =
    let told = g.D.Disk.trace c.args.disk.now in
    let mid = g.D.Disk.trace c.loop-place.disk in
    let was = c.loop-place.invariant in
    let now = g.D.Disk.trace c.compare_group.new.disk in
    let same : c.compare_group.new.file ≡ c.args.file.now = c.compare_group.ensures.same ∙ was.same in
    let disk : now ≡ told = c.compare_group.ensures.disk ∙ was.disk in
    record {
      within = omega (arith, c.min.ensures, was.within);
      live = ap (λ (n : Notes). n.is_live) same ∙ c.requires.live;
      suits = subst (λ n. IfSome now (λ t. Suits n t.now.contents)) (sym same)
          (subst (λ o. IfSome o (λ t. Suits c.args.file.now t.now.contents)) (sym disk) c.requires.suits);
      count = ap page_count same;
      same = same;
      disk = disk;
      first = λ columns course all have first.
          subst (AreFirstUpTo course.pages (1 + c.args.blocks + (c.loop-place.place + c.min.result))) was.disk
          (c.in_default.ensures.first columns course all
          (subst (λ o. HaveFinals (g.R.Ring.modulus c.args.ring.now) (g.R.Ring.value c.args.ring.now) columns course c.args.blocks
          c.args.kept.now.numbers.items c.args.kept.now.rows.items c.args.finals.now.rows.rows c.args.finals.now.uses.items o) (sym was.disk) have)
          (subst (AreFirstUpTo course.pages (1 + c.args.blocks + c.loop-place.place)) (sym was.disk) (was.first columns course all have first)));
      faults = omega (arith, was.faults, c.compare_group.ensures.faults);
    }

pub returns-clause-first : goal.returns-clause-first
returns-clause-first g c = λ columns course all have first.
    let e : c.loop-place.place ≡ c.args.end = omega (arith, c.loop-place-test.false, c.loop-place.invariant.within) in
    subst (λ n. AreFirstUpTo course.pages (1 + c.args.blocks + n) (g.D.Disk.trace c.args.disk.now)) e
    (c.loop-place.invariant.first columns course all have first)
