use Rattle.std.proofs.Common.{◌≡◌, ◌+◌, ◌*◌, ◌/◌, ◌<◌, refl, ◌∙◌, subst, arith}
use Rattle.std.specs.Prelude.{None}
use Rattle.outside_io.specs.Causes.{Rose}
use Rattle.lyndon_polys.specs.Tables.{RingTable}
use Rattle.table_model.specs.ListedSpan.{count_of}
use Rattle.table_model.specs.ReducedRows.{BreaksFirst}
use Rattle.known_sums.specs.Known.{Knows}
use Rattle.table_build.specs.Faults.{HasCauseIn}
use Rattle.table_build.specs.Inner.{CanOffer, AreRows, IsAt, IsReadyAt, Holds, Keeps}
use Rattle.table_build.proofs.BuildEndings.{rose_since}
use Rattle.table_build.proofs.Keepings.{keeps_same, keeps_then, keeps_untold}
use Rattle.table_build.proofs.CauseSteps.{cause_more}
use Rattle.table_build.proofs.building.work_on_blocks.Goals as goal

pub loop-number-init : goal.loop-number-init
loop-number-init g c =
    let trace = g.D.Disk.trace c.args.disk.now in
    record {
      can = c.requires.can;
      known = c.requires.known;
      table = refl;
      names = refl;
      numbers = c.requires.numbers;
      same_rows = c.requires.same_rows;
      rows = c.requires.rows;
      ready = c.requires.ready;
      suits = c.requires.suits;
      keeps = λ course at. keeps_same course.pages (1 + c.args.first) trace trace refl;
      at = λ course at. at;
      untold = λ none. none;
      faults = omega arith;
    }

pub loop-number-preserved : goal.loop-number-preserved
loop-number-preserved g c =
    let t = c.args.offering.now.table in
    let was = c.loop-number.offering in
    let old = c.loop-number.sealed in
    let kept = c.loop-number.invariant in
    let number = c.loop-number.number in
    let told = c.in_default.ensures in
    let o = c.work_on_block.new.offering in
    let s = c.work_on_block.new.sealed in
    let first = g.D.Disk.trace c.args.disk.now in
    let mid = g.D.Disk.trace c.loop-number.disk in
    let now = g.D.Disk.trace c.work_on_block.new.disk in
    let same : was.table ≡ t = kept.table in
    let step : 1 + number ≡ number + 1 = omega arith in
    record {
      can = subst (λ k. CanOffer o.table o.names.items o.kept.ring o.echelon (64 * k)) step told.can;
      known = subst (λ (x : RingTable g.row.R.Denot). Knows (g.R.Ring.modulus x.ring) (g.R.Ring.has x.ring) (g.R.Ring.value x.ring) x o.echelon.rows
          c.work_on_block.new.known) same told.known;
      table = told.table ∙ same;
      names = told.names ∙ kept.names;
      numbers = told.numbers;
      same_rows = told.same_rows;
      rows = subst (λ k. AreRows (g.R.Ring.has t.ring) (64 * k) s.numbers.items s.rows.items) step
          (subst (λ (x : RingTable g.row.R.Denot). AreRows (g.R.Ring.has x.ring) (64 * (1 + number)) s.numbers.items s.rows.items) same told.rows);
      ready = subst (λ k. IsReadyAt k c.work_on_block.new.file) (let z : 2 + number ≡ 1 + (number + 1) = omega arith in z) told.ready;
      suits = told.suits;
      keeps = λ course at. keeps_then course.pages (1 + c.args.first) (1 + number) first mid now (omega (arith, c.loop-number.auto.number))
          (kept.keeps course at)
          (subst (λ (x : RingTable g.row.R.Denot). IsAt (g.R.Ring.modulus x.ring)
          (g.R.Ring.value x.ring) x.columns course number old.numbers.items old.rows.items mid
          → Keeps course.pages (1 + number) mid now) same (told.keeps course) (kept.at course at));
      at = λ course at. subst (λ k. IsAt (g.R.Ring.modulus t.ring) (g.R.Ring.value t.ring) t.columns course k s.numbers.items s.rows.items now) step
          (subst (λ (x : RingTable g.row.R.Denot). IsAt (g.R.Ring.modulus x.ring)
          (g.R.Ring.value x.ring) x.columns course number old.numbers.items old.rows.items mid
          → IsAt (g.R.Ring.modulus x.ring) (g.R.Ring.value x.ring) x.columns course (1 + number) s.numbers.items s.rows.items now) same (told.at course)
          (kept.at course at));
      untold = λ none. c.work_on_block.ensures.untold (kept.untold none);
      faults = omega (arith, kept.faults, told.faults);
    }

pub returns-in-Err-clause-keeps : goal.returns-in-Err-clause-keeps
returns-in-Err-clause-keeps g c = λ course at.
    let was = c.loop-number.offering in
    let old = c.loop-number.sealed in
    let kept = c.loop-number.invariant in
    let number = c.loop-number.number in
    let first = g.D.Disk.trace c.args.disk.now in
    let mid = g.D.Disk.trace c.loop-number.disk in
    let now = g.D.Disk.trace c.work_on_block.new.disk in
    keeps_then course.pages (1 + c.args.first) (1 + number) first mid now (omega (arith, c.loop-number.auto.number)) (kept.keeps course at)
    (subst (λ (x : RingTable g.row.R.Denot). IsAt (g.R.Ring.modulus x.ring) (g.R.Ring.value x.ring) x.columns course number old.numbers.items
    old.rows.items mid
    → Keeps course.pages (1 + number) mid now) kept.table (c.in-Err.ensures.keeps course) (kept.at course at))

pub returns-in-Err-clause-fault : goal.returns-in-Err-clause-fault
returns-in-Err-clause-fault g c = λ course at.
    let t = c.args.offering.now.table in
    let old = c.loop-number.sealed in
    let kept = c.loop-number.invariant in
    let number = c.loop-number.number in
    let first = g.D.Disk.trace c.args.disk.now in
    let mid = g.D.Disk.trace c.loop-number.disk in
    let now = g.D.Disk.trace c.work_on_block.new.disk in
    let a = g.D.Disk.faults c.args.disk.now in
    let b = g.D.Disk.faults c.loop-number.disk in
    let d = g.D.Disk.faults c.work_on_block.new.disk in
    let m = g.R.Ring.modulus t.ring in
    cause_more (Rose b d) (mid ≡ None) (Rose a d) (first ≡ None)
    (λ residue n. (n < count_of t.columns) × BreaksFirst m t.columns course.work.sums n residue × Holds course.pages (1 + n / 64) now)
    (λ residue n. (n < count_of t.columns) × BreaksFirst m t.columns course.work.sums n residue × Holds course.pages (1 + n / 64) now)
    (rose_since a b d kept.faults) (keeps_untold course.pages (1 + c.args.first) first mid (kept.keeps course at)) (λ residue n h. h) c.in-Err.fault
    (subst (λ (x : RingTable g.row.R.Denot). IsAt (g.R.Ring.modulus x.ring) (g.R.Ring.value x.ring) x.columns course number old.numbers.items
    old.rows.items mid
    → HasCauseIn (Rose b d) (mid ≡ None) (λ residue n. (n < count_of x.columns) × BreaksFirst (g.R.Ring.modulus x.ring) x.columns course.work.sums n residue
    × Holds course.pages (1 + n / 64) now) c.in-Err.fault) kept.table (c.in-Err.ensures.fault course) (kept.at course at))

pub returns-clause-at : goal.returns-clause-at
returns-clause-at g c = λ course at.
    let t = c.args.offering.now.table in
    let s = c.loop-number.sealed in
    subst (λ k. IsAt (g.R.Ring.modulus t.ring) (g.R.Ring.value t.ring) t.columns course k s.numbers.items s.rows.items (g.D.Disk.trace c.loop-number.disk))
    (let e : c.loop-number.number ≡ c.args.blocks = omega (arith, c.loop-number-test.false, c.loop-number.auto.number-end, c.requires.order) in e)
    (c.loop-number.invariant.at course at)
