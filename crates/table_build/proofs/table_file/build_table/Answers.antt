use Rattle.std.proofs.Common.{◌≡◌, ℕ, ◌+◌, ◌/◌, ◌<◌, List, [], refl, sym, subst, arith}
use Rattle.std.specs.Prelude.{None, Option}
use Rattle.outside_io.specs.Causes.{Rose}
use Rattle.outside_io.specs.Traces.{Trace}
use Rattle.lyndon_polys.specs.Tables.{RingTable}
use Rattle.table_model.specs.ListedSpan.{count_of}
use Rattle.table_model.specs.ReducedRows.{BreaksFirst}
use Rattle.table_build.specs.Faults.{HasCauseIn}
use Rattle.table_build.specs.Inner.{Holds, Keeps, IsAt}
use Rattle.table_build.proofs.BuildEndings.{rose_since}
use Rattle.table_build.proofs.CauseSteps.{cause_more}
use Rattle.table_build.proofs.Keepings.{keeps_same, keeps_then, keeps_untold}
use Rattle.table_build.proofs.Offerings.{at_start}
use Rattle.table_build.proofs.table_file.build_table.Goals as goal

pub returns-in-Err-clause-keeps : goal.returns-in-Err-clause-keeps
returns-in-Err-clause-keeps g c = λ course begun.
    keeps_same course.pages 0 (g.D.Disk.trace c.args.disk.now) (g.D.Disk.trace c.args.disk.now) refl

pub returns-in-Err-begin-clause-fault : goal.returns-in-Err-begin-clause-fault
returns-in-Err-begin-clause-fault g c = λ course begun.
    let t = c.args.table in
    let old = g.D.Disk.trace c.args.disk.now in
    let now = g.D.Disk.trace c.begin.new.disk in
    let rose = Rose (g.D.Disk.faults c.args.disk.now) (g.D.Disk.faults c.begin.new.disk) in
    cause_more rose (old ≡ None) rose (old ≡ None) (λ _ _. ⊥)
    (λ residue n. (n < count_of t.columns) × BreaksFirst (g.R.Ring.modulus t.ring) t.columns course.work.sums n residue × Holds course.pages (1 + n / 64) now)
    (λ x. x) (λ x. x) (λ residue n none. absurd none) c.in-Err-begin.fault c.in-Err-begin.ensures.fault

pub returns-in-Ok-work-clause-keeps : goal.returns-in-Ok-work-clause-keeps
returns-in-Ok-work-clause-keeps g c = λ course begun.
    let t = c.args.table in
    let old = g.D.Disk.trace c.args.disk.now in
    let mid = g.D.Disk.trace c.begin.new.disk in
    let now = g.D.Disk.trace c.work.new.disk in
    let none = c.none-none.result in
    let At : List ℕ → List (List (ℕ × g.row.R-Elem.Denot)) → Option Trace → Type 0 = IsAt (g.R.Ring.modulus t.ring) (g.R.Ring.value t.ring) t.columns
    course 0 in
    let at : At none.numbers.items none.rows.items mid = subst (λ xs. At none.numbers.items xs mid) (sym c.none-none.ensures.1) (subst (λ xs. At xs [] mid)
    (sym c.none-none.ensures.0) (at_start (g.R.Ring.modulus t.ring) (g.R.Ring.value t.ring) t.columns c.args.params.now course mid begun
    (c.in-Ok-begin.ensures.holds course.pages begun.header))) in
    keeps_then course.pages 0 1 old mid now (omega arith) (c.begin.ensures.keeps course.pages begun.header)
    (subst (λ (x : RingTable g.row.R.Denot). IsAt (g.R.Ring.modulus x.ring) (g.R.Ring.value x.ring) x.columns course 0 none.numbers.items none.rows.items
    mid → Keeps course.pages 1 mid now)
    c.in-Ok.ensures.table (c.work.ensures.keeps course) at)

pub returns-clause-keeps : goal.returns-clause-keeps
returns-clause-keeps g c = λ course begun.
    let t = c.args.table in
    let old = g.D.Disk.trace c.args.disk.now in
    let mid = g.D.Disk.trace c.begin.new.disk in
    let now = g.D.Disk.trace c.work.new.disk in
    let none = c.none-none.result in
    let At : List ℕ → List (List (ℕ × g.row.R-Elem.Denot)) → Option Trace → Type 0 = IsAt (g.R.Ring.modulus t.ring) (g.R.Ring.value t.ring) t.columns
    course 0 in
    let at : At none.numbers.items none.rows.items mid = subst (λ xs. At none.numbers.items xs mid) (sym c.none-none.ensures.1) (subst (λ xs. At xs [] mid)
    (sym c.none-none.ensures.0) (at_start (g.R.Ring.modulus t.ring) (g.R.Ring.value t.ring) t.columns c.args.params.now course mid begun
    (c.in-Ok-begin.ensures.holds course.pages begun.header))) in
    keeps_then course.pages 0 1 old mid now (omega arith) (c.begin.ensures.keeps course.pages begun.header)
    (subst (λ (x : RingTable g.row.R.Denot). IsAt (g.R.Ring.modulus x.ring) (g.R.Ring.value x.ring) x.columns course 0 none.numbers.items none.rows.items
    mid → Keeps course.pages 1 mid now)
    c.in-Ok.ensures.table (c.work.ensures.keeps course) at)

pub returns-clause-fault : goal.returns-clause-fault
returns-clause-fault g c = λ course begun.
    let t = c.args.table in
    let old = g.D.Disk.trace c.args.disk.now in
    let mid = g.D.Disk.trace c.begin.new.disk in
    let now = g.D.Disk.trace c.work.new.disk in
    let a = g.D.Disk.faults c.args.disk.now in
    let b = g.D.Disk.faults c.begin.new.disk in
    let d = g.D.Disk.faults c.work.new.disk in
    let none = c.none-none.result in
    let At : List ℕ → List (List (ℕ × g.row.R-Elem.Denot)) → Option Trace → Type 0 = IsAt (g.R.Ring.modulus t.ring) (g.R.Ring.value t.ring) t.columns
    course 0 in
    let at : At none.numbers.items none.rows.items mid = subst (λ xs. At none.numbers.items xs mid) (sym c.none-none.ensures.1) (subst (λ xs. At xs [] mid)
    (sym c.none-none.ensures.0) (at_start (g.R.Ring.modulus t.ring) (g.R.Ring.value t.ring) t.columns c.args.params.now course mid begun
    (c.in-Ok-begin.ensures.holds course.pages begun.header))) in
    cause_more (Rose b d) (mid ≡ None) (Rose a d) (old ≡ None)
    (λ residue n. (n < count_of t.columns) × BreaksFirst (g.R.Ring.modulus t.ring) t.columns course.work.sums n residue × Holds course.pages (1 + n / 64) now)
    (λ residue n. (n < count_of t.columns) × BreaksFirst (g.R.Ring.modulus t.ring) t.columns course.work.sums n residue × Holds course.pages (1 + n / 64) now)
    (rose_since a b d c.begin.ensures.faults) (keeps_untold course.pages 0 old mid (c.begin.ensures.keeps course.pages begun.header)) (λ residue n h. h)
    c.in-Err-work.fault
    (subst (λ (x : RingTable g.row.R.Denot). IsAt (g.R.Ring.modulus x.ring) (g.R.Ring.value x.ring) x.columns course 0 none.numbers.items none.rows.items mid
    → HasCauseIn (Rose b d) (mid ≡ None) (λ residue n. (n < count_of x.columns) × BreaksFirst (g.R.Ring.modulus x.ring) x.columns course.work.sums n residue
    × Holds course.pages (1 + n / 64) now) c.in-Err-work.fault) c.in-Ok.ensures.table (c.in-Err-work.ensures.fault course) at)
