use Rattle.std.proofs.Common.{◌≡◌, max, sym, subst, arith}
use Rattle.std.specs.Prelude.{None}
use Rattle.outside_io.specs.Causes.{Rose}
use Rattle.page_file.specs.Notes.{count_of as page_count}
use Rattle.table_build.specs.Faults.{HasCauseIn}
use Rattle.table_build.specs.Inner.{Holds, Keeps}
use Rattle.table_build.proofs.BuildEndings.{rose_since}
use Rattle.table_build.proofs.CauseSteps.{cause_more}
use Rattle.table_build.proofs.Beginnings.{look_cause, none_first}
use Rattle.table_build.proofs.table_file.begin.Goals as goal

pub returns-in-Err-clause-fault : goal.returns-in-Err-clause-fault
returns-in-Err-clause-fault g c =
    let told = g.D.Disk.trace c.args.disk.now in
    let rose = Rose (g.D.Disk.faults c.args.disk.now) (g.D.Disk.faults c.look.new.disk) in
    subst (HasCauseIn rose (told ≡ None) (λ _ _. ⊥)) (sym c.work_fault.ensures)
    (look_cause told rose c.in-Err.fault c.requires.empty c.in-Err.ensures.foreign c.in-Err.ensures.bad_page c.in-Err.ensures.disk_fault_only)

pub returns-in-Err-begin_again-clause-fault : goal.returns-in-Err-begin_again-clause-fault
returns-in-Err-begin_again-clause-fault g c =
    let old = g.D.Disk.trace c.args.disk.now in
    let a = g.D.Disk.faults c.args.disk.now in
    let b = g.D.Disk.faults c.look.new.disk in
    let d = g.D.Disk.faults c.begin_again.new.disk in
    cause_more (Rose b d) ⊥ (Rose a d) (old ≡ None) (λ _ _. ⊥) (λ _ _. ⊥) (rose_since a b d c.look.ensures.faults) (λ never. absurd never)
    (λ _ _ never. never) c.in-Err-begin_again.fault c.in-Err-begin_again.ensures.fault

pub returns-in-Err-begin_again-clause-keeps : goal.returns-in-Err-begin_again-clause-keeps
returns-in-Err-begin_again-clause-keeps g c = λ pages header.
    let old = g.D.Disk.trace c.args.disk.now in
    let mid = g.D.Disk.trace c.look.new.disk in
    let now = g.D.Disk.trace c.begin_again.new.disk in
    let none : page_count c.in-Ok.file ≡ 0 = omega (arith, c.count.ensures, c.if-count-gt0.false) in
    subst (λ o. Keeps pages 0 o now) c.look.ensures.disk (subst (λ k. Keeps pages k mid now) none
    (c.begin_again.ensures.keeps pages header (none_first pages old mid c.requires.empty c.look.ensures.disk)))

pub returns-clause-keeps : goal.returns-clause-keeps
returns-clause-keeps g c = λ pages header.
    let old = g.D.Disk.trace c.args.disk.now in
    let mid = g.D.Disk.trace c.look.new.disk in
    let now = g.D.Disk.trace c.begin_again.new.disk in
    let none : page_count c.in-Ok.file ≡ 0 = omega (arith, c.count.ensures, c.if-count-gt0.false) in
    subst (λ o. Keeps pages 0 o now) c.look.ensures.disk (subst (λ k. Keeps pages k mid now) none
    (c.begin_again.ensures.keeps pages header (none_first pages old mid c.requires.empty c.look.ensures.disk)))

pub returns-clause-holds : goal.returns-clause-holds
returns-clause-holds g c = λ pages header.
    let old = g.D.Disk.trace c.args.disk.now in
    let mid = g.D.Disk.trace c.look.new.disk in
    let now = g.D.Disk.trace c.begin_again.new.disk in
    let none : page_count c.in-Ok.file ≡ 0 = omega (arith, c.count.ensures, c.if-count-gt0.false) in
    subst (λ k. Holds pages k now) (let e : max 1 (page_count c.in-Ok.file) ≡ 1 = omega (arith, none) in e)
    (c.in_default.ensures.holds pages header (none_first pages old mid c.requires.empty c.look.ensures.disk))
