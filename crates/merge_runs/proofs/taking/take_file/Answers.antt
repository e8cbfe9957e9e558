use Rattle.std.proofs.Common.{◌≡◌, Some, subst}
use Rattle.share_core.specs.Steps.{Delivers}
use Rattle.merge_runs.specs.declared.taking.NotAShare.TheVariants.{Refused}
use Rattle.merge_runs.specs.Inner.{HoldsShare, RefusesFile}
use Rattle.merge_runs.proofs.Deliveries.{taken_counted, taken_repeat, taken_refused}
use Rattle.merge_runs.proofs.taking.take_file.Goals as goal

pub returns-in-Ok-Counted-clause-ok : goal.returns-in-Ok-Counted-clause-ok
returns-in-Ok-Counted-clause-ok g c =
    let told = g.D.Disk.trace c.args.disk.now in
    let old = c.args.coordinator.now in
    let new = c.step.new.self in
    let share = c.in-Ok-Some.share in
    let held : HoldsShare told (Some share) = subst (HoldsShare told) c.in-Ok-Some.field-0-is c.in-Ok-Some.ensures.read in
    taken_counted g.R.Ring.value old new c.in-Ok-Counted.ensures.same told share held c.in-Ok-Counted.field-0-0
    (subst (λ a. Delivers (g.R.Ring.value old.setting.table.ring) old.setting old.lists share a new.lists) c.in-Ok-Counted.field-0-is
    c.in-Ok-Counted.ensures.ok)

pub returns-in-Ok-Repeat-clause-ok : goal.returns-in-Ok-Repeat-clause-ok
returns-in-Ok-Repeat-clause-ok g c =
    let told = g.D.Disk.trace c.args.disk.now in
    let old = c.args.coordinator.now in
    let new = c.step.new.self in
    let share = c.in-Ok-Some.share in
    let held : HoldsShare told (Some share) = subst (HoldsShare told) c.in-Ok-Some.field-0-is c.in-Ok-Some.ensures.read in
    taken_repeat g.R.Ring.value old new c.in-Ok-Repeat.ensures.same told share held c.in-Ok-Repeat.field-0-0
    (subst (λ a. Delivers (g.R.Ring.value old.setting.table.ring) old.setting old.lists share a new.lists) c.in-Ok-Repeat.field-0-is
    c.in-Ok-Repeat.ensures.ok)

pub returns-in-Ok-Refused-clause-refused : goal.returns-in-Ok-Refused-clause-refused
returns-in-Ok-Refused-clause-refused g c = λ why is.
    let told = g.D.Disk.trace c.args.disk.now in
    let old = c.args.coordinator.now in
    let new = c.step.new.self in
    let share = c.in-Ok-Some.share in
    let held : HoldsShare told (Some share) = subst (HoldsShare told) c.in-Ok-Some.field-0-is c.in-Ok-Some.ensures.read in
    let same : Refused c.in-Ok-Refused.refusal ≡ why = cc in
    subst (RefusesFile g.R.Ring.value told old) same
    (taken_refused g.R.Ring.value old new c.in-Ok-Refused.ensures.same told share held c.in-Ok-Refused.refusal
    (subst (λ a. Delivers (g.R.Ring.value old.setting.table.ring) old.setting old.lists share a new.lists) c.in-Ok-Refused.field-0-is
    c.in-Ok-Refused.ensures.ok))
