use Rattle.std.proofs.Common.{◌≡◌, true, false, sym, ◌∙◌}
use Rattle.table_build.proofs.Comparisons.{next_first, next_differs}
use Rattle.table_build.proofs.comparing.compare_page.Goals as goal

pub returns-in-Ok-true-clause-first : goal.returns-in-Ok-true-clause-first
returns-in-Ok-true-clause-first g c = λ pages stands first.
    next_first pages c.args.number c.args.made.now c.in-Ok.read (g.D.Disk.trace c.args.disk.now) stands c.in-Ok.ensures.ok first
    (c.in-Ok-true.ensures.0 c.in-Ok-true.field-0-test)

pub returns-in-Ok-false-clause-fault : goal.returns-in-Ok-false-clause-fault
returns-in-Ok-false-clause-fault g c = λ pages stands first.
    next_differs pages c.args.number c.args.made.now c.in-Ok.read (g.D.Disk.trace c.args.disk.now) stands c.in-Ok.ensures.ok first
    (λ e. let bad : true ≡ false = sym (c.in-Ok-false.ensures.1 e) ∙ c.in-Ok-false.field-0-test in absurd (cc bad))
