use Rattle.std.proofs.Common.{◌≡◌, true, false, arith}
use Rattle.page_codec.specs.Places.{FitsPlace}
use Rattle.table_migration.specs.Inner.{IsStopped, file_fault}
use Rattle.table_migration.proofs.Copying.{err_is, read_says_nothing, file_says_nothing, stops_untold, stops_end, stops_unread, stops_misfit, their_places, not_many, stands_behind, open_yet, no_place, not_sealed, one_more}
use Rattle.table_migration.proofs.migrating.copy_page.Goals as goal

pub returns-in_err-page-clause-stopped : goal.returns-in_err-page-clause-stopped
returns-in_err-page-clause-stopped g c = λ params pages first old copied not.
    let told = g.D.Disk.trace c.args.disk.now in
    let e = c.in_err-page.field-0.0 in
    err_is c.from_residual.result (IsStopped first old told) e c.from_residual.ensures.1
    (stops_untold pages first _ old told copied.each (their_places params pages _ _ first _ old _ copied) copied.taken copied.keeps e
    (read_says_nothing _ e c.in_err-page.ensures.cause))

pub returns-in-Unread-clause-stopped : goal.returns-in-Unread-clause-stopped
returns-in-Unread-clause-stopped g c = λ params pages first old copied not.
    let next = rw c.in-Unread.is at c.in_ok-page.ensures.ok in
    let gates = copied.is_ready.gates in
    stops_unread pages first _ old _ copied.each (their_places params pages _ _ first _ old _ copied) copied.taken copied.keeps c.count.result
    (open_yet params pages _ _ first _ old _ copied not) (omega (arith, gates, c.count.ensures)) copied.stands next

pub returns-in-End-clause-stopped : goal.returns-in-End-clause-stopped
returns-in-End-clause-stopped g c = λ params pages first old copied not.
    let next = rw c.in-End.is at c.in_ok-page.ensures.ok in
    let gates = copied.is_ready.gates in
    stops_end pages first _ old _ copied.each (their_places params pages _ _ first _ old _ copied) copied.taken copied.keeps c.count-in-End.result
    (open_yet params pages _ _ first _ old _ copied not) (omega (arith, gates, c.count-in-End.ensures)) copied.stands next

pub returns-then-not-step-clause-stopped : goal.returns-then-not-step-clause-stopped
returns-then-not-step-clause-stopped g c = λ params pages first old copied not.
    let next = rw c.in-Passed.is at c.in_ok-page.ensures.ok in
    let gates = copied.is_ready.gates in
    let page = c.in-Passed.page in
    let fits = c.step.ensures.fits pages (stands_behind params pages _ _ first _ old _ copied) in
    let misfit : ¬ (FitsPlace c.args.walk.now.params c.args.walk.now.relations pages page) = λ fit.
    let yes : c.step.result ≡ true = fits.1 fit in
    let no : c.step.result ≡ false = c.if-not-step.true in
    absurd (cc (yes, no)) in
    stops_misfit pages first _ old _ copied.each (their_places params pages _ _ first _ old _ copied) copied.taken copied.keeps c.count-then-not-step.result
    page _ (open_yet params pages _ _ first _ old _ copied not) (omega (arith, gates, c.count-then-not-step.ensures)) copied.stands next.0 next.1
    (no_place params pages _ _ first _ old _ copied page misfit)

pub seal-requires-clause-few : goal.seal-requires-clause-few
seal-requires-clause-few g c =
    let (params, pages, first, old, copied) = c.requires in
    not_many params pages _ _ first _ old _ copied

pub returns-in_err-seal-clause-stopped : goal.returns-in_err-seal-clause-stopped
returns-in_err-seal-clause-stopped g c = λ params pages first old copied not.
    let next = rw c.in-Passed.is at c.in_ok-page.ensures.ok in
    let page = c.in-Passed.page in
    let now = g.D.Disk.trace c.seal.new.disk in
    let fits = (c.step.ensures.fits pages (stands_behind params pages _ _ first _ old _ copied)).0 c.if-not-step.false in
    let f = c.in_err-seal.field-0.0 in
    err_is c.from_residual-in_err-seal.result (IsStopped first old now) (file_fault f) c.from_residual-in_err-seal.ensures.1
    (not_sealed params pages _ _ first _ old _ copied page _ next.0 next.1 fits now c.seal.ensures.moments (file_fault f) (file_says_nothing f))

pub returns-clause-ok : goal.returns-clause-ok
returns-clause-ok g c = λ params pages first old copied.
    let next = rw c.in-Passed.is at c.in_ok-page.ensures.ok in
    let page = c.in-Passed.page in
    let now = g.D.Disk.trace c.seal.new.disk in
    let behind = stands_behind params pages _ _ first _ old _ copied in
    let fits = (c.step.ensures.fits pages behind).0 c.if-not-step.false in (
      page,
      one_more params pages _ _ first _ old _ copied page _ next.0 next.1 fits now c.seal.ensures.moments c.step.new.self c.seal.new.self
          (c.step.ensures.next pages behind c.if-not-step.false) c.in_ok-seal.ensures.ok c.in_ok-seal.ensures.suits c.in_ok-seal.ensures.left,
    )
