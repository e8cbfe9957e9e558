use Rattle.std.proofs.Common.{◌≡◌, ◌∙◌, ◌≤◌, List, refl, sym, ap, subst, arith, le_refl, []}
use Rattle.std.specs.Prelude.{IfSome, Some, slice_get}
use Rattle.outside_io.specs.Causes.{Rose}
use Rattle.column_order.specs.Columns.{column_count}
use Rattle.page_codec.specs.declared.page.Page.{Page}
use Rattle.page_codec.specs.Places.{walk_of}
use Rattle.page_file.specs.Files.{IsSealed}
use Rattle.page_file.specs.Notes.{count_of}
use Rattle.table_model.specs.ListedSpan.{relation_count}
use Rattle.file_model.specs.FinalRows.{finals_of, finals_of_page}
use Rattle.table_checker.specs.Checks.{Finds, Unfinished}
use Rattle.table_checker.specs.Inner.{IsPageFault, IsReadable}
use Rattle.std.specs.List.{AllByRecursion}
use Rattle.table_checker.proofs.RowsRead.{can_read}
use Rattle.table_checker.proofs.PageWalks.{nothing_read, not_gone_over, stands_behind, fits_place, walks_on, reads_page, rows_counted, not_done, closes}
use Rattle.table_checker.proofs.final_rows.final_rows.Goals as goal

pub loop-place-init : goal.loop-place-init
loop-place-init g c =
    let params = c.args.params.now in
    record {
      read = nothing_read g.R.Ring.zero (g.R.Ring.has c.args.ring.now) (g.R.Ring.value c.args.ring.now) (g.D.Disk.trace c.args.disk.now) params
          c.new-walk.result _ _ (c.new-walk.ensures ∙ ap (λ n. walk_of params n []) c.requires.relations) c.new.ensures.items c.new-2.ensures.items;
      file = refl;
      same = refl;
      faults = le_refl _;
    }

pub returns-in-Err-clause-err : goal.returns-in-Err-clause-err
returns-in-Err-clause-err g c =
    let l = c.loop-place in
    let read = l.invariant.read in
    let told = g.D.Disk.trace c.args.disk.now in
    let before = g.D.Disk.faults l.disk in
    let now = g.D.Disk.faults c.next_page.new.disk in
    not_gone_over told c.args.params.now l.place l.walk read.before read.walked c.args.file.now c.requires.suits c.requires.header
    (g.D.Disk.faults c.args.disk.now) before now c.args.file.now.params l.invariant.faults c.in-Err.fault
    (subst (λ o. IsPageFault (Rose before now) o l.walk l.place c.in-Err.fault) l.invariant.same c.in-Err.ensures.err)

pub push_page-requires : goal.push_page-requires
push_page-requires g c =
    let l = c.loop-place in
    let read = l.invariant.read in
    let told = g.D.Disk.trace c.args.disk.now in
    let params = c.args.params.now in
    let n = relation_count params.weight params.depth in
    let page = c.in-Ok.page in
    let fits = c.in-Ok.ensures.fits read.before (stands_behind told params l.place l.walk read.before read.walked) in (
      column_count params.weight params.depth,
      n,
      subst (λ m. AllByRecursion (IsReadable (column_count params.weight params.depth) n m) (finals_of_page page)) (sym c.requires.modulus)
          (can_read params n read.before page c.in-Ok.ensures.page (fits_place told params l.place l.walk read.before read.walked page fits.0)),
    )

pub loop-place-preserved : goal.loop-place-preserved
loop-place-preserved g c =
    let l = c.loop-place in
    let read = l.invariant.read in
    let told = g.D.Disk.trace c.args.disk.now in
    let params = c.args.params.now in
    let n = relation_count params.weight params.depth in
    let page = c.in-Ok.page in
    let ring = c.args.ring.now in
    let fits = c.in-Ok.ensures.fits read.before (stands_behind told params l.place l.walk read.before read.walked) in
    let faults = c.next_page.ensures.faults in
    let earlier = l.invariant.faults in
    record {
      read = reads_page g.R.Ring.zero (g.R.Ring.has ring) (g.R.Ring.value ring) told params l.place l.walk c.next_page.new.walk l.finals.rows.items
          l.finals.combinations.items c.push_page.new.finals.rows.items c.push_page.new.finals.combinations.items read page
          (can_read params n read.before page c.in-Ok.ensures.page (fits_place told params l.place l.walk read.before read.walked page fits.0))
          c.in_default.ensures
          (walks_on told params l.place l.walk read.before read.walked page c.next_page.new.walk
          (subst (λ o. IfSome o (λ t. (pages : List Page) → IsSealed pages t.now.contents → slice_get pages l.place ≡ Some page)) l.invariant.same
          c.in-Ok.ensures.sealed) c.in-Ok.ensures.fits);
      file = c.next_page.ensures.file ∙ l.invariant.file;
      same = c.next_page.ensures.same ∙ l.invariant.same;
      faults = omega (arith, faults, earlier);
    }

pub returns-then-not-is_done-clause-err : goal.returns-then-not-is_done-clause-err
returns-then-not-is_done-clause-err g c =
    let l = c.loop-place in
    let read = l.invariant.read in
    let told = g.D.Disk.trace c.args.disk.now in
    let file = c.args.file.now in
    let enough : count_of file ≤ l.place = omega (arith, c.loop-place-test.false, c.count-pages.ensures) in
    subst (λ n. Finds told (Unfinished n)) (sym c.count-pages.ensures)
    (not_done told c.args.params.now l.place l.walk read.before read.walked file c.requires.suits c.requires.header enough
    (λ done. let bad = c.is_done.ensures.1 done in cc))

pub returns-clause-few : goal.returns-clause-few
returns-clause-few g c =
    let l = c.loop-place in
    let ring = c.args.ring.now in
    let counted = rows_counted g.R.Ring.zero (g.R.Ring.has ring) (g.R.Ring.value ring) (g.D.Disk.trace c.args.disk.now) c.args.params.now l.place l.walk
    l.finals.rows.items l.finals.combinations.items l.invariant.read in
    let told = c.rows-few.ensures in
    omega (arith, counted, told.rows, told.within)

pub returns-clause-finals : goal.returns-clause-finals
returns-clause-finals g c =
    let l = c.loop-place in
    let read = l.invariant.read in
    let told = g.D.Disk.trace c.args.disk.now in
    let file = c.args.file.now in
    let enough : count_of file ≤ l.place = omega (arith, c.loop-place-test.false, c.count-pages.ensures) in (
      finals_of read.before,
      read.are_rows,
      read.readable,
      closes told c.args.params.now l.place l.walk read.before read.walked file c.requires.suits c.requires.header enough
          (c.is_done.ensures.0 c.if-not-is_done.false),
    )
