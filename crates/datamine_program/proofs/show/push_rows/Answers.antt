use Rattle.std.proofs.Common.{◌≡◌, ◌∙◌, ◌++◌, ◌≤◌, ◌<◌, List, length, string_bytes, refl, sym, ap, subst, arith, [], le_refl}
use Rattle.std.specs.Prelude.{IfOk, IfSome, Some, slice_get}
use Rattle.outside_io.specs.Causes.{Rose}
use Rattle.page_codec.specs.declared.page.Page.{Page}
use Rattle.page_codec.specs.Places.{walk_of}
use Rattle.page_file.specs.Files.{IsSealed}
use Rattle.page_file.specs.Notes.{count_of}
use Rattle.table_model.specs.ListedSpan.{relation_count}
use Rattle.file_model.specs.FinalRows.{finals_of_page}
use Rattle.whole_runs.specs.FileTexts.{row_lines}
use Rattle.datamine_program.specs.Inner.{IsPageFault}
use Rattle.table_texts.specs.Texts.{CanShow}
use Rattle.table_texts.proofs.ShownTexts.{can_show, columns_are}
use Rattle.datamine_program.proofs.ShownPages.{nothing_shown, not_gone_over, fits_place, stands_behind, more_shown, all_shown, few_pages, without_error}
use Rattle.datamine_program.proofs.show.push_rows.Goals as goal

pub loop-place-init : goal.loop-place-init
loop-place-init g c =
    let params = c.args.params.now in
    record {
      shown = nothing_shown (g.D.Disk.trace c.args.disk.now) params c.args.columns.now.list (string_bytes c.args.lines.now) c.new-walk.result
          (c.new-walk.ensures ∙ ap (λ n. walk_of params n []) c.in-Ok.ensures);
      file = refl;
      same = refl;
      faults = le_refl _;
    }

pub returns-in-Err-clause-err : goal.returns-in-Err-clause-err
returns-in-Err-clause-err g c =
    let l = c.loop-place in
    let told = g.D.Disk.trace c.args.disk.now in
    let before = g.D.Disk.faults l.disk in
    let now = g.D.Disk.faults c.next_page.new.disk in
    not_gone_over told c.args.params.now c.args.columns.now.list (string_bytes c.args.lines.now) l.place l.walk (string_bytes l.lines) l.invariant.shown
    (g.D.Disk.faults c.args.disk.now) before now c.args.file.now l.invariant.faults c.requires.suits c.requires.header
    (subst (λ n. l.place < n) c.count-place-end.ensures c.loop-place-test.true) c.in-Err.fault
    (subst (λ o. IsPageFault (Rose before now) o l.walk l.place c.in-Err.fault) l.invariant.same c.in-Err.ensures.err)

pub push_page-requires : goal.push_page-requires
push_page-requires g c =
    let l = c.loop-place in
    let told = g.D.Disk.trace c.args.disk.now in
    let params = c.args.params.now in
    let columns = c.args.columns.now in
    let head = string_bytes c.args.lines.now in
    let page = c.in-Ok-next_page.page in
    let shown = l.invariant.shown in
    let lines = string_bytes l.lines in
    let fits = c.in-Ok-next_page.ensures.fits shown.before (stands_behind told params columns.list head l.place l.walk lines shown) in
    let modulus : c.unwrap-ring.result.modulus ≡ params.modulus =
    subst (λ r. IfOk r (λ ring. ring.modulus ≡ params.modulus)) c.unwrap-ring.ensures c.new.ensures.ok in
    subst (λ m. CanShow (length columns.list) m page) (sym modulus)
    (can_show params (relation_count params.weight params.depth) (length columns.list) shown.before page (columns_are params columns c.requires.columns)
    c.in-Ok-next_page.ensures.page (fits_place told params columns.list head l.place l.walk lines shown page fits.0))

pub loop-place-preserved : goal.loop-place-preserved
loop-place-preserved g c =
    let l = c.loop-place in
    let told = g.D.Disk.trace c.args.disk.now in
    let params = c.args.params.now in
    let columns = c.args.columns.now.list in
    let head = string_bytes c.args.lines.now in
    let page = c.in-Ok-next_page.page in
    let lines = string_bytes l.lines in
    let new = string_bytes c.push_page.new.lines in
    let modulus : c.unwrap-ring.result.modulus ≡ params.modulus =
    subst (λ r. IfOk r (λ ring. ring.modulus ≡ params.modulus)) c.unwrap-ring.ensures c.new.ensures.ok in
    let written : new ≡ lines ++ row_lines params.modulus columns (finals_of_page page) =
    without_error c.push_page.result _ (sym c.is_err.ensures.value ∙ c.if-is_err.false) c.push_page.ensures
    ∙ ap (λ m. lines ++ row_lines m columns (finals_of_page page)) modulus in
    let faults = c.next_page.ensures.faults in
    let earlier = l.invariant.faults in
    record {
      shown = more_shown told params columns head l.place l.walk lines l.invariant.shown page c.next_page.new.walk new
          (subst (λ o. IfSome o (λ t. (pages : List Page) → IsSealed pages t.now.contents → slice_get pages l.place ≡ Some page)) l.invariant.same
          c.in-Ok-next_page.ensures.sealed) c.in-Ok-next_page.ensures.fits written;
      file = c.next_page.ensures.file ∙ l.invariant.file;
      same = c.next_page.ensures.same ∙ l.invariant.same;
      faults = omega (arith, faults, earlier);
    }

pub returns-clause-ok : goal.returns-clause-ok
returns-clause-ok g c =
    let l = c.loop-place in
    let told = g.D.Disk.trace c.args.disk.now in
    let file = c.args.file.now in
    let enough : count_of file ≤ l.place = omega (arith, c.loop-place-test.false, c.count-place-end.ensures) in
    all_shown told c.args.params.now c.args.columns.now.list (string_bytes c.args.lines.now) l.place l.walk (string_bytes l.lines) l.invariant.shown
    (few_pages told file l.place c.requires.suits enough)
