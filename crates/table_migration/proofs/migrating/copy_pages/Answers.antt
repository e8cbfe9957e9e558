use Rattle.std.proofs.Common.{◌≡◌, ◌++◌, ◌∷◌, [], List, true, length, refl, sym, ap, arith, ◌∙◌, length-append}
use Rattle.page_codec.specs.declared.page.Page.{Page}
use Rattle.page_codec.specs.declared.page.Page.TheVariants.{Header}
use Rattle.page_codec.specs.Places.{WalkAt, walk_of, block_count}
use Rattle.table_model.specs.ListedSpan.{relation_count}
use Rattle.table_migration.specs.Inner.{IsStopped, file_fault}
use Rattle.table_migration.proofs.Places.{done_last}
use Rattle.table_migration.proofs.Copying.{err_is, file_says_nothing, own_walk, walk_on, first_not_sealed, first_copied, few_copied, fewer}
use Rattle.table_migration.proofs.migrating.copy_pages.Goals as goal

pub returns-in_err-seal-clause-stopped : goal.returns-in_err-seal-clause-stopped
returns-in_err-seal-clause-stopped g c =
    let first = g.S.Source.left c.args.source.now in
    let old = g.D.Disk.trace c.args.disk.now in
    let now = g.D.Disk.trace c.seal.new.disk in
    let head = c.in_ok-params.ensures.ok in
    let f = c.in_err-seal.field-0.0 in
    err_is c.from_residual-in_err-seal.result (IsStopped first old now) (file_fault f) c.from_residual-in_err-seal.ensures.1
    (first_not_sealed c.in_ok-params.params head.0 first (g.S.Source.left c.header.new.source) old now head.1 c.requires.stands c.seal.ensures.moments
    (file_fault f) (file_says_nothing f))

pub pages-init : goal.pages-init
pages-init g c =
    let params = c.in_ok-params.params in
    let first = g.S.Source.left c.args.source.now in
    let old = g.D.Disk.trace c.args.disk.now in
    let now = g.D.Disk.trace c.seal.new.disk in
    let head = c.in_ok-params.ensures.ok in
    let walk = c.new-walk.result in
    let own = own_walk walk params c.in_ok-relations.relations [] c.new-walk.ensures in
    let fits : c.step.result ≡ true = (c.step.ensures.fits [] own).1 (refl, sym (ap (λ (w : WalkAt). w.params) c.new-walk.ensures)) in
    let walked = walk_on walk c.step.new.self params c.in_ok-relations.relations [] (Header params ∷ []) c.new-walk.ensures (c.step.ensures.next [] own fits) in
    record {
      copied = (
        Header params ∷ [],
        first_copied params head.0 first (g.S.Source.left c.header.new.source) old now head.1 c.requires.stands c.seal.ensures.moments
            c.in_ok-relations.relations c.step.new.self c.args.file.now c.seal.new.self c.in_ok-relations.ensures walked c.requires.ready
            c.in_ok-seal.ensures.ok c.in_ok-seal.ensures.suits c.in_ok-seal.ensures.left,
      );
      disk_faults = c.seal.ensures.faults;
      source_faults = c.header.ensures.faults;
    }

pub pages-smaller : goal.pages-smaller
pages-smaller g c =
    let params = c.in_ok-params.params in
    let first = g.S.Source.left c.args.source.now in
    let old = g.D.Disk.trace c.args.disk.now in
    let (pages, copied) = c.pages.invariant.copied in
    let (page, next) = c.in_ok-copy_page.ensures.ok params pages first old copied in
    let relations : (w : WalkAt) (ps : List Page) → w ≡ walk_of params (relation_count params.weight params.depth) ps
    → block_count w.relations ≡ block_count (relation_count params.weight params.depth) = λ w ps is. ap (λ (w : WalkAt). block_count w.relations) is in
    fewer _ _ _ _ _ (length pages) (length (pages ++ page ∷ [])) (relations c.pages.walk pages copied.walk_is)
    (relations c.copy_page.new.walk (pages ++ page ∷ []) next.walk_is) copied.is_ready.gates next.is_ready.gates
    (length-append pages (page ∷ [])) (few_copied params (pages ++ page ∷ []) _ _ first _ old _ next)

pub pages-preserved : goal.pages-preserved
pages-preserved g c =
    let params = c.in_ok-params.params in
    let first = g.S.Source.left c.args.source.now in
    let old = g.D.Disk.trace c.args.disk.now in
    let (pages, copied) = c.pages.invariant.copied in
    let (page, next) = c.in_ok-copy_page.ensures.ok params pages first old copied in
    let disk = c.copy_page.ensures.disk_faults in
    let source = c.copy_page.ensures.source_faults in
    let disk_before = c.pages.invariant.disk_faults in
    let source_before = c.pages.invariant.source_faults in
    record {
      copied = (pages ++ page ∷ [], next);
      disk_faults = omega (arith, disk, disk_before);
      source_faults = omega (arith, source, source_before);
    }

pub returns-clause-ok : goal.returns-clause-ok
returns-clause-ok g c =
    let (pages, copied) = c.pages.invariant.copied in
    let gates = copied.is_ready.gates in
    let last = c.is_done.ensures.0 c.pages-test.false in (
      pages,
      c.pages.walk,
      copied,
      done_last pages (ap (λ (w : WalkAt). w.last) (sym copied.walk_is) ∙ last),
      omega (arith, gates, c.count.ensures),
    )
