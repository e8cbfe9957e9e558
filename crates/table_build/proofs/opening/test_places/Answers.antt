use Rattle.std.proofs.Common.{◌≡◌, ◌∙◌, ◌+◌, ◌≤◌, ◌<◌, List, [], ◌∷◌, ◌++◌, refl, sym, ap, subst, arith, le_refl}
use Rattle.std.specs.Prelude.{Option, Some, slice_get}
use Rattle.outside_io.specs.Traces.{Trace}
use Rattle.page_codec.specs.declared.page.Page.{Page}
use Rattle.page_codec.specs.Places.{FitsPlace, walk_of, block_count}
use Rattle.page_file.specs.Notes.{count_of}
use Rattle.table_build.specs.Inner.{IfSealed, IsBehind}
use Rattle.table_build.proofs.Openings.{nothing_walked, walks_on, misfit_tells, all_fit, few_there}
use Rattle.table_build.proofs.opening.test_places.Goals as goal

pub loop-place-init : goal.loop-place-init
loop-place-init g c = record {
  walked = (
    [],
    nothing_walked (g.D.Disk.trace c.args.disk.now) c.args.params.now c.new-walk.result
        (c.new-walk.ensures ∙ ap (λ n. walk_of c.args.params.now n []) c.requires.relations),
  );
  file = refl;
  same = refl;
  faults = le_refl _;
}

pub loop-place-preserved : goal.loop-place-preserved
loop-place-preserved g c =
    let l = c.loop-place in
    let walked = l.invariant.walked in
    let told = g.D.Disk.trace c.args.disk.now in
    let page = c.in-Ok-Some.field-0-0 in
    let found = rw c.in-Ok-Some.field-0-is at c.in-Ok-Some.ensures in
    let faults = c.next_page.ensures.faults in
    let earlier = l.invariant.faults in
    record {
      walked = (
        walked.0 ++ page ∷ [],
        walks_on told c.args.params.now l.place l.walk walked.0 walked.1 page c.next_page.new.walk
            (subst (IfSealed (λ pages. slice_get pages l.place ≡ Some page)) l.invariant.same found.sealed) found.fits,
      );
      file = c.next_page.ensures.file ∙ l.invariant.file;
      same = c.next_page.ensures.same ∙ l.invariant.same;
      faults = omega (arith, faults, earlier);
    }

pub returns-in-Ok-None-clause-told : goal.returns-in-Ok-None-clause-told
returns-in-Ok-None-clause-told g c =
    let l = c.loop-place in
    let walked = l.invariant.walked in
    let told = g.D.Disk.trace c.args.disk.now in
    let file = c.args.file.now in
    let within : l.place < count_of file = omega (arith, c.loop-place-test.true, c.count-count.ensures) in
    let Misfits : Option Trace → Type 0 = λ o. IfSealed (λ pages. (before : List Page) → IsBehind l.walk before → (page : Page)
    → slice_get pages l.place ≡ Some page → ¬ (FitsPlace l.walk.params l.walk.relations before page)) o in
    let none = rw c.in-Ok-None.field-0-is at c.in-Ok-None.ensures in
    misfit_tells told c.args.params.now l.place l.walk walked.0 walked.1 file c.requires.suits within c.requires.header
    (subst Misfits l.invariant.same none.misfit)

pub returns-clause-fit : goal.returns-clause-fit
returns-clause-fit g c =
    let walked = c.loop-place.invariant.walked in
    let file = c.args.file.now in
    let enough : count_of file ≤ c.loop-place.place = omega (arith, c.loop-place-test.false, c.count-count.ensures) in
    all_fit (g.D.Disk.trace c.args.disk.now) c.args.params.now c.loop-place.place c.loop-place.walk walked.0 walked.1 file c.requires.suits enough

pub returns-clause-few : goal.returns-clause-few
returns-clause-few g c =
    let walked = c.loop-place.invariant.walked in
    let file = c.args.file.now in
    let enough : count_of file ≤ c.loop-place.place = omega (arith, c.loop-place-test.false, c.count-count.ensures) in
    subst (λ n. count_of file ≤ block_count n + 35) (sym c.requires.relations)
    (few_there (g.D.Disk.trace c.args.disk.now) c.args.params.now c.loop-place.place c.loop-place.walk walked.0 walked.1 file c.requires.suits enough c.requires.params)
