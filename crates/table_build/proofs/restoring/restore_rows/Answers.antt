use Rattle.std.proofs.Common.{◌≡◌, ◌+◌, ◌-◌, ◌*◌, ◌<◌, ◌≤◌, ◌++◌, [], List, length, Option, Some, true, false, refl, le_refl, ap, sym, subst, ◌∙◌, slice_get, arith}
use Rattle.std.specs.Prelude.{min}
use Rattle.outside_io.specs.Traces.{Trace}
use Rattle.page_codec.specs.declared.page.Page.{Page}
use Rattle.page_codec.specs.Places.{FitsPlace, walk_of, block_count}
use Rattle.page_file.specs.Notes.{count_of}
use Rattle.column_order.specs.Columns.{ColumnList}
use Rattle.page_codec.specs.declared.params.Params.{Params}
use Rattle.relation_list.specs.declared.names.RelName.{RelName}
use Rattle.file_model.specs.TableOf.{IsTableOf}
use Rattle.relation_list.specs.Listings.{listing_of}
use Rattle.table_model.specs.ListedSpan.{relation_count}
use Rattle.file_model.specs.Resuming.{entries_of, entries_of_page, AllSuit}
use Rattle.file_model.proofs.ParamColumns.{columns_are}
use Rattle.table_build.specs.Inner.{AreRows, AreRowsOf, CanOffer, IfSealed, IsBehind}
use Rattle.table_build.proofs.NamedValues.{few_names, relation_count-listing}
use Rattle.table_build.proofs.RestoredRows.{none_restored, page_in_table, page_restored, not_forward_tells, never_misfits, all_restored}
use Rattle.table_build.proofs.restoring.restore_rows.Goals as goal

-- as many names as relations
names_are : (params : Params) (columns : ColumnList) (names : List RelName) → IsTableOf params columns → names ≡ listing_of columns.weight columns.depth
    → length names ≡ relation_count params.weight params.depth
names_are params columns names of is =
    ap length is ∙ sym (relation_count-listing columns) ∙ (λ i. relation_count (of.weight i) (of.depth i))

pub overflow_cast-len : goal.overflow_cast-len
overflow_cast-len g c =
    let params = c.requires.params in
    let w = c.args.params.now.weight in
    let d = c.args.params.now.depth in
    let few = few_names w d params.weight_from params.weight_to params.columns in
    let table = c.args.offering.now.table in
    let of = c.requires.columns in
    let names : length c.args.offering.now.names.items ≡ length (listing_of w d) =
    ap length c.requires.can.names_are ∙ (λ i. length (listing_of (of.weight i) (of.depth i))) in
    omega (arith, few, names, c.len.ensures)

pub loop-place-init : goal.loop-place-init
loop-place-init g c =
    let params = c.args.params.now in
    let offering = c.args.offering.now in
    let ring = offering.table.ring in
    let count = names_are params offering.table.columns offering.names.items c.requires.columns c.requires.can.names_are in
    let none = c.none-kept.ensures in
    let counted : c.len.result ≡ relation_count params.weight params.depth = omega (arith, c.len.ensures, count) in
    record {
      going = none_restored g.R.Ring.zero (g.R.Ring.has ring) (g.R.Ring.value ring) (g.D.Disk.trace c.args.disk.now) params c.new-walk.result
          (c.new-walk.ensures ∙ ap (λ n. walk_of params n []) counted) offering.table offering.names.items offering.kept.ring
          offering.echelon c.requires.can c.none-kept.result.numbers.items c.none-kept.result.rows.items none.0 none.1;
      table = (refl, refl);
      numbers = none.0 ∙ sym c.requires.none.0;
      same_rows = none.1 ∙ sym c.requires.none.1;
      file = refl;
      same = refl;
      faults = le_refl _;
    }

pub returns-in-Ok-None-clause-told : goal.returns-in-Ok-None-clause-told
returns-in-Ok-None-clause-told g c =
    let l = c.loop-place in
    let going = l.invariant.going in
    let told = g.D.Disk.trace c.args.disk.now in
    let ring = c.args.offering.now.table.ring in
    let file = c.args.file.now in
    let within : l.place < count_of file = omega (arith, c.loop-place-test.true, c.requires.pages) in
    let Misfits : Option Trace → Type 0 = λ o. IfSealed (λ pages. (before : List Page) → IsBehind l.walk before → (page : Page)
    → slice_get pages l.place ≡ Some page → ¬ (FitsPlace l.walk.params l.walk.relations before page)) o in
    let none = rw c.in-Ok-None.field-0-is at c.in-Ok-None.ensures in
    never_misfits g.R.Ring.zero (g.R.Ring.has ring) (g.R.Ring.value ring) told c.args.params.now l.place l.walk l.offering.table l.offering.names.items
    l.offering.kept.ring l.offering.echelon l.kept.numbers.items l.kept.rows.items going file c.requires.suits c.requires.ours within
    (subst Misfits l.invariant.same none.misfit)

pub restore_page-requires-clause-in_table : goal.restore_page-requires-clause-in_table
restore_page-requires-clause-in_table g c =
    let l = c.loop-place in
    let going = l.invariant.going in
    let told = g.D.Disk.trace c.args.disk.now in
    let old = c.args.offering.now.table in
    let ring = old.ring in
    let same = l.invariant.table.0 in
    let page = c.in-Ok-Some.page in
    let found = rw c.in-Ok-Some.field-0-is at c.in-Ok-Some.ensures in
    page_in_table g.R.Ring.zero (g.R.Ring.has ring) (g.R.Ring.value ring) told c.args.params.now l.place l.walk l.offering.table l.offering.names.items
    l.offering.kept.ring l.offering.echelon l.kept.numbers.items l.kept.rows.items going page c.next_page.new.walk
    (subst (IfSealed (λ pages. slice_get pages l.place ≡ Some page)) l.invariant.same found.sealed) found.fits (length l.offering.table.columns.list)
    (g.R.Ring.modulus l.offering.table.ring)
    (sym (columns_are c.args.params.now old.columns c.requires.columns) ∙ ap (λ t. length t.columns.list) (sym same))
    (sym c.requires.modulus ∙ ap (λ t. g.R.Ring.modulus t.ring) (sym same))

pub returns-in-Ok-false-clause-told : goal.returns-in-Ok-false-clause-told
returns-in-Ok-false-clause-told g c =
    let l = c.loop-place in
    let going = l.invariant.going in
    let told = g.D.Disk.trace c.args.disk.now in
    let old = c.args.offering.now.table in
    let ring = old.ring in
    let same = l.invariant.table.0 in
    let modulus = sym c.requires.modulus ∙ ap (λ t. g.R.Ring.modulus t.ring) (sym same) in
    let page = c.in-Ok-Some.page in
    let found = rw c.in-Ok-Some.field-0-is at c.in-Ok-Some.ensures in
    let done = c.in-Ok-false.ensures in
    let taken = subst (λ t. AreRowsOf (g.R.Ring.value t.ring) (entries_of going.before) l.kept.numbers.items l.kept.rows.items) (sym same) going.taken in
    let suit = subst (λ m. AllSuit m (entries_of going.before)) modulus going.suit in
    not_forward_tells g.R.Ring.zero (g.R.Ring.has ring) (g.R.Ring.value ring) told c.args.params.now l.place l.walk l.offering.table l.offering.names.items
    l.offering.kept.ring l.offering.echelon l.kept.numbers.items l.kept.rows.items going page c.next_page.new.walk
    (subst (IfSealed (λ pages. slice_get pages l.place ≡ Some page)) l.invariant.same found.sealed) found.fits old.columns c.requires.columns
    c.requires.converts c.requires.ours
    (λ all. let yes : c.in-Ok-false.field-0 ≡ true = (done.suits (entries_of going.before) taken suit).1
    (subst (λ m. AllSuit m (entries_of going.before ++ entries_of_page page)) modulus all) in
    let no : c.in-Ok-false.field-0 ≡ false = c.in-Ok-false.field-0-test in cc)

pub loop-place-preserved : goal.loop-place-preserved
loop-place-preserved g c =
    let l = c.loop-place in
    let going = l.invariant.going in
    let told = g.D.Disk.trace c.args.disk.now in
    let params = c.args.params.now in
    let offering = c.args.offering.now in
    let old = offering.table in
    let ring = old.ring in
    let has = g.R.Ring.has ring in
    let same = l.invariant.table.0 in
    let modulus = sym c.requires.modulus ∙ ap (λ t. g.R.Ring.modulus t.ring) (sym same) in
    let page = c.in-Ok-Some.page in
    let found = rw c.in-Ok-Some.field-0-is at c.in-Ok-Some.ensures in
    let done = c.in-Ok-true.ensures in
    let yes = c.in-Ok-true.field-0-test in
    let new = c.restore_page.new.offering in
    let kept = c.restore_page.new.kept in
    let count = names_are params old.columns offering.names.items c.requires.columns c.requires.can.names_are in
    let pages = c.requires.pages ∙ ap (λ n. min (count_of c.args.file.now) (1 + block_count n)) count in
    let low : l.place ≤ block_count (relation_count params.weight params.depth) = omega (arith, c.loop-place-test.true, pages) in
    let taken = subst (λ t. AreRowsOf (g.R.Ring.value t.ring) (entries_of going.before) l.kept.numbers.items l.kept.rows.items) (sym same) going.taken in
    let suit = subst (λ m. AllSuit m (entries_of going.before)) modulus going.suit in
    let faults = c.next_page.ensures.faults in
    let earlier = l.invariant.faults in
    record {
      going = page_restored g.R.Ring.zero has (g.R.Ring.value ring) told params l.place l.walk l.offering.table l.offering.names.items
          l.offering.kept.ring l.offering.echelon l.kept.numbers.items l.kept.rows.items going page c.next_page.new.walk
          (subst (IfSealed (λ pages. slice_get pages l.place ≡ Some page)) l.invariant.same found.sealed) found.fits low new.table new.names.items
          new.kept.ring new.echelon kept.numbers.items kept.rows.items
          (λ p is. let h = done.can yes p is in
          (h.0, subst (λ t. AreRows (g.R.Ring.has t.ring) (p.first + 64) kept.numbers.items kept.rows.items) same h.1))
          (λ plain. let h = done.plain plain in (
            subst (λ o. CanOffer o.table o.names.items o.kept.ring o.echelon (64 * (l.place - 1))) (sym h.0) going.can,
            subst (λ k. AreRows has (64 * (l.place - 1)) k.numbers.items k.rows.items) (sym h.1) going.are_rows,
          ))
          (subst (λ t. AreRowsOf (g.R.Ring.value t.ring) (entries_of going.before ++ entries_of_page page) kept.numbers.items kept.rows.items) same
          (done.taken (entries_of going.before) taken yes))
          (subst (λ m. AllSuit m (entries_of going.before ++ entries_of_page page)) (sym modulus)
          ((done.suits (entries_of going.before) taken suit).0 yes));
      table = (c.restore_page.ensures.table.0 ∙ same, c.restore_page.ensures.table.1 ∙ l.invariant.table.1);
      numbers = done.numbers yes;
      same_rows = done.same_rows yes;
      file = c.next_page.ensures.file ∙ l.invariant.file;
      same = c.next_page.ensures.same ∙ l.invariant.same;
      faults = omega (arith, faults, earlier);
    }

pub returns-clause-taken : goal.returns-clause-taken
returns-clause-taken g c =
    let l = c.loop-place in
    let params = c.args.params.now in
    let offering = c.args.offering.now in
    let ring = offering.table.ring in
    let count = names_are params offering.table.columns offering.names.items c.requires.columns c.requires.can.names_are in
    let all : l.place ≡ c.args.pages = omega (arith, c.loop-place-test.false, l.auto.place-end) in
    all_restored g.R.Ring.zero (g.R.Ring.has ring) (g.R.Ring.value ring) (g.D.Disk.trace c.args.disk.now) params l.place l.walk l.offering.table
    l.offering.names.items l.offering.kept.ring l.offering.echelon l.kept.numbers.items l.kept.rows.items l.invariant.going c.args.file.now
    c.requires.suits c.requires.ours (all ∙ c.requires.pages ∙ ap (λ n. min (count_of c.args.file.now) (1 + block_count n)) count)
