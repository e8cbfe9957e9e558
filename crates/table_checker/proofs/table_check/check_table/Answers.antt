use Rattle.std.proofs.Common.{◌≡◌, ℕ, ◌<◌, [], length, get_or, Some, None, Err, sym, ap, subst, ◌∙◌}
use Rattle.outside_io.specs.Causes.{Rose}
use Rattle.sparse_rows.specs.Entries.{IsBelow}
use Rattle.column_order.specs.Columns.{ColumnList, column_count}
use Rattle.page_rows.specs.Written.{AreResidues}
use Rattle.table_model.specs.ListedSpan.{count_of, relation_count}
use Rattle.table_model.specs.Faults.{Whole, BadRow, NotReduced, Missing}
use Rattle.file_model.proofs.ParamColumns.{columns_are, relations_are}
use Rattle.cert_checker.specs.Certified.{residues_at}
use Rattle.cert_checker.specs.Verdicts.{AreWithin}
use Rattle.table_checker.specs.Checks.{IsRefusal}
use Rattle.table_checker.specs.Inner.{without_header}
use Rattle.table_checker.proofs.RowsRead.{rows_within, combinations_within}
use Rattle.table_checker.proofs.PageWalks.{headless}
use Rattle.table_checker.proofs.WholeTables.{at_header, found, rows_refused, words_refused, verdict_moved}
use Rattle.table_checker.proofs.table_check.check_table.Goals as goal

pub returns-in_default-clause-err : goal.returns-in_default-clause-err
returns-in_default-clause-err g c =
    let before = g.D.Disk.faults c.args.disk.now in
    let told = g.D.Disk.trace c.args.disk.now in
    let file = c.args.file.now in
    let none : file.params ≡ None = sym c.params.ensures.params ∙ c.in_default.is in
    subst (IsRefusal (Rose before before) told file.params) (sym (c.without_header.ensures ∙ ap without_header c.count.ensures))
    (headless before before told file.params file c.requires.suits none)

pub returns-in-Err-new-clause-err : goal.returns-in-Err-new-clause-err
returns-in-Err-new-clause-err g c =
    let rose = Rose (g.D.Disk.faults c.args.disk.now) (g.D.Disk.faults c.final_rows.new.disk) in
    let told = g.D.Disk.trace c.args.disk.now in
    let params = c.in-Some.params in
    let header = c.args.file.now.params in
    let is : header ≡ Some params = sym c.params.ensures.params ∙ c.in-Some.is in
    let m = g.R.Ring.modulus c.args.ring in
    let modulus : m ≡ params.modulus = at_header header params (λ p. m ≡ p.modulus) is c.requires.modulus in
    let finals = c.in-Ok-final_rows.ensures.finals in
    subst (IsRefusal rose told header) (sym c.conversion_fault.ensures)
    (words_refused told params c.in-Ok.columns c.in-Ok.ensures finals.0 finals.3 rose header m modulus c.in-Err-new.fault
    (λ value word e. (c.in-Err-new.ensures.no_inverse value word).0 (ap Err e)))

pub check_rows-requires-clause-rows : goal.check_rows-requires-clause-rows
check_rows-requires-clause-rows g c =
    let params = c.in-Some.params in
    let columns = c.in-Ok.columns in
    let t = c.in-Ok-new.table in
    let told = c.in-Ok-new.ensures in
    let ring = c.args.ring in
    let zero = g.R.Ring.zero in
    let rows = c.in-Ok-final_rows.finals.rows.items in
    let finals = c.in-Ok-final_rows.ensures.finals in
    let count : length t.columns.list ≡ column_count params.weight params.depth =
    ap (λ (cs : ColumnList). length cs.list) told.columns ∙ columns_are params columns c.in-Ok.ensures in
    subst (λ r. AreWithin zero (g.R.Ring.has r) (length t.columns.list) rows) (sym told.ring)
    (subst (λ n. AreWithin zero (g.R.Ring.has ring) n rows) (sym count)
    (rows_within zero (g.R.Ring.has ring) (g.R.Ring.value ring) finals.0 rows c.in-Ok-final_rows.finals.combinations.items finals.1
    (column_count params.weight params.depth) (relation_count params.weight params.depth) params.modulus finals.2))

pub check_rows-requires-clause-combinations : goal.check_rows-requires-clause-combinations
check_rows-requires-clause-combinations g c =
    let params = c.in-Some.params in
    let columns = c.in-Ok.columns in
    let t = c.in-Ok-new.table in
    let told = c.in-Ok-new.ensures in
    let ring = c.args.ring in
    let zero = g.R.Ring.zero in
    let combinations = c.in-Ok-final_rows.finals.combinations.items in
    let finals = c.in-Ok-final_rows.ensures.finals in
    let count : count_of t.columns ≡ relation_count params.weight params.depth = ap count_of told.columns ∙ relations_are params columns c.in-Ok.ensures in
    subst (AreWithin zero (g.R.Ring.has t.ring) (count_of t.columns)) (sym c.deref.ensures.value)
    (subst (λ r. AreWithin zero (g.R.Ring.has r) (count_of t.columns) combinations) (sym told.ring)
    (subst (λ n. AreWithin zero (g.R.Ring.has ring) n combinations) (sym count)
    (combinations_within zero (g.R.Ring.has ring) (g.R.Ring.value ring) finals.0 c.in-Ok-final_rows.finals.rows.items combinations finals.1
    (column_count params.weight params.depth) (relation_count params.weight params.depth) params.modulus finals.2)))

pub returns-in-Ok-check_rows-clause-whole : goal.returns-in-Ok-check_rows-clause-whole
returns-in-Ok-check_rows-clause-whole g c =
    let told = g.D.Disk.trace c.args.disk.now in
    let params = c.in-Some.params in
    let header = c.args.file.now.params in
    let is : header ≡ Some params = sym c.params.ensures.params ∙ c.in-Some.is in
    let ring = c.args.ring in
    let m = g.R.Ring.modulus ring in
    let modulus : m ≡ params.modulus = at_header header params (λ p. m ≡ p.modulus) is c.requires.modulus in
    let finals = c.in-Ok-final_rows.ensures.finals in
    let rows = c.in-Ok-final_rows.finals.rows.items in
    let combinations = c.in-Ok-final_rows.finals.combinations.items in
    found told params c.in-Ok.columns c.in-Ok.ensures finals.0 finals.3 g.R.Ring.zero (g.R.Ring.has ring) (g.R.Ring.value ring) rows combinations finals.1
    m modulus Whole
    (verdict_moved g.R.Ring.modulus g.R.Ring.value rows c.in-Ok-new.table.ring ring c.in-Ok-new.ensures.ring c.in-Ok-new.table.columns c.in-Ok.columns
    c.in-Ok-new.ensures.columns c.deref.result.now combinations c.deref.ensures.value Whole c.in-Ok-check_rows.ensures.complete)

pub returns-in-Ok-check_rows-clause-over : goal.returns-in-Ok-check_rows-clause-over
returns-in-Ok-check_rows-clause-over g c =
    let params = c.in-Some.params in
    let columns = c.in-Ok.columns in
    let t = c.in-Ok-new.table in
    let ring = c.args.ring in
    let rows = c.in-Ok-final_rows.finals.rows.items in
    let finals = c.in-Ok-final_rows.ensures.finals in
    let count : length t.columns.list ≡ column_count params.weight params.depth =
    ap (λ (cs : ColumnList). length cs.list) c.in-Ok-new.ensures.columns ∙ columns_are params columns c.in-Ok.ensures in
    let within = rows_within g.R.Ring.zero (g.R.Ring.has ring) (g.R.Ring.value ring) finals.0 rows c.in-Ok-final_rows.finals.combinations.items finals.1
    (column_count params.weight params.depth) (relation_count params.weight params.depth) params.modulus finals.2 in
    subst (λ xs. (i : ℕ) → i < length xs → IsBelow (λ k. k) (length t.columns.list) (get_or xs i [])) (sym c.in-Ok-check_rows.ensures.rows)
    (subst (λ n. (i : ℕ) → i < length rows → IsBelow (λ k. k) n (get_or rows i [])) (sym count) within.below)

pub returns-clause-err : goal.returns-clause-err
returns-clause-err g c =
    let rose = Rose (g.D.Disk.faults c.args.disk.now) (g.D.Disk.faults c.final_rows.new.disk) in
    let told = g.D.Disk.trace c.args.disk.now in
    let params = c.in-Some.params in
    let header = c.args.file.now.params in
    let is : header ≡ Some params = sym c.params.ensures.params ∙ c.in-Some.is in
    let ring = c.args.ring in
    let m = g.R.Ring.modulus ring in
    let modulus : m ≡ params.modulus = at_header header params (λ p. m ≡ p.modulus) is c.requires.modulus in
    let finals = c.in-Ok-final_rows.ensures.finals in
    let rows = c.in-Ok-final_rows.finals.rows.items in
    let combinations = c.in-Ok-final_rows.finals.combinations.items in
    let t = c.in-Ok-new.table in
    let same = c.in-Ok-new.ensures in
    let refused = c.in-Err-check_rows.ensures in
    let moved = verdict_moved g.R.Ring.modulus g.R.Ring.value rows t.ring ring same.ring t.columns c.in-Ok.columns same.columns c.deref.result.now combinations
    c.deref.ensures.value in
    subst (IsRefusal rose told header) (sym c.rows_fault.ensures)
    (rows_refused told params c.in-Ok.columns c.in-Ok.ensures finals.0 finals.3 g.R.Ring.zero (g.R.Ring.has ring) (g.R.Ring.value ring) rows combinations
    finals.1 m modulus rose header is c.in-Err-check_rows.fault (λ i e. moved (BadRow i) (refused.bad_row i (ap Err e)))
    (λ i e. moved (NotReduced i) (refused.not_reduced i (ap Err e)))
    (λ n rest e. moved (Missing n (residues_at rest)) (refused.missing n rest (ap Err e)))
    (λ n rest e. subst (λ r. AreResidues (λ k. k) (g.R.Ring.modulus r) rest) same.ring (refused.rest_residues n rest (ap Err e)))
    (λ n rest e. subst (λ (cs : ColumnList). IsBelow (λ k. k) (length cs.list) rest) same.columns (refused.rest_columns n rest (ap Err e))))
