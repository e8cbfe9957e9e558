use Rattle.std.proofs.Common.{◌≡◌, ℕ, ◌<◌, [], length, map, get_or, sym, ap, subst, ◌∙◌, refl, arith, Err}
use Rattle.linear_model.specs.Reduced.{IsReduced}
use Rattle.sparse_rows.specs.Entries.{IsBelow}
use Rattle.page_rows.specs.Written.{written, AreResidues}
use Rattle.echelon.specs.Lists.{lead_at, row_at}
use Rattle.echelon.specs.Finishes.{IsNotReducedAt}
use Rattle.table_model.specs.ListedSpan.{count_of, relation_count}
use Rattle.table_model.specs.Faults.{Whole, BadRow, NotReduced, Missing}
use Rattle.file_model.specs.FinalRows.{no_entry}
use Rattle.file_model.proofs.ParamColumns.{columns_are, relations_are}
use Rattle.cert_checker.specs.Certified.{residues_at}
use Rattle.cert_checker.specs.Verdicts.{AreWithin}
use Rattle.share_model.specs.Dealing.{LeavesNothingOfShare}
use Rattle.share_check.specs.Inner.{IsTold, rows_of, combinations_of}
use Rattle.share_check.proofs.ReadRows.{read_within, moved-read}
use Rattle.share_check.proofs.SharePages.{row_residues, combination_residues, rows_below, combinations_below}
use Rattle.share_check.proofs.ShareVerdicts.{found, combinations_counted}
use Rattle.share_check.proofs.ShareResults.{is_bad, are_good, is_not_reduced, is_result, is_missing}
use Rattle.share_check.proofs.CheckedResults.{checked}
use Rattle.share_check.proofs.FaultsTold.{same-bad_row, same-not_reduced, same-missing}
use Rattle.share_check.proofs.checking.check_share.Goals as goal

pub rows_of-requires : goal.rows_of-requires
rows_of-requires g c =
    let share = c.args.share.now in
    let m = g.R.Ring.modulus c.ring-ring.result.now in
    subst (λ es. (i : ℕ) → i < length es → AreResidues (λ k. k) m (get_or es i no_entry).row) (sym c.as_slice-entries.ensures)
    (row_residues share c.requires.share m (ap g.R.Ring.modulus c.ring-ring.ensures ∙ c.requires.modulus))

pub combinations_of-requires : goal.combinations_of-requires
combinations_of-requires g c =
    let share = c.args.share.now in
    let m = g.R.Ring.modulus c.ring-ring.result.now in
    subst (λ es. (i : ℕ) → i < length es → AreResidues (λ k. k) m (get_or es i no_entry).combination) (sym c.as_slice-entries.ensures)
    (combination_residues share c.requires.share m (ap g.R.Ring.modulus c.ring-ring.ensures ∙ c.requires.modulus))

pub first_bad_row-requires-clause-rows : goal.first_bad_row-requires-clause-rows
first_bad_row-requires-clause-rows g c =
    let t = c.args.table.now in
    let share = c.args.share.now in
    let zero = g.R.Ring.zero in
    let has = g.R.Ring.has t.ring in
    let value = g.R.Ring.value t.ring in
    let rows = c.in-Ok.rows.items in
    let read = moved-read zero g.R.Ring.has g.R.Ring.value c.ring-ring.result.now t.ring c.ring-ring.ensures rows_of c.as_slice-entries.result.now share.rows
    c.as_slice-entries.ensures rows c.in-Ok.ensures in
    let within = read_within zero has value (rows_of share.rows) rows read (length t.columns.list)
    (rows_below share c.requires.share (length t.columns.list) (columns_are share.params t.columns c.requires.table)) in
    subst (AreWithin zero has (length t.columns.list)) (sym c.deref.ensures.value) within

pub first_bad_row-requires-clause-combinations : goal.first_bad_row-requires-clause-combinations
first_bad_row-requires-clause-combinations g c =
    let t = c.args.table.now in
    let share = c.args.share.now in
    let zero = g.R.Ring.zero in
    let has = g.R.Ring.has t.ring in
    let value = g.R.Ring.value t.ring in
    let combinations = c.in-Ok-combinations_of.combinations.items in
    let told = moved-read zero g.R.Ring.has g.R.Ring.value c.ring-ring.result.now t.ring c.ring-ring.ensures combinations_of c.as_slice-entries.result.now
    share.rows c.as_slice-entries.ensures combinations c.in-Ok-combinations_of.ensures in
    subst (AreWithin zero has (count_of t.columns)) (sym c.deref-2.ensures.value)
    (read_within zero has value (combinations_of share.rows) combinations told (count_of t.columns)
    (combinations_below share c.requires.share (count_of t.columns) (relations_are share.params t.columns c.requires.table)))

pub returns-in-Ok-Some-clause-bad_row : goal.returns-in-Ok-Some-clause-bad_row
returns-in-Ok-Some-clause-bad_row g c = λ i e.
    let t = c.args.table.now in
    let share = c.args.share.now in
    let zero = g.R.Ring.zero in
    let has = g.R.Ring.has t.ring in
    let value = g.R.Ring.value t.ring in
    let rows = c.in-Ok.rows.items in
    let read = moved-read zero g.R.Ring.has g.R.Ring.value c.ring-ring.result.now t.ring c.ring-ring.ensures rows_of c.as_slice-entries.result.now share.rows
    c.as_slice-entries.ensures rows c.in-Ok.ensures in
    let combinations = c.in-Ok-combinations_of.combinations.items in
    let told = moved-read zero g.R.Ring.has g.R.Ring.value c.ring-ring.result.now t.ring c.ring-ring.ensures combinations_of c.as_slice-entries.result.now
    share.rows c.as_slice-entries.ensures combinations c.in-Ok-combinations_of.ensures in
    let m = g.R.Ring.modulus t.ring in
    found zero has value share rows combinations read told m c.requires.modulus t.columns c.requires.table (BadRow i)
    (is_bad value m t.columns share.id.index share.id.of rows combinations c.deref.result.now c.deref-2.result.now c.deref.ensures.value
    c.deref-2.ensures.value c.in-Ok-Some.field-0 c.in-Ok-Some.ensures c.in-Ok-Some.i i c.in-Ok-Some.field-0-is (same-bad_row c.in-Ok-Some.i i e))

pub returns-in-Err-NotReduced-clause-not_reduced : goal.returns-in-Err-NotReduced-clause-not_reduced
returns-in-Err-NotReduced-clause-not_reduced g c = λ i e.
    let t = c.args.table.now in
    let share = c.args.share.now in
    let zero = g.R.Ring.zero in
    let has = g.R.Ring.has t.ring in
    let value = g.R.Ring.value t.ring in
    let rows = c.in-Ok.rows.items in
    let read = moved-read zero g.R.Ring.has g.R.Ring.value c.ring-ring.result.now t.ring c.ring-ring.ensures rows_of c.as_slice-entries.result.now share.rows
    c.as_slice-entries.ensures rows c.in-Ok.ensures in
    let combinations = c.in-Ok-combinations_of.combinations.items in
    let told = moved-read zero g.R.Ring.has g.R.Ring.value c.ring-ring.result.now t.ring c.ring-ring.ensures combinations_of c.as_slice-entries.result.now
    share.rows c.as_slice-entries.ensures combinations c.in-Ok-combinations_of.ensures in
    let m = g.R.Ring.modulus t.ring in
    let within = read_within zero has value (rows_of share.rows) rows read (length t.columns.list)
    (rows_below share c.requires.share (length t.columns.list) (columns_are share.params t.columns c.requires.table)) in
    let good = are_good value m t.columns share.id.index share.id.of rows combinations c.deref.result.now c.deref-2.result.now c.deref.ensures.value
    c.deref-2.ensures.value c.in-Ok-None.field-0 c.in-Ok-None.ensures c.in-Ok-None.field-0-is in
    let r = g.met.R.Ring in
    let j = c.in-Err-NotReduced.i in
    let big : 1 < m = omega (arith, r.modulus_from t.ring) in
    let is = c.in-Err-NotReduced.is ∙ ap (λ f. Err f) c.in-Err-NotReduced.field-0-is in
    let there = subst (λ x. IsNotReducedAt (g.R.Ring.value x) rows j × ((k : ℕ) → k < j → ¬ (IsNotReducedAt (g.R.Ring.value x) rows k)))
    c.ring-ring.ensures (c.new.ensures.not_reduced j is) in
    let one = same-not_reduced _ i e in
    let place : j ≡ i = cc (one, c.in-Err-NotReduced.i-is) in
    found zero has value share rows combinations read told m c.requires.modulus t.columns c.requires.table (NotReduced i)
    (is_not_reduced value m t.columns share.id.index share.id.of rows (row_at value combinations) good has zero big (r.has_zero t.ring) (r.value_zero t.ring)
    (r.value_below t.ring) (r.value_injective t.ring) (length t.columns.list) within j i (c.new.ensures.inside j is) there place)

pub first_missing-requires-clause-below : goal.first_missing-requires-clause-below
first_missing-requires-clause-below g c =
    let t = c.args.table.now in
    let share = c.args.share.now in
    let zero = g.R.Ring.zero in
    let has = g.R.Ring.has t.ring in
    let value = g.R.Ring.value t.ring in
    let rows = c.in-Ok.rows.items in
    let read = moved-read zero g.R.Ring.has g.R.Ring.value c.ring-ring.result.now t.ring c.ring-ring.ensures rows_of c.as_slice-entries.result.now share.rows
    c.as_slice-entries.ensures rows c.in-Ok.ensures in
    let within = read_within zero has value (rows_of share.rows) rows read (length t.columns.list)
    (rows_below share c.requires.share (length t.columns.list) (columns_are share.params t.columns c.requires.table)) in
    subst (λ xs. (i : ℕ) → i < length xs → IsBelow (λ k. k) (length t.columns.list) (get_or xs i [])) (sym c.in-Ok-new.ensures.rows) within.below

pub of-requires : goal.of-requires
of-requires g c =
    let t = c.args.table.now in
    let share = c.args.share.now in
    let zero = g.R.Ring.zero in
    let has = g.R.Ring.has t.ring in
    let value = g.R.Ring.value t.ring in
    let rows = c.in-Ok.rows.items in
    let read = moved-read zero g.R.Ring.has g.R.Ring.value c.ring-ring.result.now t.ring c.ring-ring.ensures rows_of c.as_slice-entries.result.now share.rows
    c.as_slice-entries.ensures rows c.in-Ok.ensures in
    let combinations = c.in-Ok-combinations_of.combinations.items in
    let told = moved-read zero g.R.Ring.has g.R.Ring.value c.ring-ring.result.now t.ring c.ring-ring.ensures combinations_of c.as_slice-entries.result.now
    share.rows c.as_slice-entries.ensures combinations c.in-Ok-combinations_of.ensures in
    let m = g.R.Ring.modulus t.ring in
    let within = read_within zero has value (rows_of share.rows) rows read (length t.columns.list)
    (rows_below share c.requires.share (length t.columns.list) (columns_are share.params t.columns c.requires.table)) in
    let good = are_good value m t.columns share.id.index share.id.of rows combinations c.deref.result.now c.deref-2.result.now c.deref.ensures.value
    c.deref-2.ensures.value c.in-Ok-None.field-0 c.in-Ok-None.ensures c.in-Ok-None.field-0-is in
    let list = c.in-Ok-new.list.rows in
    let reduced = subst (λ x. IsReduced (g.R.Ring.modulus x) (length list) (lead_at list) (row_at (g.R.Ring.value x) list)) c.ring-ring.ensures
    c.in-Ok-new.ensures.ok.reduced in
    let nothing : (n : ℕ) → n < count_of t.columns → LeavesNothingOfShare m t.columns share.id.index share.id.of (length list)
    (lead_at list) (row_at value list) n =
    rw c.in-Ok-None-first_missing.field-0-is at c.in-Ok-None-first_missing.ensures in
    let result = is_result value m t.columns share.id.index share.id.of rows (row_at value combinations) good list c.in-Ok-new.ensures.rows reduced within.below
    nothing in
    let n = relation_count share.params.weight share.params.depth in
    let numbers = read_within zero has value (combinations_of share.rows) combinations told n (combinations_below share c.requires.share n refl) in
    checked g.R.Ring.modulus g.R.Ring.has g.R.Ring.value share c.requires.share t.ring c.requires.modulus t.columns c.requires.table c.in-Ok-new.list
    (c.in-Ok-new.ensures.ring ∙ c.ring-ring.ensures) rows combinations c.in-Ok-new.ensures.rows zero numbers
    (combinations_counted zero has value share rows combinations read told) result

pub returns-in-Ok-None-first_missing-clause-rows : goal.returns-in-Ok-None-first_missing-clause-rows
returns-in-Ok-None-first_missing-clause-rows g c =
    let t = c.args.table.now in
    let share = c.args.share.now in
    let zero = g.R.Ring.zero in
    let has = g.R.Ring.has t.ring in
    let value = g.R.Ring.value t.ring in
    let rows = c.in-Ok.rows.items in
    let read = moved-read zero g.R.Ring.has g.R.Ring.value c.ring-ring.result.now t.ring c.ring-ring.ensures rows_of c.as_slice-entries.result.now share.rows
    c.as_slice-entries.ensures rows c.in-Ok.ensures in
    ap (λ o. map (written value) o.list.rows) c.of.ensures ∙ ap (λ xs. map (written value) xs) c.in-Ok-new.ensures.rows ∙ read.are_written

pub returns-in-Ok-None-first_missing-clause-whole : goal.returns-in-Ok-None-first_missing-clause-whole
returns-in-Ok-None-first_missing-clause-whole g c =
    let t = c.args.table.now in
    let share = c.args.share.now in
    let zero = g.R.Ring.zero in
    let has = g.R.Ring.has t.ring in
    let value = g.R.Ring.value t.ring in
    let rows = c.in-Ok.rows.items in
    let read = moved-read zero g.R.Ring.has g.R.Ring.value c.ring-ring.result.now t.ring c.ring-ring.ensures rows_of c.as_slice-entries.result.now share.rows
    c.as_slice-entries.ensures rows c.in-Ok.ensures in
    let combinations = c.in-Ok-combinations_of.combinations.items in
    let told = moved-read zero g.R.Ring.has g.R.Ring.value c.ring-ring.result.now t.ring c.ring-ring.ensures combinations_of c.as_slice-entries.result.now
    share.rows c.as_slice-entries.ensures combinations c.in-Ok-combinations_of.ensures in
    let m = g.R.Ring.modulus t.ring in
    let within = read_within zero has value (rows_of share.rows) rows read (length t.columns.list)
    (rows_below share c.requires.share (length t.columns.list) (columns_are share.params t.columns c.requires.table)) in
    let good = are_good value m t.columns share.id.index share.id.of rows combinations c.deref.result.now c.deref-2.result.now c.deref.ensures.value
    c.deref-2.ensures.value c.in-Ok-None.field-0 c.in-Ok-None.ensures c.in-Ok-None.field-0-is in
    let list = c.in-Ok-new.list.rows in
    let reduced = subst (λ x. IsReduced (g.R.Ring.modulus x) (length list) (lead_at list) (row_at (g.R.Ring.value x) list)) c.ring-ring.ensures
    c.in-Ok-new.ensures.ok.reduced in
    let nothing : (n : ℕ) → n < count_of t.columns → LeavesNothingOfShare m t.columns share.id.index share.id.of (length list)
    (lead_at list) (row_at value list) n =
    rw c.in-Ok-None-first_missing.field-0-is at c.in-Ok-None-first_missing.ensures in
    let result = is_result value m t.columns share.id.index share.id.of rows (row_at value combinations) good list c.in-Ok-new.ensures.rows reduced within.below
    nothing in
    found zero has value share rows combinations read told m c.requires.modulus t.columns c.requires.table Whole result

pub returns-in-Ok-Some-first_missing-clause-missing : goal.returns-in-Ok-Some-first_missing-clause-missing
returns-in-Ok-Some-first_missing-clause-missing g c = λ n rest e.
    let t = c.args.table.now in
    let share = c.args.share.now in
    let zero = g.R.Ring.zero in
    let has = g.R.Ring.has t.ring in
    let value = g.R.Ring.value t.ring in
    let rows = c.in-Ok.rows.items in
    let read = moved-read zero g.R.Ring.has g.R.Ring.value c.ring-ring.result.now t.ring c.ring-ring.ensures rows_of c.as_slice-entries.result.now share.rows
    c.as_slice-entries.ensures rows c.in-Ok.ensures in
    let combinations = c.in-Ok-combinations_of.combinations.items in
    let told = moved-read zero g.R.Ring.has g.R.Ring.value c.ring-ring.result.now t.ring c.ring-ring.ensures combinations_of c.as_slice-entries.result.now
    share.rows c.as_slice-entries.ensures combinations c.in-Ok-combinations_of.ensures in
    let m = g.R.Ring.modulus t.ring in
    let good = are_good value m t.columns share.id.index share.id.of rows combinations c.deref.result.now c.deref-2.result.now c.deref.ensures.value
    c.deref-2.ensures.value c.in-Ok-None.field-0 c.in-Ok-None.ensures c.in-Ok-None.field-0-is in
    let list = c.in-Ok-new.list.rows in
    let reduced = subst (λ x. IsReduced (g.R.Ring.modulus x) (length list) (lead_at list) (row_at (g.R.Ring.value x) list)) c.ring-ring.ensures
    c.in-Ok-new.ensures.ok.reduced in
    let j = c.in-Ok-Some-first_missing.n in
    let pairs = c.in-Ok-Some-first_missing.rest in
    let left : IsTold m t.columns share.id.index share.id.of (length list) (lead_at list) (row_at value list) j pairs =
    rw c.in-Ok-Some-first_missing.field-0-is at c.in-Ok-Some-first_missing.ensures in
    let same = same-missing j n pairs rest e in
    found zero has value share rows combinations read told m c.requires.modulus t.columns c.requires.table (Missing n (residues_at rest))
    (is_missing value m t.columns share.id.index share.id.of rows (row_at value combinations) good list c.in-Ok-new.ensures.rows reduced j n pairs rest
    same.0 same.1 left)

pub returns-in-Ok-Some-first_missing-clause-rest_columns : goal.returns-in-Ok-Some-first_missing-clause-rest_columns
returns-in-Ok-Some-first_missing-clause-rest_columns g c = λ n rest e.
    let t = c.args.table.now in
    let share = c.args.share.now in
    let value = g.R.Ring.value t.ring in
    let m = g.R.Ring.modulus t.ring in
    let list = c.in-Ok-new.list.rows in
    let j = c.in-Ok-Some-first_missing.n in
    let pairs = c.in-Ok-Some-first_missing.rest in
    let left : IsTold m t.columns share.id.index share.id.of (length list) (lead_at list) (row_at value list) j pairs =
    rw c.in-Ok-Some-first_missing.field-0-is at c.in-Ok-Some-first_missing.ensures in
    let same = same-missing j n pairs rest e in
    subst (λ high. IsBelow (λ k. k) high rest) (columns_are share.params t.columns c.requires.table)
    (subst (IsBelow (λ k. k) (length t.columns.list)) same.1 left.below)
