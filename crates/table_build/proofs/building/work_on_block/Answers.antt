use Rattle.std.proofs.Common.{◌≡◌, ◌+◌, ◌*◌, ◌/◌, ◌<◌, ◌≤◌, ◌++◌, refl, sym, ◌∙◌, ap, subst, arith}
use Rattle.std.specs.Prelude.{None}
use Rattle.outside_io.specs.Causes.{Rose}
use Rattle.lyndon_polys.specs.Tables.{RingTable}
use Rattle.table_model.specs.ListedSpan.{count_of}
use Rattle.table_model.specs.ReducedRows.{BreaksFirst}
use Rattle.table_build.specs.Faults.{HasCauseIn}
use Rattle.table_build.specs.Inner.{AreRows, IsBlock, Holds, IsAt}
use Rattle.table_build.proofs.NamedValues.{count_is}
use Rattle.table_build.proofs.Keepings.{keeps_same}
use Rattle.table_build.proofs.CauseSteps.{cause_more}
use Rattle.table_build.proofs.BlockWork.{on_ok_two, on_ok_three, if_err, offered_before, block_at, at_next, rows_of_block}
use Rattle.table_build.proofs.building.work_on_block.Goals as goal

pub returns-in-Err-clause-keeps : goal.returns-in-Err-clause-keeps
returns-in-Err-clause-keeps g c = λ course at.
    keeps_same course.pages (1 + c.args.number) (g.D.Disk.trace c.args.disk.now) (g.D.Disk.trace c.args.disk.now) refl

pub returns-in-Err-clause-fault : goal.returns-in-Err-clause-fault
returns-in-Err-clause-fault g c = λ course at.
    let t = c.args.offering.now.table in
    let m = g.R.Ring.modulus t.ring in
    let number = c.args.number in
    let can = c.requires.can in
    let told = g.D.Disk.trace c.args.disk.now in
    let sums = course.work.sums in
    let whole = count_is c.args.offering.now.names.items t.columns can.names_are in
    let some : 64 * number < count_of t.columns = omega (arith, c.requires.some, whole) in
    cause_more ⊥ ⊥ (Rose (g.D.Disk.faults c.args.disk.now) (g.D.Disk.faults c.args.disk.now)) (told ≡ None)
    (λ value n. (64 * number ≤ n) × (n < c.min-end.result) × BreaksFirst m t.columns sums n value)
    (λ value n. (n < count_of t.columns) × BreaksFirst m t.columns sums n value × Holds course.pages (1 + n / 64) told)
    (λ none. absurd none) (λ none. absurd none)
    (λ value n (low, high, breaks). (
      omega (arith, high, whole, c.min-end.ensures, c.len.ensures),
      breaks,
      subst (λ k. Holds course.pages k told)
          (let z : 1 + number ≡ 1 + n / 64 = omega (arith, low, high, c.min-end.ensures) in z) at.holds,
    )) c.in-Err.fault
    (c.in-Err.ensures.fault course (offered_before m (g.R.Ring.value t.ring) t.columns course number c.args.sealed.now.numbers.items
    c.args.sealed.now.rows.items told
    at some c.args.offering.now.echelon.numbers c.args.offering.now.echelon.rows c.requires.numbers c.requires.same_rows))

pub returns-clause-rows : goal.returns-clause-rows
returns-clause-rows g c =
    let t = c.args.offering.now.table in
    let number = c.args.number in
    let block = c.in-Ok.block in
    let sealed = c.args.sealed.now in
    let new = c.seal_block.new.sealed in
    let told = c.in-Ok.ensures in
    let has = g.R.Ring.has t.ring in
    on_ok_two (new.numbers.items ≡ sealed.numbers.items ++ block.kept.numbers.items) (new.rows.items ≡ sealed.rows.items ++ block.kept.rows.items)
    (AreRows has (64 * (1 + number)) new.numbers.items new.rows.items) c.seal_block.result c.seal_block.ensures.numbers c.seal_block.ensures.rows
    (λ en er. rows_of_block has (64 * number) c.min-end.result sealed.numbers.items block.kept.numbers.items new.numbers.items sealed.rows.items
    block.kept.rows.items
    new.rows.items c.requires.rows told.placed (omega (arith, c.min-end.ensures, c.len.ensures, c.requires.some)) told.behind en er (64 * (1 + number))
    (omega (arith, c.min-end.ensures)))

pub returns-clause-keeps : goal.returns-clause-keeps
returns-clause-keeps g c = λ course at.
    let t = c.args.offering.now.table in
    let number = c.args.number in
    let block = c.in-Ok.block in
    let sealed = c.args.sealed.now in
    let old = c.args.offering.now.echelon in
    let new = c.offer_block.new.offering in
    let told = c.in-Ok.ensures in
    let trace = g.D.Disk.trace c.args.disk.now in
    let can = c.requires.can in
    let m = g.R.Ring.modulus t.ring in
    let value = g.R.Ring.value t.ring in
    let whole = count_is c.args.offering.now.names.items t.columns can.names_are in
    let some : 64 * number < count_of t.columns = omega (arith, c.requires.some, whole) in
    let before = offered_before m value t.columns course number sealed.numbers.items sealed.rows.items trace at some old.numbers old.rows c.requires.numbers
    c.requires.same_rows in
    let made : IsBlock m value t.columns course number sealed.numbers.items sealed.rows.items block.kept.numbers.items block.kept.rows.items block.uses.items
    block.starts.items trace =
    block_at m value t.columns course number sealed.numbers.items sealed.rows.items trace at some c.min-end.result
    (omega (arith, c.min-end.ensures, c.len.ensures, whole)) new.echelon.numbers block.kept.numbers.items new.echelon.rows block.kept.rows.items
    block.uses.items
    block.starts.items old.numbers old.rows c.requires.numbers c.requires.same_rows told.numbers told.rows (told.offered course before)
    (told.fresh course before) in
    let ring : c.ring.result.now ≡ t.ring = c.ring.ensures ∙ ap (λ (x : RingTable g.row.R.Denot). x.ring) told.table.0 in
    c.seal_block.ensures.keeps t.columns course
    (subst (λ r. IsBlock (g.R.Ring.modulus r) (g.R.Ring.value r) t.columns course number sealed.numbers.items sealed.rows.items block.kept.numbers.items
    block.kept.rows.items block.uses.items block.starts.items trace) (sym ring) made)

pub returns-clause-at : goal.returns-clause-at
returns-clause-at g c = λ course at.
    let t = c.args.offering.now.table in
    let number = c.args.number in
    let block = c.in-Ok.block in
    let sealed = c.args.sealed.now in
    let old = c.args.offering.now.echelon in
    let new = c.offer_block.new.offering in
    let next = c.seal_block.new.sealed in
    let told = c.in-Ok.ensures in
    let trace = g.D.Disk.trace c.args.disk.now in
    let now = g.D.Disk.trace c.seal_block.new.disk in
    let can = c.requires.can in
    let m = g.R.Ring.modulus t.ring in
    let value = g.R.Ring.value t.ring in
    let whole = count_is c.args.offering.now.names.items t.columns can.names_are in
    let some : 64 * number < count_of t.columns = omega (arith, c.requires.some, whole) in
    let before = offered_before m value t.columns course number sealed.numbers.items sealed.rows.items trace at some old.numbers old.rows c.requires.numbers
    c.requires.same_rows in
    let made : IsBlock m value t.columns course number sealed.numbers.items sealed.rows.items block.kept.numbers.items block.kept.rows.items block.uses.items
    block.starts.items trace =
    block_at m value t.columns course number sealed.numbers.items sealed.rows.items trace at some c.min-end.result
    (omega (arith, c.min-end.ensures, c.len.ensures, whole)) new.echelon.numbers block.kept.numbers.items new.echelon.rows block.kept.rows.items
    block.uses.items
    block.starts.items old.numbers old.rows c.requires.numbers c.requires.same_rows told.numbers told.rows (told.offered course before)
    (told.fresh course before) in
    let ring : c.ring.result.now ≡ t.ring = c.ring.ensures ∙ ap (λ (x : RingTable g.row.R.Denot). x.ring) told.table.0 in
    on_ok_three (next.numbers.items ≡ sealed.numbers.items ++ block.kept.numbers.items) (next.rows.items ≡ sealed.rows.items ++ block.kept.rows.items)
    (Holds course.pages (2 + number) now) (IsAt m value t.columns course (1 + number) next.numbers.items next.rows.items now) c.seal_block.result
    c.seal_block.ensures.numbers c.seal_block.ensures.rows
    (c.seal_block.ensures.holds t.columns course
    (subst (λ r. IsBlock (g.R.Ring.modulus r) (g.R.Ring.value r) t.columns course number sealed.numbers.items sealed.rows.items block.kept.numbers.items
    block.kept.rows.items block.uses.items block.starts.items trace) (sym ring) made))
    (λ en er holds. at_next m value t.columns course number sealed.numbers.items sealed.rows.items block.kept.numbers.items block.kept.rows.items
    block.uses.items
    block.starts.items trace now made next.numbers.items next.rows.items en er holds)

pub returns-clause-fault : goal.returns-clause-fault
returns-clause-fault g c = λ course at.
    let t = c.args.offering.now.table in
    let number = c.args.number in
    let block = c.in-Ok.block in
    let sealed = c.args.sealed.now in
    let old = c.args.offering.now.echelon in
    let new = c.offer_block.new.offering in
    let told = c.in-Ok.ensures in
    let trace = g.D.Disk.trace c.args.disk.now in
    let now = g.D.Disk.trace c.seal_block.new.disk in
    let can = c.requires.can in
    let m = g.R.Ring.modulus t.ring in
    let value = g.R.Ring.value t.ring in
    let rose = Rose (g.D.Disk.faults c.args.disk.now) (g.D.Disk.faults c.seal_block.new.disk) in
    let whole = count_is c.args.offering.now.names.items t.columns can.names_are in
    let some : 64 * number < count_of t.columns = omega (arith, c.requires.some, whole) in
    let before = offered_before m value t.columns course number sealed.numbers.items sealed.rows.items trace at some old.numbers old.rows c.requires.numbers
    c.requires.same_rows in
    let made : IsBlock m value t.columns course number sealed.numbers.items sealed.rows.items block.kept.numbers.items block.kept.rows.items block.uses.items
    block.starts.items trace =
    block_at m value t.columns course number sealed.numbers.items sealed.rows.items trace at some c.min-end.result
    (omega (arith, c.min-end.ensures, c.len.ensures, whole)) new.echelon.numbers block.kept.numbers.items new.echelon.rows block.kept.rows.items
    block.uses.items
    block.starts.items old.numbers old.rows c.requires.numbers c.requires.same_rows told.numbers told.rows (told.offered course before)
    (told.fresh course before) in
    let ring : c.ring.result.now ≡ t.ring = c.ring.ensures ∙ ap (λ (x : RingTable g.row.R.Denot). x.ring) told.table.0 in
    if_err (HasCauseIn rose (trace ≡ None) (λ _ _. ⊥))
    (HasCauseIn rose (trace ≡ None) (λ residue n. (n < count_of t.columns) × BreaksFirst m t.columns course.work.sums n residue
    × Holds course.pages (1 + n / 64) now))
    c.seal_block.result
    (λ fault. cause_more rose (trace ≡ None) rose (trace ≡ None) (λ _ _. ⊥)
    (λ residue n. (n < count_of t.columns) × BreaksFirst m t.columns course.work.sums n residue × Holds course.pages (1 + n / 64) now) (λ x. x) (λ x. x)
    (λ residue n none. absurd none) fault)
    (c.seal_block.ensures.fault t.columns course
    (subst (λ r. IsBlock (g.R.Ring.modulus r) (g.R.Ring.value r) t.columns course number sealed.numbers.items sealed.rows.items block.kept.numbers.items
    block.kept.rows.items block.uses.items block.starts.items trace) (sym ring) made))
