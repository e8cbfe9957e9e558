use Rattle.std.proofs.Common.{◌≡◌, ℕ, ◌+◌, ◌/◌, ◌<◌, length, refl, sym, ◌∙◌, ap, subst, arith}
use Rattle.std.specs.Prelude.{None}
use Rattle.outside_io.specs.Causes.{Rose}
use Rattle.lyndon_polys.specs.Tables.{RingTable}
use Rattle.page_codec.specs.Places.{block_count}
use Rattle.table_model.specs.ListedSpan.{count_of}
use Rattle.table_model.specs.ReducedRows.{BreaksFirst}
use Rattle.table_build.specs.Inner.{IsReadyAt, IsEnd, AreFinals, Holds}
use Rattle.table_build.proofs.NamedValues.{count_is}
use Rattle.table_build.proofs.Keepings.{keeps_then, keeps_untold}
use Rattle.table_build.proofs.CauseSteps.{cause_more}
use Rattle.table_build.proofs.BuildEndings.{rose_since}
use Rattle.table_build.proofs.WorkSteps.{finals_there, end_of}
use Rattle.table_build.proofs.BlockWork.{rows_few}
use Rattle.table_build.proofs.building.work.Goals as goal

pub seal_finals-requires-clause-few_rows : goal.seal_finals-requires-clause-few_rows
seal_finals-requires-clause-few_rows g c =
    let o = c.work_on_blocks.new.offering in
    let done = c.in_default.ensures in
    let r = o.echelon.ring in
    let few = rows_few (g.R.Ring.modulus r) (g.R.Ring.has r) (g.R.Ring.value r) g.R.Ring.zero o.echelon.columns c.in-Ok.finals.rows.rows c.in-Ok.ensures.ok in
    omega (arith, few, done.can.columns, done.can.few)

pub returns-in-Ok-seal_finals-clause-relations : goal.returns-in-Ok-seal_finals-clause-relations
returns-in-Ok-seal_finals-clause-relations g c =
    let can = c.requires.can in
    omega (arith, c.len-relations.ensures, count_is c.args.offering.now.names.items c.args.offering.now.table.columns can.names_are)

pub returns-in-Ok-seal_finals-clause-ready : goal.returns-in-Ok-seal_finals-clause-ready
returns-in-Ok-seal_finals-clause-ready g c =
    let t = c.args.offering.now.table in
    let can = c.requires.can in
    let relations : c.len-relations.result ≡ count_of t.columns =
    omega (arith, c.len-relations.ensures, count_is c.args.offering.now.names.items t.columns can.names_are) in
    let all : (c.len-relations.result + 63) / 64 ≡ block_count (count_of t.columns) =
    ap (λ x. (x + 63) / 64) relations in
    let rows : length c.in-Ok.finals.rows.rows ≡ c.len.result = sym c.len.ensures in
    subst (λ k. IsReadyAt k c.seal_finals.new.file) (λ i. 2 + all i + block_count (rows i)) c.in-Ok-seal_finals.ensures.ready

pub returns-in-Ok-seal_finals-clause-keeps : goal.returns-in-Ok-seal_finals-clause-keeps
returns-in-Ok-seal_finals-clause-keeps g c = λ course at.
    let t = c.args.offering.now.table in
    let o = c.work_on_blocks.new.offering in
    let s = c.work_on_blocks.new.sealed in
    let done = c.in_default.ensures in
    let found = c.in-Ok.ensures in
    let can = c.requires.can in
    let first = g.D.Disk.trace c.args.disk.now in
    let mid = g.D.Disk.trace c.work_on_blocks.new.disk in
    let now = g.D.Disk.trace c.seal_finals.new.disk in
    let table_ring : o.table.ring ≡ t.ring = ap (λ (x : RingTable g.row.R.Denot). x.ring) done.table in
    let blocks : ℕ = (c.len-relations.result + 63) / 64 in
    let relations : c.len-relations.result ≡ count_of t.columns =
    omega (arith, c.len-relations.ensures, count_is c.args.offering.now.names.items t.columns can.names_are) in
    let all : blocks ≡ block_count (count_of t.columns) =
    ap (λ x. (x + 63) / 64) relations in
    keeps_then course.pages (1 + c.args.first) (1 + blocks + 0) first mid now (omega arith) (done.keeps course at)
    (c.seal_finals.ensures.keeps t.columns course all
    (finals_there g.R.Ring.modulus g.R.Ring.has g.R.Ring.value t.ring o.echelon.ring c.ring.result.now t.columns course blocks s.numbers.items
    o.echelon.numbers
    s.rows.items o.echelon.rows c.in-Ok.finals.rows.rows c.in-Ok.finals.uses.items mid (done.can.ring ∙ table_ring)
    (c.ring.ensures ∙ table_ring) done.numbers done.same_rows all
    found.ok.reduced found.span found.uses (done.at course at)))

pub returns-in-Ok-seal_finals-clause-end : goal.returns-in-Ok-seal_finals-clause-end
returns-in-Ok-seal_finals-clause-end g c = λ course at.
    let t = c.args.offering.now.table in
    let o = c.work_on_blocks.new.offering in
    let s = c.work_on_blocks.new.sealed in
    let done = c.in_default.ensures in
    let found = c.in-Ok.ensures in
    let can = c.requires.can in
    let first = g.D.Disk.trace c.args.disk.now in
    let mid = g.D.Disk.trace c.work_on_blocks.new.disk in
    let now = g.D.Disk.trace c.seal_finals.new.disk in
    let table_ring : o.table.ring ≡ t.ring = ap (λ (x : RingTable g.row.R.Denot). x.ring) done.table in
    let blocks : ℕ = (c.len-relations.result + 63) / 64 in
    let relations : c.len-relations.result ≡ count_of t.columns =
    omega (arith, c.len-relations.ensures, count_is c.args.offering.now.names.items t.columns can.names_are) in
    let all : blocks ≡ block_count (count_of t.columns) =
    ap (λ x. (x + 63) / 64) relations in
    let here : AreFinals (g.R.Ring.modulus t.ring) (g.R.Ring.value t.ring) t.columns course (1 + blocks + 0) s.numbers.items s.rows.items
    c.in-Ok.finals.rows.rows
    c.in-Ok.finals.uses.items mid =
    finals_there g.R.Ring.modulus g.R.Ring.has g.R.Ring.value t.ring o.echelon.ring t.ring t.columns course blocks s.numbers.items o.echelon.numbers
    s.rows.items o.echelon.rows c.in-Ok.finals.rows.rows c.in-Ok.finals.uses.items mid (done.can.ring ∙ table_ring) refl done.numbers done.same_rows all
    found.ok.reduced found.span found.uses (done.at course at) in
    let rows : length c.in-Ok.finals.rows.rows ≡ c.len.result = sym c.len.ensures in
    subst (λ k. IsEnd (g.R.Ring.modulus t.ring) t.columns course k now) rows
    (end_of (g.R.Ring.modulus t.ring) (g.R.Ring.value t.ring) t.columns course s.numbers.items s.rows.items c.in-Ok.finals.rows.rows now here.finished
    (c.in-Ok-seal_finals.ensures.holds t.columns course all
    (finals_there g.R.Ring.modulus g.R.Ring.has g.R.Ring.value t.ring o.echelon.ring c.ring.result.now t.columns course blocks s.numbers.items
    o.echelon.numbers
    s.rows.items o.echelon.rows c.in-Ok.finals.rows.rows c.in-Ok.finals.uses.items mid (done.can.ring ∙ table_ring)
    (c.ring.ensures ∙ table_ring) done.numbers done.same_rows all
    found.ok.reduced found.span found.uses (done.at course at))))

pub returns-clause-keeps : goal.returns-clause-keeps
returns-clause-keeps g c = λ course at.
    let t = c.args.offering.now.table in
    let o = c.work_on_blocks.new.offering in
    let s = c.work_on_blocks.new.sealed in
    let done = c.in_default.ensures in
    let found = c.in-Ok.ensures in
    let can = c.requires.can in
    let first = g.D.Disk.trace c.args.disk.now in
    let mid = g.D.Disk.trace c.work_on_blocks.new.disk in
    let now = g.D.Disk.trace c.seal_finals.new.disk in
    let table_ring : o.table.ring ≡ t.ring = ap (λ (x : RingTable g.row.R.Denot). x.ring) done.table in
    let blocks : ℕ = (c.len-relations.result + 63) / 64 in
    let relations : c.len-relations.result ≡ count_of t.columns =
    omega (arith, c.len-relations.ensures, count_is c.args.offering.now.names.items t.columns can.names_are) in
    let all : blocks ≡ block_count (count_of t.columns) =
    ap (λ x. (x + 63) / 64) relations in
    keeps_then course.pages (1 + c.args.first) (1 + blocks + 0) first mid now (omega arith) (done.keeps course at)
    (c.seal_finals.ensures.keeps t.columns course all
    (finals_there g.R.Ring.modulus g.R.Ring.has g.R.Ring.value t.ring o.echelon.ring c.ring.result.now t.columns course blocks s.numbers.items
    o.echelon.numbers
    s.rows.items o.echelon.rows c.in-Ok.finals.rows.rows c.in-Ok.finals.uses.items mid (done.can.ring ∙ table_ring)
    (c.ring.ensures ∙ table_ring) done.numbers done.same_rows all
    found.ok.reduced found.span found.uses (done.at course at)))

pub returns-clause-fault : goal.returns-clause-fault
returns-clause-fault g c = λ course at.
    let t = c.args.offering.now.table in
    let o = c.work_on_blocks.new.offering in
    let s = c.work_on_blocks.new.sealed in
    let done = c.in_default.ensures in
    let found = c.in-Ok.ensures in
    let can = c.requires.can in
    let first = g.D.Disk.trace c.args.disk.now in
    let mid = g.D.Disk.trace c.work_on_blocks.new.disk in
    let now = g.D.Disk.trace c.seal_finals.new.disk in
    let table_ring : o.table.ring ≡ t.ring = ap (λ (x : RingTable g.row.R.Denot). x.ring) done.table in
    let blocks : ℕ = (c.len-relations.result + 63) / 64 in
    let relations : c.len-relations.result ≡ count_of t.columns =
    omega (arith, c.len-relations.ensures, count_is c.args.offering.now.names.items t.columns can.names_are) in
    let all : blocks ≡ block_count (count_of t.columns) =
    ap (λ x. (x + 63) / 64) relations in
    let a = g.D.Disk.faults c.args.disk.now in
    let b = g.D.Disk.faults c.work_on_blocks.new.disk in
    let d = g.D.Disk.faults c.seal_finals.new.disk in
    cause_more (Rose b d) (mid ≡ None) (Rose a d) (first ≡ None) (λ _ _. ⊥)
    (λ residue n. (n < count_of t.columns) × BreaksFirst (g.R.Ring.modulus t.ring) t.columns course.work.sums n residue × Holds course.pages (1 + n / 64) now)
    (rose_since a b d done.faults) (keeps_untold course.pages (1 + c.args.first) first mid (done.keeps course at)) (λ residue n none. absurd none)
    c.in-Err-seal_finals.fault
    (c.in-Err-seal_finals.ensures.fault t.columns course all
    (finals_there g.R.Ring.modulus g.R.Ring.has g.R.Ring.value t.ring o.echelon.ring c.ring.result.now t.columns course blocks s.numbers.items
    o.echelon.numbers
    s.rows.items o.echelon.rows c.in-Ok.finals.rows.rows c.in-Ok.finals.uses.items mid (done.can.ring ∙ table_ring)
    (c.ring.ensures ∙ table_ring) done.numbers done.same_rows all
    found.ok.reduced found.span found.uses (done.at course at)))
