use Rattle.std.proofs.Common.{◌≡◌, ◌∙◌, ap, sym, subst, arith}
use Rattle.std.specs.Prelude.{IfSome}
use Rattle.outside_io.specs.Causes.{Rose}
use Rattle.outside_io.specs.Moments.{IsImage}
use Rattle.file_model.specs.Prefixes.{HasPages}
use Rattle.table_build.specs.Answers.{figures_of}
use Rattle.table_build.specs.Faults.{IsTableFault}
use Rattle.table_build.proofs.Keepings.{stays_same}
use Rattle.table_build.proofs.TableFaults.{told_word, no_word}
use Rattle.table_build.proofs.BuildEndings.{empty_there, refused_ends, build_moments, build_ends, build_left, broken_ends, broken_left, broken_told, broken_rose, rose_since}
use Rattle.table_build.proofs.table_file.build.Goals as goal

pub returns-in-Err-table_of-clause-ends : goal.returns-in-Err-table_of-clause-ends
returns-in-Err-table_of-clause-ends g c =
    let told = g.D.Disk.trace c.args.disk.now in
    refused_ends c.args.params.now told (empty_there told c.in-Ok.len (omega (arith, c.if-len-gt0.false)) c.in-Ok.ensures.length) c.table_fault.result
    (subst (IsTableFault c.args.params.now) (sym c.table_fault.ensures) c.in-Err-table_of.ensures.fault)

pub returns-in-Err-table_of-clause-moments : goal.returns-in-Err-table_of-clause-moments
returns-in-Err-table_of-clause-moments g c = λ k. stays_same (HasPages c.args.params.now k) (g.D.Disk.trace c.args.disk.now)
    (g.D.Disk.trace c.len.new.self) c.len.ensures.same

pub returns-in-Ok-build_table-clause-ends : goal.returns-in-Ok-build_table-clause-ends
returns-in-Ok-build_table-clause-ends g c =
    let params = c.args.params.now in
    let t = c.in-Ok-table_of.table in
    let table = c.in-Ok-table_of.ensures in
    let modulus : g.R.Ring.modulus t.ring ≡ params.modulus = ap g.R.Ring.modulus table.ring ∙ c.requires.modulus in
    let old = g.D.Disk.trace c.args.disk.now in
    let mid = g.D.Disk.trace c.len.new.self in
    let new = g.D.Disk.trace c.build_table.new.disk in
    let none = empty_there old c.in-Ok.len (omega (arith, c.if-len-gt0.false)) c.in-Ok.ensures.length in
    let built = c.in-Ok-build_table in
    build_ends params c.requires.params t.columns table.columns table.converts (g.R.Ring.modulus t.ring) modulus old mid new c.len.ensures.same none
    (figures_of built.built) built.ensures.relations.0 built.ensures.relations.1 built.ensures.end

pub returns-in-Ok-build_table-clause-left : goal.returns-in-Ok-build_table-clause-left
returns-in-Ok-build_table-clause-left g c = λ worked.
    let params = c.args.params.now in
    let t = c.in-Ok-table_of.table in
    let table = c.in-Ok-table_of.ensures in
    let modulus : g.R.Ring.modulus t.ring ≡ params.modulus = ap g.R.Ring.modulus table.ring ∙ c.requires.modulus in
    let old = g.D.Disk.trace c.args.disk.now in
    let mid = g.D.Disk.trace c.len.new.self in
    let new = g.D.Disk.trace c.build_table.new.disk in
    let none = empty_there old c.in-Ok.len (omega (arith, c.if-len-gt0.false)) c.in-Ok.ensures.length in
    let built = c.in-Ok-build_table in
    build_left params c.requires.params t.columns table.columns table.converts (g.R.Ring.modulus t.ring) modulus old mid new c.len.ensures.same none
    built.built.rows built.built.pages c.build_table.ensures.keeps built.ensures.end

pub returns-in-Ok-build_table-clause-moments : goal.returns-in-Ok-build_table-clause-moments
returns-in-Ok-build_table-clause-moments g c =
    let params = c.args.params.now in
    let t = c.in-Ok-table_of.table in
    let table = c.in-Ok-table_of.ensures in
    let modulus : g.R.Ring.modulus t.ring ≡ params.modulus = ap g.R.Ring.modulus table.ring ∙ c.requires.modulus in
    let old = g.D.Disk.trace c.args.disk.now in
    let mid = g.D.Disk.trace c.len.new.self in
    let new = g.D.Disk.trace c.build_table.new.disk in
    let none = empty_there old c.in-Ok.len (omega (arith, c.if-len-gt0.false)) c.in-Ok.ensures.length in
    let image : IfSome old (λ t. IsImage t.now t.now.contents) =
    subst (λ x. IfSome x (λ t. IsImage t.now t.now.contents)) c.len.ensures.same c.len.ensures.image in
    build_moments params c.requires.params t.columns table.columns table.converts (g.R.Ring.modulus t.ring) modulus old mid new c.len.ensures.same none
    c.build_table.ensures.keeps image

pub returns-in-Err-build_table-clause-moments : goal.returns-in-Err-build_table-clause-moments
returns-in-Err-build_table-clause-moments g c =
    let params = c.args.params.now in
    let t = c.in-Ok-table_of.table in
    let table = c.in-Ok-table_of.ensures in
    let modulus : g.R.Ring.modulus t.ring ≡ params.modulus = ap g.R.Ring.modulus table.ring ∙ c.requires.modulus in
    let old = g.D.Disk.trace c.args.disk.now in
    let mid = g.D.Disk.trace c.len.new.self in
    let new = g.D.Disk.trace c.build_table.new.disk in
    let none = empty_there old c.in-Ok.len (omega (arith, c.if-len-gt0.false)) c.in-Ok.ensures.length in
    let image : IfSome old (λ t. IsImage t.now t.now.contents) =
    subst (λ x. IfSome x (λ t. IsImage t.now t.now.contents)) c.len.ensures.same c.len.ensures.image in
    build_moments params c.requires.params t.columns table.columns table.converts (g.R.Ring.modulus t.ring) modulus old mid new c.len.ensures.same none
    c.build_table.ensures.keeps image

pub returns-in-Err-build_table-clause-ends : goal.returns-in-Err-build_table-clause-ends
returns-in-Err-build_table-clause-ends g c =
    let params = c.args.params.now in
    let t = c.in-Ok-table_of.table in
    let table = c.in-Ok-table_of.ensures in
    let modulus : g.R.Ring.modulus t.ring ≡ params.modulus = ap g.R.Ring.modulus table.ring ∙ c.requires.modulus in
    let old = g.D.Disk.trace c.args.disk.now in
    let mid = g.D.Disk.trace c.len.new.self in
    let new = g.D.Disk.trace c.build_table.new.disk in
    let none = empty_there old c.in-Ok.len (omega (arith, c.if-len-gt0.false)) c.in-Ok.ensures.length in
    let rose = Rose (g.D.Disk.faults c.len.new.self) (g.D.Disk.faults c.build_table.new.disk) in
    let fault = c.in-Err-build_table in
    broken_ends params c.requires.params t.columns table.columns table.converts (g.R.Ring.modulus t.ring) modulus old mid new c.len.ensures.same none
    rose fault.fault fault.ensures.fault c.build_fault.result c.build_fault.ensures

pub returns-in-Err-build_table-clause-left : goal.returns-in-Err-build_table-clause-left
returns-in-Err-build_table-clause-left g c = λ worked.
    let params = c.args.params.now in
    let t = c.in-Ok-table_of.table in
    let table = c.in-Ok-table_of.ensures in
    let modulus : g.R.Ring.modulus t.ring ≡ params.modulus = ap g.R.Ring.modulus table.ring ∙ c.requires.modulus in
    let old = g.D.Disk.trace c.args.disk.now in
    let mid = g.D.Disk.trace c.len.new.self in
    let new = g.D.Disk.trace c.build_table.new.disk in
    let none = empty_there old c.in-Ok.len (omega (arith, c.if-len-gt0.false)) c.in-Ok.ensures.length in
    let rose = Rose (g.D.Disk.faults c.len.new.self) (g.D.Disk.faults c.build_table.new.disk) in
    let fault = c.in-Err-build_table in
    broken_left params c.requires.params t.columns table.columns table.converts (g.R.Ring.modulus t.ring) modulus old mid new c.len.ensures.same none
    rose fault.fault fault.ensures.fault c.build_table.ensures.keeps c.build_fault.result c.build_fault.ensures worked

pub returns-in-Err-build_table-clause-told : goal.returns-in-Err-build_table-clause-told
returns-in-Err-build_table-clause-told g c = λ i e.
    let params = c.args.params.now in
    let t = c.in-Ok-table_of.table in
    let table = c.in-Ok-table_of.ensures in
    let modulus : g.R.Ring.modulus t.ring ≡ params.modulus = ap g.R.Ring.modulus table.ring ∙ c.requires.modulus in
    let old = g.D.Disk.trace c.args.disk.now in
    let mid = g.D.Disk.trace c.len.new.self in
    let new = g.D.Disk.trace c.build_table.new.disk in
    let none = empty_there old c.in-Ok.len (omega (arith, c.if-len-gt0.false)) c.in-Ok.ensures.length in
    let rose = Rose (g.D.Disk.faults c.len.new.self) (g.D.Disk.faults c.build_table.new.disk) in
    let fault = c.in-Err-build_table in
    broken_told params c.requires.params t.columns table.columns table.converts (g.R.Ring.modulus t.ring) modulus old mid new c.len.ensures.same none
    rose fault.fault fault.ensures.fault c.build_fault.result c.build_fault.ensures i e

pub returns-in-Err-build_table-clause-disk_fault : goal.returns-in-Err-build_table-clause-disk_fault
returns-in-Err-build_table-clause-disk_fault g c = λ e.
    let params = c.args.params.now in
    let t = c.in-Ok-table_of.table in
    let table = c.in-Ok-table_of.ensures in
    let modulus : g.R.Ring.modulus t.ring ≡ params.modulus = ap g.R.Ring.modulus table.ring ∙ c.requires.modulus in
    let old = g.D.Disk.trace c.args.disk.now in
    let mid = g.D.Disk.trace c.len.new.self in
    let new = g.D.Disk.trace c.build_table.new.disk in
    let none = empty_there old c.in-Ok.len (omega (arith, c.if-len-gt0.false)) c.in-Ok.ensures.length in
    let rose = Rose (g.D.Disk.faults c.len.new.self) (g.D.Disk.faults c.build_table.new.disk) in
    let fault = c.in-Err-build_table in
    rose_since (g.D.Disk.faults c.args.disk.now) (g.D.Disk.faults c.len.new.self) (g.D.Disk.faults c.build_table.new.disk) c.len.ensures.cause.later
    (broken_rose params c.requires.params t.columns table.columns table.converts (g.R.Ring.modulus t.ring) modulus old mid new c.len.ensures.same none
    rose fault.fault fault.ensures.fault c.build_fault.result c.build_fault.ensures e)

pub returns-in-Err-table_of-clause-word : goal.returns-in-Err-table_of-clause-word
returns-in-Err-table_of-clause-word g c =
    λ value word e. told_word c.args.params.now c.table_fault.result
    (subst (IsTableFault c.args.params.now) (sym c.table_fault.ensures) c.in-Err-table_of.ensures.fault) value word cc

pub returns-in-Err-build_table-clause-word : goal.returns-in-Err-build_table-clause-word
returns-in-Err-build_table-clause-word g c =
    λ value word e. absurd (no_word c.in-Err-build_table.fault value word (sym c.build_fault.ensures ∙ cc))

pub returns-in-Ok-build_table-clause-image : goal.returns-in-Ok-build_table-clause-image
returns-in-Ok-build_table-clause-image g c = λ ok. subst (λ x. IfSome x (λ t. IsImage t.now t.now.contents)) c.len.ensures.same c.len.ensures.image
