use Rattle.std.proofs.Common.{◌≡◌, List, length, sym, ◌∙◌, ap, subst, arith}
use Rattle.std.specs.Prelude.{IfSome}
use Rattle.outside_io.specs.Moments.{IsImage}
use Rattle.lyndon_polys.specs.Tables.{RingTable}
use Rattle.page_codec.specs.declared.page.Page.{Page}
use Rattle.page_file.specs.Notes.{Notes, Suits, count_of as page_count}
use Rattle.page_file.specs.Stays.{Leaves}
use Rattle.table_model.specs.Conversion.{Converts}
use Rattle.file_model.specs.TableOf.{IsTableOf}
use Rattle.file_model.specs.Prefixes.{HasPages}
use Rattle.file_model.specs.Builds.{IsOurs, IsLeft}
use Rattle.file_model.proofs.ParamColumns.{relations_are}
use Rattle.table_build.specs.Resumes.{Tells, fault_says, result_says, HasWorked, CanTell}
use Rattle.table_build.proofs.Keepings.{stays_same}
use Rattle.table_build.proofs.Resumings.{leaves_on, ours_there, word_ends, word_can_tell}
use Rattle.table_build.proofs.resuming.resume.Goals as goal

pub resume_table-requires : goal.resume_table-requires
resume_table-requires g c =
    let params = c.args.params.now in
    let o = c.in-Ok-new.offering in
    let made = c.in-Ok-new.ensures in
    let of = c.in-Ok-table_of.ensures in
    let here = c.in-Ok-open.ensures in
    let table : o.table ≡ c.in-Ok-table_of.table = made.table in
    let old = g.D.Disk.trace c.args.disk.now in
    let same : g.D.Disk.trace c.open.new.disk ≡ old = c.open.ensures.same in
    record {
      params = c.requires.params;
      columns = subst (λ (x : RingTable g.row.R.Denot). IsTableOf params x.columns) (sym table) of.columns;
      modulus = ap (λ (x : RingTable g.row.R.Denot). g.R.Ring.modulus x.ring) table ∙ ap g.R.Ring.modulus of.ring ∙ c.requires.modulus;
      converts = subst (λ (x : RingTable g.row.R.Denot). Converts params.modulus x.columns) (sym table) of.converts;
      few = made.count.1;
      can = made.can;
      none = made.rows;
      live = here.live;
      noted = omega (arith, c.file.invariant.0.some, ap (λ (n : Notes). length n.gates) c.file.view_is);
      suits = subst (λ x. IfSome x (λ t. Suits c.in-Ok-open.file t.now.contents)) (sym same) here.suits;
      ours = subst (λ x. IfSome x (λ t. (sealed : List Page) × IsOurs params t.now.contents sealed)) (sym same)
          (ours_there params old (page_count c.in-Ok-open.file) here.ours);
      pages = omega (arith, here.few, made.count.0, c.in-Ok.ensures, relations_are params c.in-Ok-table_of.table.columns of.columns);
      image = subst (λ x. IfSome x (λ t. IsImage t.now t.now.contents)) (sym same) here.image;
    }

pub returns-clause-ends : goal.returns-clause-ends
returns-clause-ends g c = subst (λ x. Tells c.args.params.now x (result_says c.resume_table.result)) c.open.ensures.same c.resume_table.ensures.ends

pub returns-clause-left : goal.returns-clause-left
returns-clause-left g c =
    subst (λ x. HasWorked c.resume_table.result → Leaves (λ t bytes. IsLeft c.args.params.now t.now.contents bytes) x
    (g.D.Disk.trace c.resume_table.new.disk)) c.open.ensures.same c.resume_table.ensures.left

pub returns-clause-goes_on : goal.returns-clause-goes_on
returns-clause-goes_on g c =
    let params = c.args.params.now in
    let new = g.D.Disk.trace c.resume_table.new.disk in
    leaves_on params (g.D.Disk.trace c.args.disk.now) new c.resume_table.result
    (subst (λ x. Tells params x (result_says c.resume_table.result)) c.open.ensures.same c.resume_table.ensures.ends)
    (subst (λ x. HasWorked c.resume_table.result → Leaves (λ t bytes. IsLeft params t.now.contents bytes) x new) c.open.ensures.same
    c.resume_table.ensures.left)

pub returns-in-Err-table_of-clause-ends : goal.returns-in-Err-table_of-clause-ends
returns-in-Err-table_of-clause-ends g c =
    let params = c.args.params.now in
    let old = g.D.Disk.trace c.args.disk.now in
    subst (λ f. Tells params old (fault_says f)) (sym c.word_fault.ensures) (word_ends params old c.in-Err-table_of.fault
    (ours_there params old (page_count c.in-Ok-open.file) c.in-Ok-open.ensures.ours) c.in-Err-table_of.ensures.fault)

pub returns-in-Err-table_of-clause-moments : goal.returns-in-Err-table_of-clause-moments
returns-in-Err-table_of-clause-moments g c = λ k. stays_same (HasPages c.args.params.now k) (g.D.Disk.trace c.args.disk.now) (g.D.Disk.trace c.open.new.disk)
    c.open.ensures.same

pub returns-in-Err-table_of-clause-can_tell : goal.returns-in-Err-table_of-clause-can_tell
returns-in-Err-table_of-clause-can_tell g c =
    subst CanTell (sym c.word_fault.ensures) (word_can_tell c.args.params.now c.in-Err-table_of.fault c.in-Err-table_of.ensures.fault)
