use Rattle.std.proofs.Common.{◌≡◌, ◌+◌, ◌-◌, ◌*◌, List, length, min, sym, ◌∙◌, ap, subst, arith}
use Rattle.std.specs.Prelude.{IfSome}
use Rattle.outside_io.specs.Moments.{IsImage}
use Rattle.lyndon_polys.specs.Tables.{RingTable}
use Rattle.page_codec.specs.declared.page.Page.{Page}
use Rattle.page_codec.specs.Places.{block_count}
use Rattle.page_file.specs.Notes.{Notes, Suits, count_of as page_count}
use Rattle.page_file.specs.Stays.{Leaves}
use Rattle.table_model.specs.Conversion.{Converts}
use Rattle.file_model.specs.TableOf.{IsTableOf}
use Rattle.file_model.specs.Prefixes.{HasPages}
use Rattle.file_model.specs.Resuming.{AllSuit, entries_of}
use Rattle.file_model.specs.Builds.{IsOurs, IsLeft}
use Rattle.file_model.specs.Stays.{Stays}
use Rattle.table_build.specs.Inner.{AreRows, AreRowsOn, CanOffer, IfSealed}
use Rattle.table_build.specs.Resumes.{Tells, result_says, HasWorked}
use Rattle.table_build.proofs.Keepings.{stays_same}
use Rattle.table_build.proofs.resuming.resume_table.Goals as goal

pub returns-in-Err-clause-left : goal.returns-in-Err-clause-left
returns-in-Err-clause-left g c = λ worked. absurd (c.in-Err.ensures.unworked worked)

pub returns-in-Err-clause-moments : goal.returns-in-Err-clause-moments
returns-in-Err-clause-moments g c = λ k. stays_same (HasPages c.args.params.now k) (g.D.Disk.trace c.args.disk.now)
    (g.D.Disk.trace c.restore_rows.new.disk) c.restore_rows.ensures.same

pub go_on_from_rows-requires : goal.go_on_from_rows-requires
go_on_from_rows-requires g c =
    let params = c.args.params.now in
    let o = c.restore_rows.new.offering in
    let kept = c.in-Ok.kept in
    let done = c.in-Ok.ensures in
    let told = c.restore_rows.ensures in
    let table : o.table ≡ c.args.offering.now.table = told.table.0 in
    let names = ap length told.table.1 in
    let file : c.restore_rows.new.file ≡ c.args.file.now = told.file in
    let noted = ap page_count file in
    let same : g.D.Disk.trace c.restore_rows.new.disk ≡ g.D.Disk.trace c.args.disk.now = told.same in
    let pages = c.min-pages.result in
    let at : pages ≡ min (page_count c.restore_rows.new.file) (1 + block_count (length o.names.items)) =
    omega (arith, c.min-pages.ensures, c.count.ensures, c.from.ensures, c.len.ensures, names, noted) in
    record {
      params = c.requires.params;
      columns = subst (λ (x : RingTable g.row.R.Denot). IsTableOf params x.columns) (sym table) c.requires.columns;
      modulus = ap (λ (x : RingTable g.row.R.Denot). g.R.Ring.modulus x.ring) table ∙ c.requires.modulus;
      converts = subst (λ (x : RingTable g.row.R.Denot). Converts params.modulus x.columns) (sym table) c.requires.converts;
      few = omega (arith, names, c.requires.few);
      live = ap (λ (n : Notes). n.is_live) file ∙ c.requires.live;
      noted = omega (arith, ap (λ (n : Notes). length n.gates) file, c.requires.noted);
      suits = subst (λ n. IfSome (g.D.Disk.trace c.restore_rows.new.disk) (λ t. Suits n t.now.contents)) (sym file)
          (subst (λ x. IfSome x (λ t. Suits c.args.file.now t.now.contents)) (sym same) c.requires.suits);
      ours = subst (λ x. IfSome x (λ t. (sealed : List Page) × IsOurs params t.now.contents sealed)) (sym same) c.requires.ours;
      pages = omega (arith, names, noted, c.requires.pages);
      image = subst (λ x. IfSome x (λ t. IsImage t.now t.now.contents)) (sym same) c.requires.image;
      can = subst (λ k. CanOffer o.table o.names.items o.kept.ring o.echelon (64 * (k - 1))) at done.can;
      numbers = done.numbers;
      same_rows = done.same_rows;
      rows = subst (λ k. AreRows (g.R.Ring.has o.table.ring) (64 * (k - 1)) kept.numbers.items kept.rows.items) at
          (subst (λ (x : RingTable g.row.R.Denot). AreRows (g.R.Ring.has x.ring) (64 * (pages - 1)) kept.numbers.items kept.rows.items) (sym table) done.rows);
      taken = subst (λ x. IfSealed (λ sealed. AreRowsOn (g.R.Ring.value o.table.ring) sealed kept.numbers.items kept.rows.items
          × AllSuit params.modulus (entries_of sealed)) x) (sym same)
          (subst (λ (y : RingTable g.row.R.Denot). IfSealed (λ sealed. AreRowsOn (g.R.Ring.value y.ring) sealed kept.numbers.items kept.rows.items
          × AllSuit params.modulus (entries_of sealed)) (g.D.Disk.trace c.args.disk.now)) (sym table) done.taken);
    }

pub returns-clause-ends : goal.returns-clause-ends
returns-clause-ends g c =
    subst (λ x. Tells c.args.params.now x (result_says c.go_on_from_rows.result)) c.restore_rows.ensures.same c.go_on_from_rows.ensures.ends

pub returns-clause-left : goal.returns-clause-left
returns-clause-left g c =
    subst (λ x. HasWorked c.go_on_from_rows.result → Leaves (λ t bytes. IsLeft c.args.params.now t.now.contents bytes) x
    (g.D.Disk.trace c.go_on_from_rows.new.disk)) c.restore_rows.ensures.same c.go_on_from_rows.ensures.left

pub returns-clause-moments : goal.returns-clause-moments
returns-clause-moments g c = λ k.
    subst (λ x. Stays (HasPages c.args.params.now k) x (g.D.Disk.trace c.go_on_from_rows.new.disk)) c.restore_rows.ensures.same
    (c.go_on_from_rows.ensures.moments k)

pub returns-clause-refused : goal.returns-clause-refused
returns-clause-refused g c = λ refused. c.go_on_from_rows.ensures.refused refused ∙ c.restore_rows.ensures.same
