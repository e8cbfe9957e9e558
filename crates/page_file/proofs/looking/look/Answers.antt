use Rattle.std.proofs.Common.{◌≡◌, ◌∙◌, ap}
use Rattle.page_file.specs.Notes.{Notes}
use Rattle.page_file.specs.declared.fault.FileFault.TheVariants.{BadPage}
use Rattle.page_file.proofs.Fronts.{looks_start, look_ok, look_bad, bad_only}
use Rattle.page_file.proofs.looking.look.Goals as goal

pub read_pages-requires-clause-told : goal.read_pages-requires-clause-told
read_pages-requires-clause-told g c =
    looks_start (g.D.Disk.trace c.args.disk.now) (g.D.Disk.trace c.len.new.self) _ _ c.refill.new.self c.in_ok-len.len c.refill.ensures.same c.len.ensures.same
    c.in_ok-file.ensures c.in_ok-len.ensures.length c.in_ok-refill.ensures.told

pub returns-in-Ok-clause-ok : goal.returns-in-Ok-clause-ok
returns-in-Ok-clause-ok g c =
    look_ok (g.D.Disk.trace c.args.disk.now) (g.D.Disk.trace c.len.new.self) (g.D.Disk.trace c.refill.new.disk) c.refill.new.self c.in_ok-len.len
    c.is_foreign.result
    (record {
      later = c.refill.ensures.same;
      same = c.len.ensures.same;
      long = c.in_ok-len.ensures.length;
      stands = c.in_ok-refill.ensures.told;
      whole = c.in_ok-refill.ensures.whole;
      no = c.if-is_foreign.false;
      tells = c.is_foreign.ensures;
    })
    c.read_pages.new.file c.keep.new.self c.keep.ensures (c.read_pages.ensures.ready ∙ ap (λ (n : Notes). n.is_ready) c.in_ok-file.ensures) c.in-Ok.ensures.ok

pub returns-in-Err-clause-bad_page : goal.returns-in-Err-clause-bad_page
returns-in-Err-clause-bad_page g c = λ i is.
    let same : c.in-Err.fault ≡ BadPage i = cc in
    look_bad (g.D.Disk.trace c.args.disk.now) (g.D.Disk.trace c.len.new.self) (g.D.Disk.trace c.refill.new.disk) c.refill.new.self c.in_ok-len.len
    c.is_foreign.result
    (record {
      later = c.refill.ensures.same;
      same = c.len.ensures.same;
      long = c.in_ok-len.ensures.length;
      stands = c.in_ok-refill.ensures.told;
      whole = c.in_ok-refill.ensures.whole;
      no = c.if-is_foreign.false;
      tells = c.is_foreign.ensures;
    })
    i (bad_only c.in-Err.fault _ _ _ i c.in-Err.ensures.err same)
