use Rattle.std.proofs.Common.{arith}
use Rattle.page_file.proofs.Paging.{page_found, page_missing}
use Rattle.page_file.proofs.page_file.PageFile.page.Goals as goal

pub returns-clause-ok : goal.returns-clause-ok
returns-clause-ok g c =
    let found = rw c.in-Some.is at c.in_ok-page.ensures.found in
    page_found (g.D.Disk.trace c.args.disk.now) c.args.self.now c.args.i c.span-place.result.0 c.span-place.result.1 _ c.in-Some.page
    (record { within = c.requires.within; place_is = c.span-place.ensures.place; size_is = c.span-place.ensures.size })
    (omega (arith, c.deref_mut.ensures.len, c.in_ok-resize.ensures.len)) c.requires.suits found

pub returns-in_default-clause-bad_page : goal.returns-in_default-clause-bad_page
returns-in_default-clause-bad_page g c = λ n is.
    let found = rw c.in_default.is at c.in_ok-page.ensures.found in (
      (cc),
      page_missing (g.D.Disk.trace c.args.disk.now) c.args.self.now c.args.i c.span-place.result.0 c.span-place.result.1 _
          (record { within = c.requires.within; place_is = c.span-place.ensures.place; size_is = c.span-place.ensures.size })
          (omega (arith, c.deref_mut.ensures.len, c.in_ok-resize.ensures.len)) c.requires.suits found,
    )
