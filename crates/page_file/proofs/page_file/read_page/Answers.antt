use Rattle.std.proofs.Common.{take, refl}
use Rattle.page_file.proofs.Paging.{piece_of}
use Rattle.page_file.proofs.page_file.read_page.Goals as goal

pub returns-in-Some-clause-found : goal.returns-in-Some-clause-found
returns-in-Some-clause-found g c =
    let found = rw c.in-Some.is at c.in_ok-page.ensures.found in
    record {
      bytes = take c.in_ok-count.count c.fill.new.buf;
      piece = piece_of _ c.fill.new.buf (take c.in_ok-count.count c.fill.new.buf) c.in_ok-count.count c.args.place _ refl
          c.fill.auto.buf c.in_ok-count.ensures.bound c.in_ok-count.ensures.bytes c.in_ok-count.ensures.end;
      some = (found.0, found.1);
      none = tt;
    }

pub returns-in-None-clause-found : goal.returns-in-None-clause-found
returns-in-None-clause-found g c =
    let none = rw c.in-None.is at c.in_ok-page.ensures.none in
    record {
      bytes = take c.in_ok-count.count c.fill.new.buf;
      piece = piece_of _ c.fill.new.buf (take c.in_ok-count.count c.fill.new.buf) c.in_ok-count.count c.args.place _ refl
          c.fill.auto.buf c.in_ok-count.ensures.bound c.in_ok-count.ensures.bytes c.in_ok-count.ensures.end;
      some = tt;
      none = none;
    }
