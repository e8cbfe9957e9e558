use Rattle.std.proofs.Common.{◌≡◌, ◌+◌, ◌*◌, subst, sym, length, arith}
use Rattle.std.specs.List.{AllByRecursion}
use Rattle.page_codec.specs.Inner.{IsShort}
use Rattle.page_codec.specs.Bounds.{IsPage}
use Rattle.page_codec.specs.Spelling.{body_of}
use Rattle.page_codec.proofs.Sizes.{length-words, forward_short, final_short}
use Rattle.page_codec.proofs.writing.body_size.Goals as goal

pub forward_size-requires-clause-short : goal.forward_size-requires-clause-short
forward_size-requires-clause-short c =
    subst (AllByRecursion (λ e. IsShort e.row e.combination)) (sym c.as_slice.ensures)
    (forward_short c.in-Forward.forward (subst IsPage c.in-Forward.is c.requires))

pub final_size-requires-clause-short : goal.final_size-requires-clause-short
final_size-requires-clause-short c =
    subst (AllByRecursion (λ e. IsShort e.row e.combination)) (sym c.as_slice-in-Final.ensures)
    (final_short c.in-Final.rows (subst IsPage c.in-Final.is c.requires))

pub returns-in-Header-clause-length : goal.returns-in-Header-clause-length
returns-in-Header-clause-length c =
    let spelled : length (body_of c.args.page.now) ≡ 20 + 5 * length c.in-Header.params.preferred =
    rw c.in-Header.is (omega (arith, length-words c.in-Header.params.preferred)) in
    let many = c.len.ensures.length in
    omega arith
