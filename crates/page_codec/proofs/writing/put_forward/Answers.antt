use Rattle.std.proofs.Common.{subst, sym}
use Rattle.std.specs.List.{AllByRecursion}
use Rattle.page_codec.specs.Inner.{IsShort}
use Rattle.page_codec.proofs.Sizes.{forward_short}
use Rattle.page_codec.proofs.writing.put_forward.Goals as goal

pub put_forward_entries-requires-clause-short : goal.put_forward_entries-requires-clause-short
put_forward_entries-requires-clause-short c =
    subst (AllByRecursion (λ e. IsShort e.row e.combination)) (sym c.as_slice-entries.ensures) (forward_short c.args.page.now c.requires.page)
