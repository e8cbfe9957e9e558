use Rattle.std.proofs.Common.{subst, sym}
use Rattle.std.specs.List.{AllByRecursion}
use Rattle.page_codec.specs.Inner.{IsShort}
use Rattle.page_codec.proofs.Sizes.{final_short}
use Rattle.page_codec.proofs.writing.put_final.Goals as goal

pub put_final_entries-requires-clause-short : goal.put_final_entries-requires-clause-short
put_final_entries-requires-clause-short c =
    subst (AllByRecursion (λ e. IsShort e.row e.combination)) (sym c.as_slice-entries.ensures) (final_short c.args.page.now c.requires.page)
