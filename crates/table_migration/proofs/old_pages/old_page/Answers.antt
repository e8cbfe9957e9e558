use Rattle.std.proofs.Common.{ℕ, List}
use Rattle.page_codec.specs.declared.page.Page.{Page}
use Rattle.page_codec.specs.declared.page.Page.TheVariants.{Header, Forward, Final, Done}
use Rattle.page_codec.specs.declared.params.Params.{Params}
use Rattle.page_codec.specs.Bounds.{IsPage, IsOldParams}
use Rattle.page_codec.specs.Spelling.{BeginsWith, BeginsWithOld}
use Rattle.table_migration.specs.OldFiles.{NoOldPage}
use Rattle.table_migration.proofs.old_pages.old_page.Goals as goal

-- neither a header of version 1 nor a page of version 2
none_old : (bytes : List ℕ) → ((p : Params) → IsOldParams p → ¬ (BeginsWithOld bytes p)) → ((page : Page) → IsPage page → ¬ (BeginsWith bytes page))
    → NoOldPage bytes
none_old bytes old new (Header p) rest is e = old p is (rest, e)
none_old bytes old new (Forward p) rest is e = new (Forward p) is (rest, e)
none_old bytes old new (Final p) rest is e = new (Final p) is (rest, e)
none_old bytes old new (Done rows) rest is e = new (Done rows) is (rest, e)

pub returns-in-None-clause-none : goal.returns-in-None-clause-none
returns-in-None-clause-none c = none_old c.args.bytes.now c.in_default.ensures.none (rw c.in-None.is at c.in_ok-decode.ensures.none)
