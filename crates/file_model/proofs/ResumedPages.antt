-- Work that goes on from sealed pages has pages, and each fits its place.
use Rattle.std.specs.Prelude.{ℕ, List}
use Rattle.std.specs.List.{AllByRecursion}
use Rattle.std.proofs.Common.{subst}
use Rattle.column_order.specs.Columns.{ColumnList}
use Rattle.page_codec.specs.declared.params.Params.{Params}
use Rattle.page_codec.specs.declared.page.Page.{Page}
use Rattle.page_codec.specs.Bounds.{IsPage, IsParams}
use Rattle.page_codec.specs.Places.{AllFit}
use Rattle.table_model.specs.ListedSpan.{relation_count}
use Rattle.file_model.specs.TableOf.{IsTableOf}
use Rattle.file_model.specs.Pages.{ArePages}
use Rattle.file_model.specs.Resuming.{entries_of, kept_of, AllSuit, resumed_work, IsResumed}
use Rattle.file_model.specs.Builds.{IsOurs}
use Rattle.file_model.proofs.TrueRows.{is_resumed_work}
use Rattle.file_model.proofs.PagesExist.{work_pages_exist}
use Rattle.file_model.proofs.PlacedPages.{work_pages_placed}
use Rattle.file_model.proofs.ParamColumns.{same_columns}
use Rattle.file_model.proofs.SealedStay.{resumed_writable}

pub resumed_exist : (params : Params) (columns : ColumnList) → IsTableOf params columns → (bytes : List ℕ) (sealed : List Page) → IsOurs params bytes sealed
    → AllSuit params.modulus (entries_of sealed) → (pages : List Page) × IsResumed params sealed pages
resumed_exist params columns of bytes sealed ours suit =
    let (pages, are) = work_pages_exist params columns of (resumed_work params.modulus columns (kept_of sealed))
    (λ converts. is_resumed_work params.modulus columns of.table converts (kept_of sealed))
    (λ converts. resumed_writable params columns of bytes sealed ours suit converts) in
    (pages, record { columns = columns; are_columns = of; are_pages = are })

pub resumed_placed : (params : Params) → IsParams params → (columns : ColumnList) → IsTableOf params columns → (bytes : List ℕ) (sealed : List Page)
    → IsOurs params bytes sealed → AllSuit params.modulus (entries_of sealed) → (pages : List Page) → IsResumed params sealed pages
    → AllByRecursion IsPage pages × AllFit params (relation_count params.weight params.depth) pages
resumed_placed params fits columns of bytes sealed ours suit pages resumed =
    let m : ℕ = params.modulus in
    let moved : ArePages params columns (resumed_work m columns (kept_of sealed)) pages =
    subst (λ c. ArePages params c (resumed_work m c (kept_of sealed)) pages) (same_columns params resumed.columns columns resumed.are_columns of)
    resumed.are_pages in
    work_pages_placed params fits columns of (resumed_work m columns (kept_of sealed))
    (λ converts. is_resumed_work m columns of.table converts (kept_of sealed))
    (λ converts. resumed_writable params columns of bytes sealed ours suit converts) pages moved
