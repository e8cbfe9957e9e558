-- What work that went on to its end leaves of any bytes.
use Rattle.std.specs.Prelude.{◌≡◌, ℕ, Option, Some, None, IfSome, List}
use Rattle.std.proofs.Common.{◌∙◌, ap, subst}
use Rattle.outside_io.specs.Traces.{Trace}
use Rattle.page_codec.specs.declared.params.Params.{Params}
use Rattle.page_file.specs.Files.{file_of}
use Rattle.page_file.specs.Stays.{Leaves}
use Rattle.page_file.proofs.Reading.{sealed_unique}
use Rattle.file_model.specs.Pages.{Work, IsWork, ArePages}
use Rattle.file_model.specs.Resuming.{kept_of, resumed_work, IsResumed}
use Rattle.file_model.specs.Builds.{Figures, work_from, ResumeEnds, IsLeft, HasGoneOn}
use Rattle.file_model.specs.Builds.Answer.{Built}
use Rattle.file_model.proofs.ParamColumns.{same_columns}
use Rattle.file_model.proofs.TrueRows.{is_resumed_work}
use Rattle.file_model.proofs.Keeping.{one_resumed}
use Rattle.file_model.proofs.WholeFiles.{work_closed}
use Rattle.file_model.proofs.FollowingRows.{final_rows_follow}

module _ (params : Params) (figures : Figures) where
  pub has_gone_on : (bytes contents : List ℕ) → ResumeEnds params bytes (Built figures) → IsLeft params bytes contents → HasGoneOn params bytes contents
  has_gone_on bytes contents (sealed, pages, columns, worked, kept, told) left =
      let ours = worked.ours in let reads = ours.reads in let on = worked.goes_on in let of = on.are_columns in let resumed = worked.resumed in
      let same : left.sealed ≡ sealed = sealed_unique left.sealed sealed bytes left.are_sealed reads.sealed in
      let one : left.pages ≡ pages = one_resumed params sealed left.pages pages (subst (λ s. IsResumed params s left.pages) same left.are_pages) resumed in
      let work : Work = work_from params columns sealed in
      let is_work : IsWork params.modulus columns work = is_resumed_work params.modulus columns of.table on.converts (kept_of sealed) in
      let are_pages : ArePages params columns work pages =
      subst (λ c. ArePages params c (resumed_work params.modulus c (kept_of sealed)) pages)
      (same_columns params resumed.columns columns resumed.are_columns of) resumed.are_pages in
      let ends = work_closed params columns work on.converts on.unbroken pages are_pages in
      record {
        sealed = sealed;
        are_sealed = reads.sealed;
        pages = pages;
        contents_are = left.contents_are ∙ ap file_of one;
        kept = kept;
        rows = ends.rows;
        front = ends.front;
        closed = ends.closed;
        follow = final_rows_follow params columns work is_work of pages are_pages;
      }

  -- over a disk that tells
  pub leaves_gone_on : (old new : Option Trace) → IfSome old (λ t. ResumeEnds params t.now.contents (Built figures))
      → Leaves (λ t bytes. IsLeft params t.now.contents bytes) old new → Leaves (λ t bytes. HasGoneOn params t.now.contents bytes) old new
  leaves_gone_on None new ends left = left
  leaves_gone_on (Some t) None ends left = left
  leaves_gone_on (Some t) (Some u) ends left = (has_gone_on t.now.contents u.now.contents ends left.0, left.1)
