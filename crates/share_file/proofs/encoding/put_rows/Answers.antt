use Rattle.std.proofs.Common.{◌≡◌, ◌++◌, List, ◌*◌, drop, length, ap, ◌∙◌}
use Rattle.page_codec.specs.declared.page.Page.TheVariants.{Final}
use Rattle.page_codec.specs.declared.parts.FinalEntry.{FinalEntry}
use Rattle.page_codec.specs.Places.{block_count}
use Rattle.page_codec.specs.Spelling.{spelling_of}
use Rattle.share_file.proofs.RowPages.{row_page}
use Rattle.share_file.proofs.Putting.{front_rows, front_page, put_on, put_start, put_end}
use Rattle.share_file.proofs.encoding.put_rows.Goals as goal

pub put_page-requires : goal.put_page-requires
put_page-requires c =
    front_page c.args.rows.now c.split_at-in-loop-page.result.0.now c.split_at.result.1.now c.loop-page.page c.min.result c.split_at.ensures.back c.min.ensures
    c.split_at-in-loop-page.ensures.front c.requires.few c.requires.entries c.loop-page-test.true

pub loop-page-init : goal.loop-page-init
loop-page-init c = put_start c.args.rows.now (block_count (length c.args.rows.now)) c.args.out.now.items

pub loop-page-preserved : goal.loop-page-preserved
loop-page-preserved c =
    let n = c.loop-page.page in
    let count = block_count (length c.args.rows.now) in
    let out = c.loop-page.out.items in
    let front = front_rows c.args.rows.now c.split_at-in-loop-page.result.0.now c.split_at.result.1.now n c.min.result c.split_at.ensures.back c.min.ensures
    c.split_at-in-loop-page.ensures.front in
    let put : c.put_page.new.out.items ≡ c.loop-page.out.items ++ spelling_of (row_page (64 * n) (drop (64 * n) c.args.rows.now)) =
    c.in_ok-put_page.ensures ∙ ap (λ (l : List FinalEntry). c.loop-page.out.items ++ spelling_of (Final (record { first = 64 * n; entries = l }))) front in
    put_on c.args.rows.now count n out c.put_page.new.out.items _ c.loop-page-test.true put c.loop-page.invariant

pub returns : goal.returns
returns c =
    put_end c.args.rows.now (block_count (length c.args.rows.now)) c.loop-page.page c.loop-page.out.items _ c.loop-page-test.false
    c.loop-page.invariant
