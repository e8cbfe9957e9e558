use Rattle.std.proofs.Common.{◌++◌, List, ap, ◌∙◌, length}
use Rattle.std.specs.List.{flat_map}
use Rattle.std.proofs.lemmas.Result.{on_ok_weaker}
use Rattle.page_codec.specs.declared.page.Page.TheVariants.{Done}
use Rattle.page_codec.specs.declared.parts.FinalEntry.{FinalEntry}
use Rattle.page_codec.specs.Places.{block_count}
use Rattle.page_codec.specs.Spelling.{spelling_of}
use Rattle.share_file.specs.Spelling.{row_pages}
use Rattle.share_file.proofs.Shares.{share_put}
use Rattle.share_file.proofs.encoding.encode_share.Goals as goal

pub returns : goal.returns
returns c =
    let header = c.encode.new.out.items in
    let pages = c.put_rows.new.out.items in
    on_ok_weaker c.encode-2.result
    (λ put. share_put c.args.share.now c.args.out.now.items c.put_head.new.out.items header pages c.encode-2.new.out.items
    c.in_ok-put_head.ensures c.in_ok-encode.ensures.ok
    (c.in_ok-put_rows.ensures ∙ ap (λ (l : List FinalEntry). header ++ flat_map spelling_of (row_pages (block_count (length l)) 0 l)) c.as_slice-rows.ensures)
    (put ∙ ap (λ (l : List FinalEntry). pages ++ spelling_of (Done (length l))) c.as_slice-rows.ensures)) c.encode-2.ensures.ok
