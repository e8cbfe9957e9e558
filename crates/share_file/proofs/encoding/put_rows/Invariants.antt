use Rattle.std.proofs.Common.{◌≡◌, ◌++◌, ◌-◌, ◌*◌, drop}
use Rattle.std.specs.List.{flat_map}
use Rattle.page_codec.specs.Spelling.{spelling_of}
use Rattle.share_file.specs.Spelling.{row_pages}
use Rattle.share_file.proofs.encoding.put_rows.Given as goal

abbrev pub invariant-loop-page : goal.invariant-loop-page
invariant-loop-page l =
    l.out.items ++ flat_map spelling_of (row_pages (l.pages - l.page) (64 * l.page) (drop (64 * l.page) l.rows))
    ≡ l.fn.out.items ++ flat_map spelling_of (row_pages l.pages 0 l.rows)
