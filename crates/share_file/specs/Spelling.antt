-- The one spelling of each share: a mark, its numbers, and pages without gates.
use Rattle.std.specs.Prelude.{ℕ, zero, suc, ◌+◌, List, [], ◌∷◌, ◌++◌, length, take, drop, codes}
use Rattle.std.specs.List.{flat_map}
use Rattle.byteorder.specs.Endian.{little_bytes}
use Rattle.page_codec.specs.declared.parts.FinalEntry.{FinalEntry}
use Rattle.page_codec.specs.declared.page.Page.{Page}
use Rattle.page_codec.specs.declared.page.Page.TheVariants.{Header, Final, Done}
use Rattle.page_codec.specs.Places.{block_count}
use Rattle.page_codec.specs.Spelling.{spelling_of}
use Rattle.share_model.specs.declared.share.Share.{Share}

-- so many pages of rows, 64 on each, of which the first stands at place first
abbrev pub row_pages : ℕ → ℕ → List FinalEntry → List Page
row_pages zero first rows = []
row_pages (suc count) first rows = Final (record { first = first; entries = take 64 rows }) ∷ row_pages count (first + 64) (drop 64 rows)

-- the header, the pages of the rows, and the last one
abbrev pub share_pages : Share → List Page
share_pages s = Header s.params ∷ (row_pages (block_count (length s.rows)) 0 s.rows ++ Done (length s.rows) ∷ [])

-- `MZVSHARE`, the index, of how many, and the pages
abbrev pub share_spelling : Share → List ℕ
share_spelling s =
    codes "MZVSHARE" ++ (little_bytes 4 s.id.index ++ (little_bytes 4 s.id.of ++ flat_map spelling_of (share_pages s)))
