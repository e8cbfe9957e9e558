use Rattle.std.proofs.Common.{◌≡◌, ◌++◌, length, map, take, string_bytes}
use Rattle.page_rows.specs.Written.{written}
use Rattle.merge_runs.proofs.MergedLines.{head_line, lines_of}
use Rattle.merge_runs.proofs.texts.merged_text.Given as goal

abbrev pub invariant-loop-i : goal.invariant-loop-i
invariant-loop-i g l =
    string_bytes l.text ≡ head_line (length (map (written (g.R.Ring.value l.ring)) l.rows.rows))
    ++ lines_of (g.R.Ring.modulus l.ring) l.columns.list (take l.i (map (written (g.R.Ring.value l.ring)) l.rows.rows))
