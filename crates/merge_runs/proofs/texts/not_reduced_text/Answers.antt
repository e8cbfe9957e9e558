use Rattle.std.proofs.Common.{string_bytes}
use Rattle.merge_runs.proofs.LinePieces.{not_reduced_pieces}
use Rattle.merge_runs.proofs.texts.not_reduced_text.Goals as goal

pub returns : goal.returns
returns c =
    not_reduced_pieces c.args.file c.args.row c.from.result (string_bytes c.new-text.result) (string_bytes c.push_count.new.line)
    (string_bytes c.push_count-2.new.line) (string_bytes c.push_str.new.self) c.from.ensures c.new-text.ensures.bytes c.in_ok-push_count.ensures
    c.in_ok-push_count-2.ensures c.in_ok-push_str.ensures.bytes
