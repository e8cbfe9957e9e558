use Rattle.std.proofs.Common.{string_bytes}
use Rattle.merge_runs.proofs.LinePieces.{word_pieces}
use Rattle.merge_runs.proofs.texts.word_text.Goals as goal

pub returns : goal.returns
returns c =
    word_pieces c.args.value c.args.word (string_bytes c.new-text.result) (string_bytes c.push_count.new.line) (string_bytes c.push_str.new.self)
    (string_bytes c.push_text.new.text) (string_bytes c.push_str-2.new.self) c.new-text.ensures.bytes c.in_ok-push_count.ensures
    c.in_ok-push_str.ensures.bytes c.in_ok-push_text.ensures.ok c.in_ok-push_str-2.ensures.bytes
