use Rattle.std.proofs.Common.{string_bytes}
use Rattle.table_texts.proofs.CheckedTexts.{complete_pieces}
use Rattle.table_texts.proofs.texts.complete_text.Goals as goal

pub returns : goal.returns
returns c =
    complete_pieces c.args.params.now c.args.relations c.args.rows c.from.result c.from-2.result (string_bytes c.new-text.result)
    (string_bytes c.push_str.new.self) (string_bytes c.push_params.new.line) (string_bytes c.push_count.new.line) (string_bytes c.push_count-2.new.line)
    (string_bytes c.push_str-2.new.self) c.from.ensures c.from-2.ensures c.new-text.ensures.bytes c.in_ok-push_str.ensures.bytes
    c.in_ok-push_params.ensures c.in_ok-push_count.ensures c.in_ok-push_count-2.ensures c.in_ok-push_str-2.ensures.bytes
