use Rattle.std.proofs.Common.{string_bytes}
use Rattle.table_texts.proofs.CheckedTexts.{other_pieces}
use Rattle.table_texts.proofs.texts.other_text.Goals as goal

pub returns : goal.returns
returns c =
    other_pieces c.args.params.now (string_bytes c.new-text.result) (string_bytes c.push_str.new.self) (string_bytes c.push_params.new.line)
    (string_bytes c.push_str-2.new.self) c.new-text.ensures.bytes c.in_ok-push_str.ensures.bytes c.in_ok-push_params.ensures
    c.in_ok-push_str-2.ensures.bytes
