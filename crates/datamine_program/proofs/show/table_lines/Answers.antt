use Rattle.std.proofs.Common.{string_bytes, ap, ◌∙◌}
use Rattle.table_texts.specs.Texts.{head_text}
use Rattle.datamine_program.proofs.ShownPages.{lines_shown}
use Rattle.datamine_program.proofs.show.table_lines.Goals as goal

pub returns-in-Ok-push_rows-clause-ok : goal.returns-in-Ok-push_rows-clause-ok
returns-in-Ok-push_rows-clause-ok g c =
    let params = c.args.params.now in
    lines_shown (g.D.Disk.trace c.args.disk.now) c.args.file.now params c.in-Ok.columns (string_bytes c.in-Ok-head_text.lines)
    (string_bytes c.push_rows.new.lines) c.requires.suits c.requires.header c.in-Ok.ensures
    (c.in-Ok-head_text.ensures ∙ ap (head_text params) c.count.ensures) c.in-Ok-push_rows.ensures.ok
