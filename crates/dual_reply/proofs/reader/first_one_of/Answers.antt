use Rattle.std.proofs.Common.{sym, ◌∙◌}
use Rattle.dual_reply.proofs.PlainLines.{plain_none}
use Rattle.dual_reply.proofs.reader.first_one_of.Goals as goal

pub returns-then-is_plain : goal.returns-then-is_plain
returns-then-is_plain c = plain_none c.args.line.now c.args.draft.now c.requires (sym c.is_plain.ensures ∙ c.if-is_plain.true)
