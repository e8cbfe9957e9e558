use Rattle.std.proofs.Common.{◌≡◌, ◌+◌, length, rules, arith}
use Rattle.page_codec.specs.Spelling.{spelling_of}
use Rattle.page_file.proofs.Opened.{short_spelling}
use Rattle.page_file.proofs.page_file.spell_block.Goals as goal

pub returns-clause-short : goal.returns-clause-short
returns-clause-short c =
    let size : c.len.result ≡ 1 + length (spelling_of c.args.page.now) = search rules in omega (arith, size, short_spelling c.args.page.now c.requires)
