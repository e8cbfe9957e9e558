use Rattle.std.proofs.Common.{◌∙◌, arith}
use Rattle.table_model.specs.Conversion.{IsTable}
use Rattle.lyndon_polys.proofs.SortedWords.{one_column_more, sorted_increase, sorted_each, sorted_whole}
use Rattle.lyndon_polys.proofs.word_rows.sorted_words.Goals as goal

pub loop-i-preserved : goal.loop-i-preserved
loop-i-preserved c =
    c.in_ok-push.ensures.items
    ∙ one_column_more c.args.columns.now.list c.loop-i.i c.at.result.now c.loop-i.words.items c.word.result
    (omega (arith, c.loop-i-test.true, c.len-i-end.ensures.length)) c.at.ensures.at c.word.ensures.joined c.loop-i.invariant

pub returns-clause-sorted : goal.returns-clause-sorted
returns-clause-sorted c =
    let table : IsTable 3 c.args.columns.now = record { modulus = omega arith; limits = c.requires; whole = c.len.ensures.columns } in
    sorted_increase 3 c.args.columns.now table c.loop-i.words.items c.sort_unstable.new.self.items c.loop-i.i c.loop-i.invariant
    (omega (arith, c.loop-i.auto.i-end, c.loop-i-test.false, c.len-i-end.ensures.length)) c.sort_unstable.ensures.permutation
    c.sort_unstable.ensures.sorted

pub returns-clause-each : goal.returns-clause-each
returns-clause-each c =
    let table : IsTable 3 c.args.columns.now = record { modulus = omega arith; limits = c.requires; whole = c.len.ensures.columns } in
    sorted_each 3 c.args.columns.now table c.loop-i.words.items c.sort_unstable.new.self.items c.loop-i.i c.loop-i.invariant
    (omega (arith, c.loop-i.auto.i-end, c.loop-i-test.false, c.len-i-end.ensures.length)) c.sort_unstable.ensures.permutation

pub returns-clause-whole : goal.returns-clause-whole
returns-clause-whole c =
    let table : IsTable 3 c.args.columns.now = record { modulus = omega arith; limits = c.requires; whole = c.len.ensures.columns } in
    sorted_whole 3 c.args.columns.now table c.loop-i.words.items c.sort_unstable.new.self.items c.loop-i.i c.loop-i.invariant
    (omega (arith, c.loop-i.auto.i-end, c.loop-i-test.false, c.len-i-end.ensures.length)) c.sort_unstable.ensures.permutation
