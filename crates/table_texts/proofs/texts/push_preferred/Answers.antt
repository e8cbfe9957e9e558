use Rattle.std.proofs.Common.{◌≡◌, ◌++◌, ◌+◌, drop, string_bytes, subst, arith}
use Rattle.whole_runs.specs.FileTexts.{preferred_text}
use Rattle.table_texts.proofs.ShownTexts.{words_left, word_written, drop-at}
use Rattle.table_texts.proofs.texts.push_preferred.Goals as goal

pub loop-i-preserved : goal.loop-i-preserved
loop-i-preserved c =
    let l = c.loop-i in
    let words = c.args.words.now in
    word_written l.first c.at.result (drop (l.i + 1) words) (string_bytes l.line) (string_bytes c.push_gap.new.line) _ _ c.in_ok-push_gap.ensures
    c.in_ok-push_text.ensures.ok
    (subst (λ us. string_bytes l.line ++ words_left l.first us ≡ string_bytes c.args.line.now ++ preferred_text words)
    (drop-at words l.i c.at.result (omega (arith, c.loop-i-test.true, c.len-i-end.ensures.length)) c.at.ensures) l.invariant)
