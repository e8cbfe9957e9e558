use Rattle.std.proofs.Common.{◌≡◌, ◌++◌, drop, string_bytes}
use Rattle.whole_runs.specs.FileTexts.{preferred_text}
use Rattle.table_texts.proofs.ShownTexts.{words_left}
use Rattle.table_texts.proofs.texts.push_preferred.Given as goal

abbrev pub invariant-loop-i : goal.invariant-loop-i
invariant-loop-i l = string_bytes l.line ++ words_left l.first (drop l.i l.words) ≡ string_bytes l.initial.line ++ preferred_text l.words
