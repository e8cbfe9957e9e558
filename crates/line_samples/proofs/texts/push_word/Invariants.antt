use Rattle.std.proofs.Common.{◌+◌, ◌≤◌, ◌++◌}
use Rattle.std.specs.Prelude.{string_bytes}
use Rattle.zeta_model.specs.Indices.{word_text}
use Rattle.line_samples.proofs.TextLemmas.{IsBegun}
use Rattle.line_samples.proofs.texts.push_word.Given as goal

abbrev pub invariant-loop-i : goal.invariant-loop-i
invariant-loop-i l = record {
  small : l.k ≤ l.i + 1;
  begun : IsBegun (string_bytes l.fn.line ++ word_text l.word) (string_bytes l.line) l.first l.k l.i l.word;
}
