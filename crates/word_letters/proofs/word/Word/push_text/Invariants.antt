use Rattle.std.proofs.Common.{◌≡◌, ◌++◌, true, length, take}
use Rattle.std.specs.Prelude.{codes, string_bytes}
use Rattle.zeta_model.specs.Words.{has_index}
use Rattle.zeta_model.specs.Indices.{index_of, word_text}
use Rattle.word_letters.proofs.IndexTexts.{text_from}
use Rattle.word_letters.proofs.word.Word.push_text.Given as goal

abbrev pub invariant-loop-rest : goal.invariant-loop-rest
invariant-loop-rest l = record {
  index : has_index l.rest ≡ true;
  text : string_bytes l.text ++ (text_from l.first (index_of l.rest) ++ codes ")") ≡ string_bytes l.fn.text ++ word_text l.fn.self;
  kept : take (length (string_bytes l.fn.text)) (string_bytes l.text) ≡ string_bytes l.fn.text;
}

abbrev pub decreases-loop-rest : goal.decreases-loop-rest
decreases-loop-rest l = length l.rest
