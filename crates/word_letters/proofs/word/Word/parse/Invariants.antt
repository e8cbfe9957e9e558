use Rattle.word_letters.proofs.Kept.{Kept}
use Rattle.word_letters.proofs.word.Word.parse.Given as goal

abbrev pub invariant-loop-at : goal.invariant-loop-at
invariant-loop-at l = Kept l.bytes l.at l.place l.weight l.zero l.w
