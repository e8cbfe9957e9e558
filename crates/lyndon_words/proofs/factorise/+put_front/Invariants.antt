use Rattle.std.proofs.Common.{length}
use Rattle.lyndon_words.proofs.factorise.+put_front.Given as goal

abbrev pub decreases-put_front : goal.decreases-put_front
decreases-put_front l = length l.stack.now.items
