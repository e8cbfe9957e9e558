use Rattle.std.proofs.Common.{◌≡◌, ◌++◌}
use Rattle.dual_reply.proofs.listing.ordered.Given as goal

abbrev pub invariant-loop-word : goal.invariant-loop-word
invariant-loop-word g l = l.terms.items ++ l.word-iterator ≡ l.initial.word-iterator
