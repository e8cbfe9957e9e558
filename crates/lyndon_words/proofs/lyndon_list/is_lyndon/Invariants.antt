use Rattle.std.proofs.Common.{◌≡◌, drop, length}
use Rattle.lyndon_words.specs.Inner.{is_below_suffixes}
use Rattle.lyndon_words.proofs.lyndon_list.is_lyndon.Given as goal

abbrev pub invariant-loop-w : goal.invariant-loop-w
invariant-loop-w l = is_below_suffixes l.w l.suffix ≡ is_below_suffixes l.w (drop 1 l.w)

abbrev pub decreases-loop-w : goal.decreases-loop-w
decreases-loop-w l = length l.suffix
