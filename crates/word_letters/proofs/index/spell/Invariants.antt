use Rattle.std.proofs.Common.{◌≡◌, ◌≤◌, drop, sum, length}
use Rattle.zeta_model.specs.Indices.{word_of_index}
use Rattle.word_letters.proofs.index.spell.Given as goal

abbrev pub invariant-loop-i : goal.invariant-loop-i
invariant-loop-i l = record { at_most : l.i ≤ length l.ks; shape : l.w ≡ word_of_index (drop l.i l.ks); weight : length l.w ≡ sum (drop l.i l.ks) }

abbrev pub decreases-loop-i : goal.decreases-loop-i
decreases-loop-i l = l.i
