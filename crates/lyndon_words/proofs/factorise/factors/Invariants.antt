use Rattle.std.proofs.Common.{◌≡◌, ◌≤◌, drop, length, reverse}
use Rattle.lyndon_words.proofs.JoinFront.{factors_of}
use Rattle.lyndon_words.proofs.factorise.factors.Given as goal

abbrev pub invariant-loop-place : goal.invariant-loop-place
invariant-loop-place l = record {
  within : l.place ≤ length l.w;
  found : reverse l.stack.items ≡ factors_of (drop l.place l.w);
  capacity : l.stack.capacity ≡ 24;
}

abbrev pub decreases-loop-place : goal.decreases-loop-place
decreases-loop-place l = l.place
