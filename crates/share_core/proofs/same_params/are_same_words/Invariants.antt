use Rattle.std.proofs.Common.{◌≡◌, take, length}
use Rattle.share_core.proofs.same_params.are_same_words.Given as goal

abbrev pub invariant-loop-i : goal.invariant-loop-i
invariant-loop-i l = record {
  so_far : take l.i l.a ≡ take l.i l.b;
  long : length l.a ≡ length l.b;
}
