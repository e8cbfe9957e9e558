use Rattle.std.proofs.Common.{◌≡◌, ◌+◌, ◌*◌, ◌%◌, ◌^◌}
use Rattle.odd_residues.proofs.newton.negated_inverse.Given as goal

abbrev pub invariant-loop-i : goal.invariant-loop-i
invariant-loop-i l = ((l.m * l.inverse + 1) % 2 ^ (2 ^ l._i) ≡ 0)
