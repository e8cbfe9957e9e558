use Rattle.std.proofs.Common.{◌≡◌, ◌+◌, false, drop}
use Rattle.std.specs.Prelude.{option_map}
use Rattle.dual_reply.specs.Inner.{first_one}
use Rattle.dual_reply.proofs.ones.first_one.Given as goal

abbrev pub invariant-loop-at : goal.invariant-loop-at
invariant-loop-at l = option_map (λ n. n + l.at) (first_one l.opened (drop l.at l.line)) ≡ first_one false l.line
