use Rattle.std.proofs.Common.{◌≡◌, map, take}
use Rattle.zeta_model.specs.Duality.{other_letter}
use Rattle.zeta_model.proofs.duality.dual.Given as goal

abbrev pub invariant-loop-a : goal.invariant-loop-a
invariant-loop-a l = l.d.items ≡ map other_letter (take l.a-index l.w)
