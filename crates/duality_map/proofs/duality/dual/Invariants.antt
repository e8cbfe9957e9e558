use Rattle.std.proofs.Common.{◌≡◌, length, take}
use Rattle.zeta_model.specs.Duality.{dual_of}
use Rattle.duality_map.proofs.duality.dual.Given as goal

abbrev pub invariant-loop-i : goal.invariant-loop-i
invariant-loop-i l = record { shape : l.dual ≡ dual_of (take l.i l.w); weight : length l.dual ≡ l.i }
