use Rattle.std.proofs.Common.{◌≡◌, drop}
use Rattle.zeta_model.specs.Duality.{dual_of}
use Rattle.zeta_model.specs.Words.{word_cmp}
use Rattle.duality_map.proofs.duality.has_lesser_dual.Given as goal

abbrev pub invariant-loop-place : goal.invariant-loop-place
invariant-loop-place l = word_cmp (drop l.place l.w) (drop l.place (dual_of l.w)) ≡ word_cmp l.w (dual_of l.w)
