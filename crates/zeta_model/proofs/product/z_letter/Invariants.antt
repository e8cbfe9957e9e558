use Rattle.std.proofs.Common.{◌≡◌, ◌++◌, ◌+◌, ◌-◌}
use Rattle.zeta_model.specs.Indices.{z_word}
use Rattle.zeta_model.proofs.product.z_letter.Given as goal

-- what is still to be written makes the word whole
abbrev pub invariant-loop-i : goal.invariant-loop-i
invariant-loop-i l = l.z.items ++ z_word (l.k - l.i + 1) ≡ z_word l.k
