use Rattle.std.proofs.Common.{◌∙◌, ◌^◌, refl}
use Rattle.odd_residues.specs.Montgomery.{inverse_of_base}
use Rattle.odd_residues.specs.MontgomeryLaws.{base-inverse_of_base}
use Rattle.odd_residues.proofs.Reductions.{reduction}
use Rattle.odd_residues.proofs.odd_mod.reduced.Goals as goal

pub returns : goal.returns
returns c =
    let ring = c.args.ring.now in
    let m = ring.modulus in
    c.rest_below_twice.ensures
    ∙ reduction m (2 ^ 64) (inverse_of_base m) ring.negated c.args.sum _ (base-inverse_of_base m ring.odd) ring.negated_is refl
