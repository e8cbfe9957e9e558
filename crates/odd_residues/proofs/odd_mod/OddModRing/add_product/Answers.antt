use Rattle.std.proofs.Common.{◌+◌, ◌*◌, ◌^◌}
use Rattle.residues.proofs.Rests.{reduced_high_part}
use Rattle.odd_residues.specs.MontgomeryLaws.{residue-add_product}
use Rattle.odd_residues.proofs.odd_mod.OddModRing.add_product.Goals as goal

pub returns-clause-total : goal.returns-clause-total
returns-clause-total c =
    let m = c.args.self.now.modulus in
    let sum = c.args.sum + c.args.a * c.args.b in
    residue-add_product m _ c.args.sum c.args.a c.args.b
    (reduced_high_part m (2 ^ 64) sum c.rest_below_twice-high.result c.rest_below_twice-high.ensures)
