use Rattle.std.proofs.Common.{◌*◌, ap, ◌∙◌}
use Rattle.odd_residues.specs.Montgomery.{residue_of}
use Rattle.odd_residues.specs.MontgomeryLaws.{residue-form}
use Rattle.odd_residues.proofs.odd_mod.OddMod.form.Goals as goal

pub returns-clause-value : goal.returns-clause-value
returns-clause-value c =
    let ring = c.args.self.now in
    let m = ring.modulus in
    ap (residue_of m) c.reduced.ensures ∙ ap (λ t. residue_of m (residue_of m (c.args.n * t))) ring.square_is ∙ residue-form m c.args.n ring.odd
