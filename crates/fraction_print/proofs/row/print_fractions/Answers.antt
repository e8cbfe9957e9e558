use Rattle.std.proofs.Common.{◌++◌, ap, ◌∙◌}
use Rattle.poly_print.specs.Polynomials.{residue_pairs}
use Rattle.fraction_print.specs.FractionTexts.{fractions_text}
use Rattle.fraction_print.proofs.SomeFractions.{some_coefficients}
use Rattle.fraction_print.proofs.row.print_fractions.Goals as goal

pub returns : goal.returns
returns g c =
    let (f, are) = some_coefficients (g.R.Ring.modulus c.args.ring.now) (g.met.R.Ring.modulus_from c.args.ring.now) in
    let written = fractions_text c.args.columns.now.list f (residue_pairs (λ col. col) (g.R.Ring.value c.args.ring.now) c.args.row.now) in
    record { coefficient = f; are = are; prints = c.in_ok-push_fractions.ensures f are ∙ ap (λ t. t ++ written) c.new-text.ensures.bytes }
