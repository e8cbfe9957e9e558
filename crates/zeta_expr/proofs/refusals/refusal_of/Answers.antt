use Rattle.std.proofs.Common.{List, sym, ap, ◌∙◌}
use Rattle.zeta_expr.specs.Forms.{TermForm}
use Rattle.zeta_expr.specs.Meaning.{refusal_of}
use Rattle.zeta_expr.proofs.ScanLemmas.{refusal-no_inverse, refusal-misfit}
use Rattle.zeta_expr.proofs.refusals.refusal_of.Goals as goal

pub returns-in-Some : goal.returns-in-Some
returns-in-Some g c =
    let m = g.R.Ring.modulus c.args.ring.now in
    let terms = c.as_slice-terms.result.now in
    refusal-no_inverse m c.args.w c.args.d c.in-Some.number terms (sym c.first_without_inverse.ensures ∙ c.in-Some.is)
    ∙ ap (λ (l : List TermForm). refusal_of m c.args.w c.args.d l) (c.as_slice-terms.ensures.value ∙ c.e.view_is)

pub returns : goal.returns
returns g c =
    let m = g.R.Ring.modulus c.args.ring.now in
    let terms = c.as_slice-terms.result.now in
    c.first_misfit.ensures ∙ refusal-misfit m c.args.w c.args.d terms (sym c.first_without_inverse.ensures ∙ c.in_default.is)
    ∙ ap (λ (l : List TermForm). refusal_of m c.args.w c.args.d l) (c.as_slice-terms.ensures.value ∙ c.e.view_is)
