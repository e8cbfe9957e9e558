use Rattle.std.proofs.Common.{◌<◌, ◌%◌, ap, ◌∙◌, arith, Err}
use Rattle.std.proofs.lemmas.List.Elements.{recursion_from_All}
use Rattle.zeta_model.specs.Sums.{single, continued, numbered}
use Rattle.zeta_model.specs.Words.{has_index}
use Rattle.zeta_expr.specs.Meaning.{reg_terms}
use Rattle.zeta_expr.proofs.MeaningLemmas.{none_outside, has_index-word_of_index, reg_one}
use Rattle.zeta_expr.proofs.powers.zeta_sum.Goals as goal

pub unreachable-requires : goal.unreachable-requires
unreachable-requires g c =
    let r = g.met.R.Ring in
    let ring = c.args.ring.now in
    let w = c.in-Err-NotInH1.field-0-0 in
    let ks = c.args.index.now in
    let l = (c.reg.ensures.not_in_h1 w).0 (c.in-Err-NotInH1.is ∙ (λ i. Err (c.in-Err-NotInH1.field-0-is i))) in
    let e = ap has_index c.word_of.ensures ∙ has_index-word_of_index ks (recursion_from_All (λ k. 0 < k) ks c.requires.positive) in
    none_outside g.R.Ring.zero (g.R.Ring.has ring) (g.R.Ring.value ring) (g.R.Ring.modulus ring) (r.has_zero ring) (r.value_zero ring)
    (r.value_injective ring)
    c.word_of.result w c.in_ok-one.one c.in_ok-one.ensures e l

pub returns-in-Ok : goal.returns-in-Ok
returns-in-Ok g c =
    let ring = c.args.ring.now in
    let m = g.R.Ring.modulus ring in
    let v = g.R.Ring.value ring in
    record {
      terms = c.in-Ok.ensures.value.terms;
      in_ring = c.in-Ok.ensures.value.in_ring;
      coefficients = λ t.
          c.in-Ok.ensures.value.coefficients t
          ∙ reg_one m (numbered v c.in_ok-one.one) c.word_of.result t (omega (arith, g.met.R.Ring.modulus_from ring)) c.in_ok-one.ensures.coefficients
          ∙ ap (λ w. continued single (reg_terms m 0 w) t % m) c.word_of.ensures;
    }
