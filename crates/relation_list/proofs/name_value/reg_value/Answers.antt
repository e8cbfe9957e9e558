use Rattle.std.proofs.Common.{ℕ, ◌%◌, length, Err, ap, ◌∙◌, arith}
use Rattle.zeta_model.specs.Alphabets.{stuffle_of}
use Rattle.zeta_model.specs.Regularise.{y_word, reg_of}
use Rattle.zeta_model.specs.Sums.{sum_of}
use Rattle.zeta_model.specs.Words.{has_index}
use Rattle.relation_list.proofs.HeldWords.{none_outside}
use Rattle.relation_list.proofs.ValueLemmas.{has_index-y_word, length-y_word, continued_list}
use Rattle.relation_list.proofs.name_value.reg_value.Goals as goal

pub product_within-requires-clause-covers_u : goal.product_within-requires-clause-covers_u
product_within-requires-clause-covers_u g c = ap has_index c.y_power.ensures ∙ has_index-y_word c.args.m

pub product_within-requires-clause-fits : goal.product_within-requires-clause-fits
product_within-requires-clause-fits g c = omega (arith, ap length c.y_power.ensures, length-y_word c.args.m)

pub returns-in-Ok : goal.returns-in-Ok
returns-in-Ok g c =
    let m : ℕ = g.R.Ring.modulus c.args.ring.now in
    record {
      terms = c.in-Ok.ensures.value.terms;
      in_ring = c.in-Ok.ensures.value.in_ring;
      coefficients = λ t.
          c.in-Ok.ensures.value.coefficients t
          ∙ continued_list m (g.R.Ring.value c.args.ring.now) c.in_ok-stuffle.stuffle (stuffle_of (y_word c.args.m) c.args.v)
          (omega (arith, g.met.R.Ring.modulus_from c.args.ring.now))
          (λ r. c.in_ok-stuffle.ensures.value.coefficients r ∙ ap (λ w. sum_of (stuffle_of w c.args.v) r % m) c.y_power.ensures) (reg_of m) t;
    }

pub unreachable-requires : goal.unreachable-requires
unreachable-requires g c =
    none_outside c.in_ok-stuffle.stuffle c.in_ok-stuffle.ensures.covered c.in-Err-NotInH1.field-0-0
    ((c.reg.ensures.not_in_h1 c.in-Err-NotInH1.field-0-0).0 (c.in-Err-NotInH1.is ∙ ap (λ e. Err e) c.in-Err-NotInH1.field-0-is))
