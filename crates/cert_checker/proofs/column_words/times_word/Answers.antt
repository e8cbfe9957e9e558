use Rattle.std.proofs.Common.{◌∙◌, arith}
use Rattle.zeta_model.specs.Sums.{numbered}
use Rattle.relation_list.proofs.HeldWords.{after_ok, fits_with_word}
use Rattle.relation_list.proofs.ValueLemmas.{shuffle_with_word}
use Rattle.cert_checker.proofs.column_words.times_word.Goals as goal

pub product_sums_within-requires-clause-fits : goal.product_sums_within-requires-clause-fits
product_sums_within-requires-clause-fits g c =
    let ring = c.args.ring.now in
    let r = g.met.R.Ring in
    fits_with_word g.R.Ring.zero (g.R.Ring.has ring) (g.R.Ring.value ring) (g.R.Ring.modulus ring) c.args.sum.now c.in_ok-other.other c.args.u
    (r.has_zero ring) (r.value_zero ring) (r.value_injective ring) c.in_ok-other.ensures c.requires.fits

pub returns : goal.returns
returns g c =
    let value = g.R.Ring.value c.args.ring.now in
    after_ok _ _
    (λ product made. record {
      terms = made.terms;
      in_ring = made.in_ring;
      coefficients = λ t.
          made.coefficients t
          ∙ shuffle_with_word (g.R.Ring.modulus c.args.ring.now) value c.in_ok-other.other c.args.u
          (omega (arith, g.met.R.Ring.modulus_from c.args.ring.now)) c.in_ok-other.ensures.coefficients (numbered value c.args.sum.now) t;
    })
    c.product_sums_within.result c.product_sums_within.ensures.value
