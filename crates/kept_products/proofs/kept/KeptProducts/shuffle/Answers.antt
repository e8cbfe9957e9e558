use Rattle.std.proofs.Common.{◌≡◌, refl, ap, subst, arith}
use Rattle.zeta_model.specs.Alphabets.{shuffle_of}
use Rattle.zeta_model.specs.Sums.{sum_of}
use Rattle.word_sums.specs.Sums.{IsSumOf}
use Rattle.quasi_product.specs.declared.fault.ProductFault.TheVariants.{TooLong}
use Rattle.kept_products.specs.declared.pairs.Kind.TheVariants.{Shuffle}
use Rattle.kept_products.proofs.StoreLemmas.{fault_at}
use Rattle.kept_products.proofs.kept.KeptProducts.shuffle.Goals as goal

pub returns-in-Ok : goal.returns-in-Ok
returns-in-Ok g c =
    let ring = c.self.inside.ring in
    let same : ring ≡ c.args.self.now.ring = ap (λ k. k.ring) c.self.view_is in
    let product =
    c.product_at.ensures g.R.Ring.zero (g.R.Ring.has ring) (g.R.Ring.value ring) (g.R.Ring.modulus ring) Shuffle c.args.u c.args.v c.in-Ok.ensures.there in (
      (refl, λ _. tt, (same, ap (λ k. k.limit) c.self.view_is)),
      record {
        keeps_ring = tt;
        value = subst (λ r. IsSumOf g.R.Ring.zero (g.R.Ring.has r) (g.R.Ring.value r) (g.R.Ring.modulus r) (sum_of (shuffle_of c.args.u c.args.v)) c.product_at.result.now)
            same product.value_is;
        fits = c.in-Ok.ensures.fits;
        too_long = λ n. (λ e. absurd (cc e), λ h. absurd (omega (arith, h.0, h.1, c.in-Ok.ensures.fits)));
      },
    )

pub returns-in-Err : goal.returns-in-Err
returns-in-Err g c = (
  (refl, λ _. tt, (ap (λ k. k.ring) c.self.view_is, ap (λ k. k.limit) c.self.view_is)),
  record {
    keeps_ring = tt;
    value = tt;
    fits = tt;
    too_long = λ n. fault_at c.in-Err.fault (TooLong n) _ (c.in-Err.ensures.too_long n);
  },
)
