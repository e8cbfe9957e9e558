use Rattle.std.proofs.Common.{◌≡◌, ◌-◌, ◌%◌, ◌<◌, length, ◌∙◌, ap, arith}
use Rattle.echelon.specs.Lists.{lead_of}
use Rattle.echelon.specs.Inner.{numbers_of}
use Rattle.echelon.proofs.SumLemmas.{numbers_of-get}
use Rattle.echelon.proofs.Leads.{lead_of-first, lead_of_below, undone_by_opposite}
use Rattle.echelon.proofs.sums.cancel.Goals as goal

pub returns-clause-undone : goal.returns-clause-undone
returns-clause-undone g c =
    let ring = c.args.ring.now in
    let m = g.R.Ring.modulus ring in
    let value = g.R.Ring.value ring in
    let total = g.R.Ring.total ring in
    let same : c.entries-entries.result.now ≡ c.args.row.now = c.entries-entries.ensures.entries in
    let some : 0 < length c.entries-entries.result.now = rw same c.requires.fits.some in
    let lead : c.from-lead.result ≡ lead_of c.args.row.now =
    c.from-lead.ensures ∙ lead_of-first c.entries-entries.result.now c.index-entries-0.result some ∙ ap lead_of same in
    let inside : c.from-lead.result < length c.args.sums.now =
    rw lead (lead_of_below (length c.args.sums.now) c.args.row.now c.requires.fits.below c.requires.fits.some) in
    let here : total c.index-sums-lead.result ≡ numbers_of total c.args.sums.now (lead_of c.args.row.now) =
    ap total c.index-sums-lead.is ∙ numbers_of-get total c.args.sums.now c.from-lead.result c.index-sums-lead.result inside
    ∙ ap (numbers_of total c.args.sums.now) lead in
    let opposite : value c.neg-factor.result ≡ (m - numbers_of total c.args.sums.now (lead_of c.args.row.now) % m) % m =
    ap value c.neg-factor.ensures ∙ g.met.R.Ring.value_neg ring c.close_sum-residue.result c.close_sum-residue.ensures.has
    ∙ ap (λ x. (m - x) % m) (c.close_sum-residue.ensures.value ∙ ap (λ x. x % m) here) in
    undone_by_opposite m _ _ (omega (arith, g.met.R.Ring.modulus_from ring)) opposite
