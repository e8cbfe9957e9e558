use Rattle.std.proofs.Common.{◌≡◌, ◌<◌, ap, sym, subst, ◌∙◌, arith}
use Rattle.std.specs.Prelude.{◌↔◌, IsTrue, is_some}
use Rattle.zeta_model.specs.Inverses.{HasInverse}
use Rattle.file_model.specs.Pages.{pairs_of}
use Rattle.page_rows.proofs.Writing.{entry_of-written}
use Rattle.table_build.proofs.Restorings.{own_inverse, inverse_found}
use Rattle.table_build.proofs.restoring.has_own.Goals as goal

pub returns : goal.returns
returns g c =
    let ring = c.args.ring.now in
    let m = g.R.Ring.modulus ring in
    let value = g.R.Ring.value ring in
    let own = c.entry-own.result in
    let pairs = c.args.pairs.now in
    let number = c.args.number in
    let read = c.in_ok-combination.ensures in
    let big : 1 < m = omega (arith, g.met.R.Ring.modulus_from ring) in
    let residue : value own ≡ pairs_of pairs number =
    c.entry-own.ensures.value ∙ sym (entry_of-written (λ k. k) g.R.Ring.zero (g.R.Ring.has ring) value c.in_ok-combination.combination number)
    ∙ ap (λ es. pairs_of es number) read.written in
    let unit = inverse_found m (value own) value (g.R.Ring.mul ring own) (g.R.Ring.one ring) (g.R.Ring.has ring) c.inverse.result
    (g.met.R.Ring.value_one ring) (λ b in_ring. g.met.R.Ring.value_mul ring own b c.entry-own.ensures.has in_ring) c.inverse.ensures.inverse in
    subst (λ b. IsTrue b ↔ HasInverse m (pairs_of pairs number)) (sym c.is_some.ensures)
    (subst (λ v. IsTrue (is_some c.inverse.result) ↔ HasInverse m v) residue (own_inverse m (value own) value c.inverse.result big unit c.inverse.ensures.none))
