use Rattle.std.proofs.Common.{◌*◌, ◌%◌, arith, subst, sym, ap, ◌∙◌}
use Rattle.sparse_rows.specs.Entries.{entry_of, AllIn}
use Rattle.sparse_rows.proofs.Scaling.{IsScaled, scaled_row}
use Rattle.sparse_rows.proofs.pairs.Pairs.scale.Given.{Over}
use Rattle.sparse_rows.proofs.pairs.Pairs.scale.Goals as goal

whole : (g : Over) (c : goal.After-drop_zeros g)
    → IsScaled g.K.Key.number g.R.Ring.zero (g.R.Ring.has c.args.ring.now) (g.R.Ring.value c.args.ring.now) (g.R.Ring.modulus c.args.ring.now)
    (g.R.Ring.value c.args.ring.now c.args.c) c.self.inside.pairs.items c.drop_zeros.new.pairs.items
whole g c =
    let ring = c.args.ring.now in
    let laws = g.met.R.Ring in
    scaled_row g.K.Key.number g.R.Ring.zero (g.R.Ring.has ring) (g.R.Ring.value ring) (g.R.Ring.modulus ring) (g.R.Ring.value ring c.args.c)
    (g.R.Ring.mul ring c.args.c) g.R.Elem.PartialEq.eq
    c.self.inside.pairs.items c.multiply_all.new.pairs.items c.drop_zeros.new.pairs.items
    laws.eq_same (omega (arith, laws.modulus_from ring)) (laws.value_below ring) (laws.value_zero ring)
    (λ a h. laws.has_mul ring c.args.c a c.requires.has_c h) (λ a h. laws.value_mul ring c.args.c a c.requires.has_c h)
    c.self.invariant (subst (AllIn (g.R.Ring.has ring)) (sym c.self.view_is) c.requires.self_in_ring) c.multiply_all.ensures c.drop_zeros.ensures

pub invariant_of-self : goal.invariant_of-self
invariant_of-self g c = (whole g c).row

pub returns-clause-entries : goal.returns-clause-entries
returns-clause-entries g c = λ q. (whole g c).entries q
    ∙ ap (λ row. g.R.Ring.value c.args.ring.now c.args.c * entry_of g.K.Key.number
    (g.R.Ring.value c.args.ring.now) row q % g.R.Ring.modulus c.args.ring.now) c.self.view_is

pub returns-clause-in_ring : goal.returns-clause-in_ring
returns-clause-in_ring g c = (whole g c).in_ring

pub returns-clause-row : goal.returns-clause-row
returns-clause-row g c = (whole g c).row
