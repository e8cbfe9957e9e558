use Rattle.std.proofs.Common.{sym, subst}
use Rattle.zeta_model.proofs.WordOrder.{word_cmp-IsAntisymmetric}
use Rattle.quasi_product.specs.Inner.{FitBehind, IsMerged}
use Rattle.quasi_product.proofs.MergeLemmas.{IsMerged-two, IsMerged-swapped}
use Rattle.quasi_product.proofs.merging.merged.Goals as goal

pub add_merged-requires-clause-fits_right : goal.add_merged-requires-clause-fits_right
add_merged-requires-clause-fits_right g c =
    subst (λ w. FitBehind 24 w c.args.right.now) (sym (word_cmp-IsAntisymmetric c.args.a c.args.b (sym c.in-Equal.ensures))) c.requires.fits_right

pub returns-in_ok-add_behind-in-Less-2 : goal.returns-in_ok-add_behind-in-Less-2
returns-in_ok-add_behind-in-Less-2 g c = record {
  ok = IsMerged-swapped (g.R.Ring.has c.args.ring.now) (g.R.Ring.value c.args.ring.now)
      (g.R.Ring.modulus c.args.ring.now) c.args.a c.args.b c.args.left.now c.args.right.now c.add_behind-in-Less.new.terms.items
      (IsMerged-two (g.R.Ring.has c.args.ring.now) (g.R.Ring.value c.args.ring.now)
      (g.R.Ring.modulus c.args.ring.now) c.args.b c.args.a c.args.right.now c.args.left.now c.in_ok-terms.terms.items c.add_behind.new.terms.items
      c.add_behind-in-Less.new.terms.items
      c.in_ok-terms.ensures.items c.in_ok-add_behind-in-Less.ensures.ok c.in_ok-add_behind-in-Less-2.ensures.ok c.requires.right_in_ring
      c.requires.left_in_ring);
}

pub returns-in_ok-add_behind-in-Greater-2 : goal.returns-in_ok-add_behind-in-Greater-2
returns-in_ok-add_behind-in-Greater-2 g c = record {
  ok = IsMerged-two (g.R.Ring.has c.args.ring.now) (g.R.Ring.value c.args.ring.now)
      (g.R.Ring.modulus c.args.ring.now) c.args.a c.args.b c.args.left.now c.args.right.now c.in_ok-terms.terms.items c.add_behind-in-Greater.new.terms.items
      c.add_behind-in-Greater-2.new.terms.items
      c.in_ok-terms.ensures.items c.in_ok-add_behind-in-Greater.ensures.ok c.in_ok-add_behind-in-Greater-2.ensures.ok c.requires.left_in_ring
      c.requires.right_in_ring;
}

pub returns-in_ok-add_merged-in-Equal : goal.returns-in_ok-add_merged-in-Equal
returns-in_ok-add_merged-in-Equal g c = record {
  ok = subst (λ w. IsMerged (g.R.Ring.has c.args.ring.now) (g.R.Ring.value c.args.ring.now)
      (g.R.Ring.modulus c.args.ring.now) c.args.a c.args.left.now w c.args.right.now c.add_merged.new.terms.items)
      (word_cmp-IsAntisymmetric c.args.a c.args.b (sym c.in-Equal.ensures)) c.in_ok-add_merged-in-Equal.ensures.ok;
}
