use Rattle.std.proofs.Common.{◌+◌, length, ap, sym, subst, arith}
use Rattle.std.proofs.lemmas.List.{length_push}
use Rattle.std.specs.Prelude.{slice_index_or}
use Rattle.zeta_model.specs.Product.{prod}
use Rattle.quasi_product.specs.declared.rows.Suffix.{Suffix}
use Rattle.quasi_product.specs.Inner.{IsRow, IsCell}
use Rattle.quasi_product.proofs.RowLemmas.{IsRow-none, IsRow-push}
use Rattle.quasi_product.proofs.rows.next_row.Goals as goal

pub loop-i-init : goal.loop-i-init
loop-i-init g c = (
  ap length c.in_ok-row.ensures.items,
  IsRow-none (λ cell. cell.items) (g.R.Ring.has c.args.ring.now) (g.R.Ring.value c.args.ring.now)
      (g.R.Ring.modulus c.args.ring.now)
      (g.R.Ring.value c.args.ring.now c.args.c) g.L.Letters.alphabet c.args.u.now.word c.args.suffixes.now c.in_ok-row.row.items c.in_ok-row.ensures.items,
)

pub loop-i-preserved : goal.loop-i-preserved
loop-i-preserved g c = (
  omega (arith, ap length c.in_ok-push.ensures.items, length_push c.loop-i.row.items c.in_ok-cell.cell, c.loop-i.invariant.0),
  IsRow-push (λ cell. cell.items) (g.R.Ring.has c.args.ring.now) (g.R.Ring.value c.args.ring.now) (g.R.Ring.modulus c.args.ring.now)
      (g.R.Ring.value c.args.ring.now c.args.c) g.L.Letters.alphabet c.args.u.now.word c.args.suffixes.now c.loop-i.row.items c.push.new.self.items
      c.in_ok-cell.cell c.in_ok-push.ensures.items c.loop-i.invariant.1
      (subst (λ xs. (s : Suffix) → IsCell (g.R.Ring.has c.args.ring.now) (g.R.Ring.value c.args.ring.now) (g.R.Ring.modulus c.args.ring.now)
      (g.R.Ring.value c.args.ring.now c.args.c)
      (length c.args.u.now.word + length (slice_index_or c.args.suffixes.now (length xs) s).word) c.in_ok-cell.cell.items
      (prod g.L.Letters.alphabet c.args.u.now.word
      (slice_index_or c.args.suffixes.now (length xs) s).word)) c.as_slice.ensures.value c.in_ok-cell.ensures.cell),
)

pub next_cell-requires : goal.next_cell-requires
next_cell-requires g c = record {
  head = c.requires.head;
  fits = c.requires.fits;
  suffixes = c.requires.suffixes;
  has_c = c.requires.has_c;
  length = c.requires.length;
  below = c.requires.below;
  more = omega (arith, ap length c.as_slice.ensures.value, c.loop-i.invariant.0, c.loop-i-test.true);
  row = subst (IsRow (λ cell. cell.items) (g.R.Ring.has c.args.ring.now) (g.R.Ring.value c.args.ring.now) (g.R.Ring.modulus c.args.ring.now)
      (g.R.Ring.value c.args.ring.now c.args.c) g.L.Letters.alphabet c.args.u.now.word c.args.suffixes.now)
      (sym c.as_slice.ensures.value) c.loop-i.invariant.1;
}

pub returns : goal.returns
returns g c = record { length = omega (arith, c.loop-i.invariant.0, c.loop-i-test.false, c.loop-i.auto); row = c.loop-i.invariant.1 }
