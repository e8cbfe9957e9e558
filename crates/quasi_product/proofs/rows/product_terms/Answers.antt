use Rattle.std.proofs.Common.{◌≡◌, ◌+◌, ◌-◌, ◌≤◌, length, ap, sym, subst, arith}
use Rattle.std.specs.Prelude.{All, slice_index_or}
use Rattle.quasi_product.specs.Inner.{AreSuffixes}
use Rattle.quasi_product.specs.declared.rows.Suffix.{Suffix}
use Rattle.quasi_product.proofs.RowLemmas.{last_cell}
use Rattle.quasi_product.proofs.rows.product_terms.Goals as goal

pub row_of-requires-clause-fits : goal.row_of-requires-clause-fits
row_of-requires-clause-fits g c =
    subst (All (λ s. length c.args.u + length s.word ≤ 24)) (sym c.as_slice.ensures.value)
    (λ i d h. omega (arith, c.in_ok-suffixes.ensures.within i d h, c.requires.fits))

pub row_of-requires-clause-suffixes : goal.row_of-requires-clause-suffixes
row_of-requires-clause-suffixes g c = subst (AreSuffixes g.L.Letters.alphabet) (sym c.as_slice.ensures.value) c.in_ok-suffixes.ensures.suffixes

pub returns-in-Some : goal.returns-in-Some
returns-in-Some g c = record {
  ok = last_cell (λ cell. cell.items) (g.R.Ring.has c.args.ring.now) (g.R.Ring.value c.args.ring.now) (g.R.Ring.modulus c.args.ring.now)
      (g.R.Ring.value c.args.ring.now c.args.c) g.L.Letters.alphabet c.args.u c.args.v c.as_slice.result.now c.in_ok-row.row.items c.pop.new.self.items
      c.in-Some.terms
      c.in_ok-row.ensures.row c.in-Some.ensures.items c.in_ok-row.ensures.length
      (subst (λ xs. (s : Suffix) → (slice_index_or xs (length xs - 1) s).word ≡ c.args.v) (sym c.as_slice.ensures.value) c.in_ok-suffixes.ensures.last);
}

pub returns : goal.returns
returns g c = absurd (omega (
  arith,
  c.in_ok-row.row.ok.0,
  c.in-None.ensures.cases.0,
  c.in_ok-row.ensures.length,
  ap length c.as_slice.ensures.value,
  c.in_ok-suffixes.ensures.suffixes.some,
))
