use Rattle.std.proofs.Common.{[], length, refl, sym, ap, subst, ◌∙◌, arith}
use Rattle.std.specs.Prelude.{slice_index_or}
use Rattle.std.proofs.lemmas.Result.{IfOk-weaker}
use Rattle.word_sums.specs.Terms.{AllIn}
use Rattle.quasi_product.specs.Inner.{FitBehind}
use Rattle.quasi_product.proofs.MergeLemmas.{IsMerged-behind}
use Rattle.quasi_product.proofs.NextCell.{first_cell, head_v, letters_fit, fit_u, fit_v, fit_joined, behind_u, behind_v, behind_both, next_two, next_three}
use Rattle.quasi_product.proofs.rows.next_cell.Goals as goal

pub join_letters-requires : goal.join_letters-requires
join_letters-requires g c = record {
  letter_a = c.requires.head.letter;
  letter_b = (head_v (λ cell. cell.items) (g.R.Ring.has c.args.ring.now) (g.R.Ring.value c.args.ring.now) (g.R.Ring.modulus c.args.ring.now)
      (g.R.Ring.value c.args.ring.now c.args.c) g.L.Letters.alphabet g.met.L.Letters.laws c.args.suffixes.now c.requires.suffixes c.args.u.now
      c.index-suffixes-i.result c.requires.head c.requires.fits
      c.args.below.now c.args.row.now c.requires.below c.requires.row (length c.args.row.now) refl
      (omega (arith, c.if-i-eq0.false)) c.requires.more c.requires.length c.index-suffixes-i.is).letter;
  fits = letters_fit (λ cell. cell.items) (g.R.Ring.has c.args.ring.now) (g.R.Ring.value c.args.ring.now) (g.R.Ring.modulus c.args.ring.now)
      (g.R.Ring.value c.args.ring.now c.args.c) g.L.Letters.alphabet g.met.L.Letters.laws c.args.suffixes.now c.requires.suffixes c.args.u.now
      c.index-suffixes-i.result c.requires.head c.requires.fits
      c.args.below.now c.args.row.now c.requires.below c.requires.row (length c.args.row.now) refl
      (omega (arith, c.if-i-eq0.false)) c.requires.more c.requires.length c.index-suffixes-i.is;
}

pub merged-requires : goal.merged-requires
merged-requires g c = record {
  fits_left = subst (FitBehind 24 c.args.u.now.letter) (sym c.as_slice.ensures.value)
      (fit_u (λ cell. cell.items) (g.R.Ring.has c.args.ring.now) (g.R.Ring.value c.args.ring.now) (g.R.Ring.modulus c.args.ring.now)
      (g.R.Ring.value c.args.ring.now c.args.c) g.L.Letters.alphabet g.met.L.Letters.laws c.args.suffixes.now c.requires.suffixes c.args.u.now
      c.index-suffixes-i.result c.requires.head c.requires.fits
      c.args.below.now c.args.row.now c.requires.below c.requires.row (length c.args.row.now) refl
      (omega (arith, c.if-i-eq0.false)) c.requires.more c.requires.length c.index-suffixes-i.is c.index-below-i.result c.index-below-i.is);
  fits_right = subst (FitBehind 24 c.index-suffixes-i.result.letter) (sym c.as_slice-in-None.ensures.value)
      (fit_v (λ cell. cell.items) (g.R.Ring.has c.args.ring.now) (g.R.Ring.value c.args.ring.now) (g.R.Ring.modulus c.args.ring.now)
      (g.R.Ring.value c.args.ring.now c.args.c) g.L.Letters.alphabet g.met.L.Letters.laws c.args.suffixes.now c.requires.suffixes c.args.u.now
      c.index-suffixes-i.result c.requires.head c.requires.fits
      c.args.below.now c.args.row.now c.requires.below c.requires.row (length c.args.row.now) refl
      (omega (arith, c.if-i-eq0.false)) c.requires.more c.requires.length c.index-suffixes-i.is c.index-row-i.result c.index-row-i.is);
  left_in_ring = subst (AllIn (g.R.Ring.has c.args.ring.now)) (sym c.as_slice.ensures.value)
      (behind_u (λ cell. cell.items) (g.R.Ring.has c.args.ring.now) (g.R.Ring.value c.args.ring.now) (g.R.Ring.modulus c.args.ring.now)
      (g.R.Ring.value c.args.ring.now c.args.c) g.L.Letters.alphabet g.met.L.Letters.laws c.args.suffixes.now c.requires.suffixes c.args.u.now
      c.index-suffixes-i.result c.requires.head c.requires.fits
      c.args.below.now c.args.row.now c.requires.below c.requires.row (length c.args.row.now) refl
      (omega (arith, c.if-i-eq0.false)) c.requires.more c.requires.length c.index-suffixes-i.is c.index-below-i.result c.index-below-i.is).in_ring;
  right_in_ring = subst (AllIn (g.R.Ring.has c.args.ring.now)) (sym c.as_slice-in-None.ensures.value)
      (behind_v (λ cell. cell.items) (g.R.Ring.has c.args.ring.now) (g.R.Ring.value c.args.ring.now) (g.R.Ring.modulus c.args.ring.now)
      (g.R.Ring.value c.args.ring.now c.args.c) g.L.Letters.alphabet g.met.L.Letters.laws c.args.suffixes.now c.requires.suffixes c.args.u.now
      c.index-suffixes-i.result c.requires.head c.requires.fits
      c.args.below.now c.args.row.now c.requires.below c.requires.row (length c.args.row.now) refl
      (omega (arith, c.if-i-eq0.false)) c.requires.more c.requires.length c.index-suffixes-i.is c.index-row-i.result c.index-row-i.is).in_ring;
}

pub merged-requires-in-Some : goal.merged-requires-in-Some
merged-requires-in-Some g c = record {
  fits_left = subst (FitBehind 24 c.args.u.now.letter) (sym c.as_slice-in-Some.ensures.value)
      (fit_u (λ cell. cell.items) (g.R.Ring.has c.args.ring.now) (g.R.Ring.value c.args.ring.now) (g.R.Ring.modulus c.args.ring.now)
      (g.R.Ring.value c.args.ring.now c.args.c) g.L.Letters.alphabet g.met.L.Letters.laws c.args.suffixes.now c.requires.suffixes c.args.u.now
      c.index-suffixes-i.result c.requires.head c.requires.fits
      c.args.below.now c.args.row.now c.requires.below c.requires.row (length c.args.row.now) refl
      (omega (arith, c.if-i-eq0.false)) c.requires.more c.requires.length c.index-suffixes-i.is c.index-below-i-in-Some-2.result c.index-below-i-in-Some-2.is);
  fits_right = subst (FitBehind 24 c.index-suffixes-i.result.letter) (sym c.as_slice-in-Some-2.ensures.value)
      (fit_v (λ cell. cell.items) (g.R.Ring.has c.args.ring.now) (g.R.Ring.value c.args.ring.now) (g.R.Ring.modulus c.args.ring.now)
      (g.R.Ring.value c.args.ring.now c.args.c) g.L.Letters.alphabet g.met.L.Letters.laws c.args.suffixes.now c.requires.suffixes c.args.u.now
      c.index-suffixes-i.result c.requires.head c.requires.fits
      c.args.below.now c.args.row.now c.requires.below c.requires.row (length c.args.row.now) refl
      (omega (arith, c.if-i-eq0.false)) c.requires.more c.requires.length c.index-suffixes-i.is c.index-row-i-in-Some.result c.index-row-i-in-Some.is);
  left_in_ring = subst (AllIn (g.R.Ring.has c.args.ring.now)) (sym c.as_slice-in-Some.ensures.value)
      (behind_u (λ cell. cell.items) (g.R.Ring.has c.args.ring.now) (g.R.Ring.value c.args.ring.now) (g.R.Ring.modulus c.args.ring.now)
      (g.R.Ring.value c.args.ring.now c.args.c) g.L.Letters.alphabet g.met.L.Letters.laws c.args.suffixes.now c.requires.suffixes c.args.u.now
      c.index-suffixes-i.result c.requires.head c.requires.fits
      c.args.below.now c.args.row.now c.requires.below c.requires.row (length c.args.row.now) refl
      (omega (arith, c.if-i-eq0.false)) c.requires.more c.requires.length c.index-suffixes-i.is c.index-below-i-in-Some-2.result
      c.index-below-i-in-Some-2.is).in_ring;
  right_in_ring = subst (AllIn (g.R.Ring.has c.args.ring.now)) (sym c.as_slice-in-Some-2.ensures.value)
      (behind_v (λ cell. cell.items) (g.R.Ring.has c.args.ring.now) (g.R.Ring.value c.args.ring.now) (g.R.Ring.modulus c.args.ring.now)
      (g.R.Ring.value c.args.ring.now c.args.c) g.L.Letters.alphabet g.met.L.Letters.laws c.args.suffixes.now c.requires.suffixes c.args.u.now
      c.index-suffixes-i.result c.requires.head c.requires.fits
      c.args.below.now c.args.row.now c.requires.below c.requires.row (length c.args.row.now) refl
      (omega (arith, c.if-i-eq0.false)) c.requires.more c.requires.length c.index-suffixes-i.is c.index-row-i-in-Some.result c.index-row-i-in-Some.is).in_ring;
}

pub add_behind-requires : goal.add_behind-requires
add_behind-requires g c = record {
  fits = fit_joined (λ cell. cell.items) (g.R.Ring.has c.args.ring.now) (g.R.Ring.value c.args.ring.now) (g.R.Ring.modulus c.args.ring.now)
      (g.R.Ring.value c.args.ring.now c.args.c) g.L.Letters.alphabet g.met.L.Letters.laws c.args.suffixes.now c.requires.suffixes c.args.u.now
      c.index-suffixes-i.result c.requires.head c.requires.fits
      c.args.below.now c.args.row.now c.requires.below c.requires.row (length c.args.row.now) refl
      (omega (arith, c.if-i-eq0.false)) c.requires.more c.requires.length c.index-suffixes-i.is
      c.index-below-i-in-Some.result c.in-Some.z c.as_slice-both.result.now c.index-below-i-in-Some.is c.as_slice-both.ensures.value c.in-Some.ensures.weight;
}

pub returns-then-i-eq0 : goal.returns-then-i-eq0
returns-then-i-eq0 g c = record {
  cell = IfOk-weaker c.one_term.result _ _
      (λ cell is s.
      first_cell (g.R.Ring.has c.args.ring.now) (g.R.Ring.value c.args.ring.now)
      (g.R.Ring.modulus c.args.ring.now) c.args.c g.L.Letters.alphabet c.args.u.now.word
      (slice_index_or c.args.suffixes.now (length c.args.row.now) s).word cell.items is
      (ap (λ i. (slice_index_or c.args.suffixes.now i s).word) c.if-i-eq0.true ∙ c.requires.suffixes.begins s) c.requires.has_c)
      c.one_term.ensures;
}

pub returns-in-None : goal.returns-in-None
returns-in-None g c = record {
  cell = IfOk-weaker c.merged.result _ _
      (λ two merged. next_two (λ cell. cell.items) (g.R.Ring.has c.args.ring.now) (g.R.Ring.value c.args.ring.now) (g.R.Ring.modulus c.args.ring.now)
      (g.R.Ring.value c.args.ring.now c.args.c) g.L.Letters.alphabet g.met.L.Letters.laws c.args.suffixes.now c.requires.suffixes c.args.u.now
      c.index-suffixes-i.result c.requires.head c.requires.fits
      c.args.below.now c.args.row.now c.requires.below c.requires.row (length c.args.row.now) refl
      (omega (arith, c.if-i-eq0.false)) c.requires.more c.requires.length c.index-suffixes-i.is
      c.index-below-i.result c.index-row-i.result c.as_slice.result.now c.as_slice-in-None.result.now two.items c.index-below-i.is c.index-row-i.is
      c.as_slice.ensures.value c.as_slice-in-None.ensures.value merged c.in-None.ensures.is)
      c.merged.ensures.ok;
}

pub returns-in_ok-add_behind-in-Some : goal.returns-in_ok-add_behind-in-Some
returns-in_ok-add_behind-in-Some g c = record {
  cell = next_three (λ cell. cell.items) (g.R.Ring.has c.args.ring.now) (g.R.Ring.value c.args.ring.now) (g.R.Ring.modulus c.args.ring.now)
      (g.R.Ring.value c.args.ring.now c.args.c) g.L.Letters.alphabet g.met.L.Letters.laws c.args.suffixes.now c.requires.suffixes c.args.u.now
      c.index-suffixes-i.result c.requires.head c.requires.fits
      c.args.below.now c.args.row.now c.requires.below c.requires.row (length c.args.row.now) refl
      (omega (arith, c.if-i-eq0.false)) c.requires.more c.requires.length c.index-suffixes-i.is
      c.index-below-i-in-Some-2.result c.index-row-i-in-Some.result c.index-below-i-in-Some.result c.as_slice-in-Some.result.now
      c.as_slice-in-Some-2.result.now c.as_slice-both.result.now c.in_ok-terms-in-Some.terms.items c.in_ok-terms-in-Some.terms.items
      c.add_behind.new.terms.items c.in-Some.z []
      c.index-below-i-in-Some-2.is c.index-row-i-in-Some.is c.index-below-i-in-Some.is c.as_slice-in-Some.ensures.value c.as_slice-in-Some-2.ensures.value
      c.as_slice-both.ensures.value c.in_ok-terms-in-Some.ensures.ok c.in-Some.ensures.is c.in-Some.ensures.weight refl refl
      (IsMerged-behind (g.R.Ring.has c.args.ring.now) (g.R.Ring.value c.args.ring.now)
      (g.R.Ring.modulus c.args.ring.now) c.in-Some.z c.in_ok-terms-in-Some.terms.items c.as_slice-both.result.now c.add_behind.new.terms.items
      c.in_ok-add_behind-in-Some.ensures.ok c.in_ok-terms-in-Some.ensures.ok.in_ring
      (subst (AllIn (g.R.Ring.has c.args.ring.now)) (sym c.as_slice-both.ensures.value)
      (behind_both (λ cell. cell.items) (g.R.Ring.has c.args.ring.now) (g.R.Ring.value c.args.ring.now) (g.R.Ring.modulus c.args.ring.now)
      (g.R.Ring.value c.args.ring.now c.args.c) g.L.Letters.alphabet g.met.L.Letters.laws c.args.suffixes.now c.requires.suffixes c.args.u.now
      c.index-suffixes-i.result c.requires.head c.requires.fits
      c.args.below.now c.args.row.now c.requires.below c.requires.row (length c.args.row.now) refl
      (omega (arith, c.if-i-eq0.false)) c.requires.more c.requires.length c.index-suffixes-i.is c.index-below-i-in-Some.result
      c.index-below-i-in-Some.is).in_ring));
}
