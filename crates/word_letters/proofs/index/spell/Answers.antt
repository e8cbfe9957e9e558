use Rattle.std.proofs.Common.{◌-◌, ◌++◌, get_or, ap, ◌∙◌, length, arith}
use Rattle.word_letters.proofs.Indices.{length-z_word, sum-down-le, word-down, weight-down}
use Rattle.word_letters.proofs.index.spell.Goals as goal

pub z-requires-clause-fits : goal.z-requires-clause-fits
z-requires-clause-fits c =
    let i = c.loop-i.invariant in
    omega (arith, sum-down-le c.args.ks.now c.loop-i.i c.loop-i-test.true i.at_most)

pub followed_by-w-requires : goal.followed_by-w-requires
followed_by-w-requires c =
    let i = c.loop-i.invariant in
    omega (
      arith,
      ap length c.z.ensures,
      length-z_word
          (get_or c.args.ks.now (c.loop-i.i - 1) 0),
      sum-down-le c.args.ks.now c.loop-i.i c.loop-i-test.true i.at_most,
      i.weight,
      c.requires.fits,
    )

pub loop-i-preserved : goal.loop-i-preserved
loop-i-preserved c =
    let i = c.loop-i.invariant in
    let word = c.followed_by-w.ensures ∙ ap (λ z. z ++ c.loop-i.w) c.z.ensures in
    record {
      at_most = omega arith;
      shape = word ∙ word-down c.args.ks.now c.loop-i.i c.loop-i-test.true i.at_most c.loop-i.w i.shape;
      weight = ap length word ∙ weight-down c.args.ks.now c.loop-i.i c.loop-i-test.true i.at_most c.loop-i.w i.weight;
    }
