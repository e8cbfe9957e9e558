use Rattle.std.proofs.Common.{ℕ, ◌+◌, ◌-◌, ◌/◌, ◌<◌, length, sym, ◌∙◌, arith}
use Rattle.lyndon_polys.proofs.Halving.{above_middle, below_middle, at_middle, none_between}
use Rattle.lyndon_polys.proofs.rows_by_word.row_at.Goals as goal

pub loop-low-preserved-in-Less : goal.loop-low-preserved-in-Less
loop-low-preserved-in-Less g c =
    let middle : ℕ = c.loop-low.low + (c.loop-low.high - c.loop-low.low) / 2 in
    let within : middle < length c.args.rows.now = omega (arith, c.loop-low-test.true, c.loop-low.invariant.within) in
    record {
      within = c.loop-low.invariant.within;
      between = above_middle c.args.rows.now c.requires c.args.word c.loop-low.low c.loop-low.high middle c.loop-low.invariant.between
          c.index-rows-middle.result c.index-rows-middle.is within (sym c.cmp.ensures ∙ c.in-Less.is);
    }

pub returns-in-Equal-clause-some : goal.returns-in-Equal-clause-some
returns-in-Equal-clause-some g c =
    let middle : ℕ = c.loop-low.low + (c.loop-low.high - c.loop-low.low) / 2 in
    let within : middle < length c.args.rows.now = omega (arith, c.loop-low-test.true, c.loop-low.invariant.within) in
    at_middle c.args.rows.now c.requires c.args.word c.loop-low.low c.loop-low.high middle c.loop-low.invariant.between c.index-rows-middle.result
    c.index-rows-middle.is within (sym c.cmp.ensures ∙ c.in-Equal.is)

pub loop-low-preserved : goal.loop-low-preserved
loop-low-preserved g c =
    let middle : ℕ = c.loop-low.low + (c.loop-low.high - c.loop-low.low) / 2 in
    let within : middle < length c.args.rows.now = omega (arith, c.loop-low-test.true, c.loop-low.invariant.within) in
    record {
      within = omega (arith, within);
      between = below_middle c.args.rows.now c.requires c.args.word c.loop-low.low c.loop-low.high middle c.loop-low.invariant.between
          c.index-rows-middle.result c.index-rows-middle.is within (sym c.cmp.ensures ∙ c.in-Greater.is);
    }

pub returns-clause-none : goal.returns-clause-none
returns-clause-none g c = none_between c.args.rows.now c.args.word c.loop-low.low c.loop-low.high c.loop-low.invariant.between
    (omega (arith, c.loop-low-test.false))
