use Rattle.std.proofs.Common.{◌≡◌, ℕ, ◌+◌, ◌*◌, ◌%◌, ◌<◌, [], length, get_or, sym, ◌∙◌, ap, subst, arith}
use Rattle.std.specs.List.{All}
use Rattle.std.proofs.lemmas.List.{get_or_default}
use Rattle.linear_model.specs.Rows.{combination, SameRow}
use Rattle.row_sums.specs.Totals.{total_at}
use Rattle.echelon.specs.Lists.{entries_of, row_at}
use Rattle.echelon.specs.Offers.{used_at}
use Rattle.table_build.proofs.AddedSums.{added_more, added_none}
use Rattle.table_build.proofs.totals.add_used.Goals as goal
use Rattle.table_build.proofs.totals.add_used.Goals.{then-not-is_zero, else-not-is_zero}

pub loop-i-preserved : goal.loop-i-preserved
loop-i-preserved g c =
    let ring = c.args.ring.now in
    let m = g.R.Ring.modulus ring in
    let value = g.R.Ring.value ring in
    let total = g.R.Ring.total ring in
    let i = c.loop-i.i in
    let rows = row_at value c.args.combinations.now in
    let factors = used_at value c.args.numbers.now c.args.uses.now in
    let start = total_at total c.args.sum.now in
    let inside : i < length c.args.combinations.now = omega (arith, c.loop-i-test.true) in
    let factor : value c.entry_at-factor.result ≡ factors i = c.entry_at-factor.ensures.value in
    elim c.if-not-is_zero.branch [
      | then-not-is_zero w ↦
          let other : w.index-combinations-i.result ≡ get_or c.args.combinations.now i [] =
          w.index-combinations-i.is ∙ get_or_default c.args.combinations.now i w.index-combinations-i.result [] inside in
          let added : (q : ℕ) → entries_of value w.entries.result.now q ≡ rows i q = λ q. ap (λ es. entries_of value es q) (w.entries.ensures.entries ∙ other) in
          record {
            len = ap length w.sum-is ∙ w.add.ensures.len ∙ c.loop-i.invariant.len;
            is_sum = subst (All (g.R.Ring.is_sum ring)) (sym w.sum-is) w.add.ensures.all;
            same = subst (λ s. SameRow m (total_at total s) (λ q. start q + combination (i + 1) rows factors q)) (sym w.sum-is)
                (added_more m i rows factors start (total_at total c.loop-i.sum) (total_at total w.add.new.self) c.loop-i.invariant.same
                (λ q. w.add.ensures.sum q ∙ (λ k. (total_at total c.loop-i.sum q + factor k * added q k) % m)));
          }
      | else-not-is_zero w ↦
          let none : factors i ≡ 0 = sym factor ∙ ap value (c.is_zero.ensures.0 w.if-not-is_zero.false) ∙ g.met.R.Ring.value_zero ring in
          record {
            len = ap length w.sum-is ∙ c.loop-i.invariant.len;
            is_sum = subst (All (g.R.Ring.is_sum ring)) (sym w.sum-is) c.loop-i.invariant.is_sum;
            same = subst (λ s. SameRow m (total_at total s) (λ q. start q + combination (i + 1) rows factors q)) (sym w.sum-is)
                (added_none m i rows factors start (total_at total c.loop-i.sum) c.loop-i.invariant.same none);
          }
    ]
