use Rattle.std.proofs.Common.{◌≡◌, ◌+◌, ◌*◌, ◌%◌, ◌<◌, [], length, get_or, sym, ◌∙◌, ap, subst, arith}
use Rattle.std.proofs.lemmas.List.{get_or_default}
use Rattle.zeta_model.proofs.ModularLemmas.{same-mod}
use Rattle.linear_model.specs.Rows.{combination, SameRow}
use Rattle.sparse_rows.specs.Entries.{AllIn}
use Rattle.echelon.specs.Lists.{entries_of, row_at}
use Rattle.echelon.specs.Offers.{used_at}
use Rattle.table_build.proofs.AddedSums.{added_more, added_none}
use Rattle.table_build.proofs.summing.added.Goals as goal
use Rattle.table_build.proofs.summing.added.Goals.{then-not-is_zero+in_ok-add_scaled, else-not-is_zero}

pub loop-i-init : goal.loop-i-init
loop-i-init g c =
    let ring = c.args.ring.now in
    let value = g.R.Ring.value ring in
    let is : c.in_ok-sum.sum ≡ c.args.start.now = c.in_ok-sum.ensures.ok in
    record {
      in_ring = subst (AllIn (g.R.Ring.has ring)) (sym is) c.requires.start_in_ring;
      same = λ q. ap (λ x. x % g.R.Ring.modulus ring) (ap (λ es. entries_of value es q) is
          ∙ (let e : entries_of value c.args.start.now q ≡ entries_of value c.args.start.now q + 0 = omega arith in e));
    }

pub loop-i-preserved : goal.loop-i-preserved
loop-i-preserved g c =
    let ring = c.args.ring.now in
    let m = g.R.Ring.modulus ring in
    let value = g.R.Ring.value ring in
    let i = c.loop-i.i in
    let rows = row_at value c.args.combinations.now in
    let factors = used_at value c.args.numbers.now c.args.uses.now in
    let start = entries_of value c.args.start.now in
    let inside : i < length c.args.combinations.now = omega (arith, c.loop-i-test.true) in
    let factor : value c.entry-factor.result ≡ factors i = c.entry-factor.ensures.value in
    elim c.if-not-is_zero.branch [
      | then-not-is_zero+in_ok-add_scaled w ↦
          let other : w.index-combinations-i.result ≡ get_or c.args.combinations.now i [] =
          w.index-combinations-i.is ∙ get_or_default c.args.combinations.now i w.index-combinations-i.result [] inside in
          let is : c.if-not-is_zero.sum ≡ w.add_scaled.new.self = w.sum-is in
          record {
            in_ring = subst (AllIn (g.R.Ring.has ring)) (sym is) w.add_scaled.ensures.in_ring;
            same = subst (λ es. SameRow m (entries_of value es) (λ q. start q + combination (i + 1) rows factors q)) (sym is)
                (added_more m i rows factors start (entries_of value c.loop-i.sum) (entries_of value w.add_scaled.new.self) c.loop-i.invariant.same
                (λ q. ap (λ x. x % m) (w.in_ok-add_scaled.ensures.ok q) ∙ same-mod m _
                ∙ (λ k. (entries_of value c.loop-i.sum q + factor k * entries_of value (other k) q) % m)));
          }
      | else-not-is_zero w ↦
          let is : c.if-not-is_zero.sum ≡ c.loop-i.sum = w.sum-is in
          let none : factors i ≡ 0 = sym factor ∙ ap value (c.is_zero.ensures.0 w.if-not-is_zero.false) ∙ g.met.R.Ring.value_zero ring in
          record {
            in_ring = subst (AllIn (g.R.Ring.has ring)) (sym is) c.loop-i.invariant.in_ring;
            same = subst (λ es. SameRow m (entries_of value es) (λ q. start q + combination (i + 1) rows factors q)) (sym is)
                (added_none m i rows factors start (entries_of value c.loop-i.sum) c.loop-i.invariant.same none);
          }
    ]
