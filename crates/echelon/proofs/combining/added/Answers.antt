use Rattle.std.proofs.Common.{◌≡◌, ◌+◌, ◌*◌, ◌%◌, ◌<◌, [], length, get_or, sym, ◌∙◌, ap, subst, arith}
use Rattle.std.proofs.lemmas.List.{get_or_default}
use Rattle.zeta_model.proofs.ModularLemmas.{same-mod}
use Rattle.linear_model.specs.Rows.{combination, SameRow}
use Rattle.sparse_rows.specs.Entries.{AllIn}
use Rattle.echelon.specs.Lists.{entries_of, row_at}
use Rattle.echelon.specs.Inner.{numbers_of}
use Rattle.echelon.proofs.SumLemmas.{numbers_of-get}
use Rattle.echelon.proofs.Values.{added_more, added_none}
use Rattle.echelon.proofs.combining.added.Goals as goal
use Rattle.echelon.proofs.combining.added.Goals.{then-not-is_zero+in_ok-add_scaled, else-not-is_zero}

pub loop-i-preserved : goal.loop-i-preserved
loop-i-preserved g c =
    let ring = c.args.ring.now in
    let m = g.R.Ring.modulus ring in
    let value = g.R.Ring.value ring in
    let i = c.loop-i.i in
    let rows = row_at value c.args.combinations.now in
    let factors = numbers_of value c.args.factors.now in
    let start = entries_of value c.args.start in
    let inside : i < length c.args.combinations.now = omega (arith, c.loop-i-test.true) in
    let factor : value c.index-factors-i.result ≡ factors i =
    ap value c.index-factors-i.is ∙ numbers_of-get value c.args.factors.now i c.index-factors-i.result (omega (arith, c.requires.count)) in
    elim c.if-not-is_zero.branch [
      | then-not-is_zero+in_ok-add_scaled w ↦
          let other : w.index-combinations-i.result ≡ get_or c.args.combinations.now i [] =
          w.index-combinations-i.is ∙ get_or_default c.args.combinations.now i w.index-combinations-i.result [] inside in
          let is : c.if-not-is_zero.sum ≡ w.add_scaled.new.self = w.sum-is in
          record {
            in_ring = subst (AllIn (g.R.Ring.has ring)) (sym is) w.add_scaled.ensures.in_ring;
            same = subst (λ es. SameRow m (entries_of value es) (λ q. start q + combination (i + 1) rows factors q)) (sym is)
                (added_more m i rows factors start (entries_of value c.loop-i.sum) (entries_of value w.add_scaled.new.self) c.loop-i.invariant.same
                (λ q. ap (λ x. x % m) (w.in_ok-add_scaled.ensures.ok q) ∙ same-mod m _
                ∙ (λ k. (entries_of value c.loop-i.sum q + factor k * entries_of value (other k) q) % m)));
          }
      | else-not-is_zero w ↦
          let is : c.if-not-is_zero.sum ≡ c.loop-i.sum = w.sum-is in
          let none : factors i ≡ 0 = sym factor ∙ ap value (c.is_zero.ensures.0 w.if-not-is_zero.false) ∙ g.met.R.Ring.value_zero ring in
          record {
            in_ring = subst (AllIn (g.R.Ring.has ring)) (sym is) c.loop-i.invariant.in_ring;
            same = subst (λ es. SameRow m (entries_of value es) (λ q. start q + combination (i + 1) rows factors q)) (sym is)
                (added_none m i rows factors start (entries_of value c.loop-i.sum) c.loop-i.invariant.same none);
          }
    ]
