use Rattle.std.proofs.Common.{◌≡◌, ◌+◌, ◌%◌, ◌<◌, length, refl, sym, ◌∙◌, ap, subst, rules}
use Rattle.row_sums.specs.Totals.{total_at}
use Rattle.row_sums.proofs.TotalLemmas.{total_at-get}
use Rattle.row_sums.proofs.GatheredRows.{true_or_false, Gathering, gathered_more, gathered_none}
use Rattle.row_sums.proofs.sums.gathered.Goals as goal
use Rattle.row_sums.proofs.sums.gathered.Goals.{then-not-is_zero+in_ok-push, else-not-is_zero}

pub loop-number-preserved : goal.loop-number-preserved
loop-number-preserved g c =
    let ring = c.args.ring.now in
    let total = g.R.Ring.total ring in
    let inside : c.loop-number.number < length c.args.sums.now = search rules in
    let is : g.R.Ring.value ring c.close_sum-residue.result ≡ total_at total c.args.sums.now c.loop-number.number % g.R.Ring.modulus ring =
    c.close_sum-residue.ensures.value
    ∙ ap (λ x. x % g.R.Ring.modulus ring) (ap total c.index-sums-number.is
    ∙ total_at-get total c.args.sums.now c.loop-number.number c.index-sums-number.result inside) in
    elim c.if-not-is_zero.branch [
      | then-not-is_zero+in_ok-push w ↦ gathered_more _ _ _ _ _ _ _ _ _ refl c.loop-number.invariant c.close_sum-residue.ensures.has is _ (w.row-is
          ∙ w.in_ok-push.ensures.ok) (λ e. true_or_false c.is_zero.result (c.is_zero.ensures.1 e) w.if-not-is_zero.true)
      | else-not-is_zero w ↦ subst (Gathering (g.R.Ring.modulus ring) (g.R.Ring.has ring) (g.R.Ring.value ring) g.R.Ring.zero
          (total_at total c.args.sums.now) (c.loop-number.number + 1)) (sym w.row-is)
          (gathered_none _ _ _ _ _ _ c.loop-number.number _ _ refl c.loop-number.invariant c.close_sum-residue.ensures.has is
          (ap (g.R.Ring.value ring) (c.is_zero.ensures.0 w.if-not-is_zero.false) ∙ g.met.R.Ring.value_zero ring))
    ]
