use Rattle.std.proofs.Common.{◌≡◌, ◌+◌, ◌%◌, ◌<◌, length, refl, sym, ◌∙◌, ap, subst, rules}
use Rattle.word_forms.specs.Inner.{numbers_of}
use Rattle.word_forms.proofs.SumLemmas.{numbers_of-get}
use Rattle.word_forms.proofs.GatheredRows.{true_or_false, Gathering, gathered_more, gathered_none}
use Rattle.word_forms.proofs.gathering.gathered.Goals as goal
use Rattle.word_forms.proofs.gathering.gathered.Goals.{then-not-is_zero+in_ok-push, else-not-is_zero}

pub loop-column-preserved : goal.loop-column-preserved
loop-column-preserved g c =
    let ring = c.args.ring.now in
    let total = g.R.Ring.total ring in
    let inside : c.loop-column.column < length c.args.sums.now = search rules in
    let is : g.R.Ring.value ring c.close_sum-residue.result ≡ numbers_of total c.args.sums.now c.loop-column.column % g.R.Ring.modulus ring =
    c.close_sum-residue.ensures.value
    ∙ ap (λ x. x % g.R.Ring.modulus ring) (ap total c.index-sums-column.is
    ∙ numbers_of-get total c.args.sums.now c.loop-column.column c.index-sums-column.result inside) in
    elim c.if-not-is_zero.branch [
      | then-not-is_zero+in_ok-push w ↦ gathered_more _ _ _ _ _ _ _ _ _ refl c.loop-column.invariant c.close_sum-residue.ensures.has is _ (w.row-is
          ∙ w.in_ok-push.ensures.ok) (λ e. true_or_false c.is_zero.result (c.is_zero.ensures.1 e) w.if-not-is_zero.true)
      | else-not-is_zero w ↦ subst (Gathering (g.R.Ring.modulus ring) (g.R.Ring.has ring) (g.R.Ring.value ring) g.R.Ring.zero
          (numbers_of total c.args.sums.now) (c.loop-column.column + 1)) (sym w.row-is)
          (gathered_none _ _ _ _ _ _ c.loop-column.column _ _ refl c.loop-column.invariant c.close_sum-residue.ensures.has is
          (ap (g.R.Ring.value ring) (c.is_zero.ensures.0 w.if-not-is_zero.false) ∙ g.met.R.Ring.value_zero ring))
    ]
