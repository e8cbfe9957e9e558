use Rattle.std.proofs.Common.{◌≡◌, refl, ◌∙◌, ap, below_more, get_or, arith, sym}
use Rattle.std.proofs.lemmas.List.{get_or_default}
use Rattle.share_model.specs.Checked.{Checked}
use Rattle.share_core.proofs.lists.has_index.Goals as goal

pub returns : goal.returns
returns g c = (
  λ e. cc,
  λ (k, x, l, at, e).
      absurd (c.loop-share.invariant k x (omega (arith, l, c.loop-share-test.false))
      (ap (λ (d : Checked g.row.R.Denot g.row.R-Elem.Denot). d.id.index) at ∙ e)),
)

pub returns-then-id-index : goal.returns-then-id-index
returns-then-id-index g c = (
  λ e. (
    c.loop-share.share-index,
    c.share-item.result,
    c.loop-share-test.true,
    sym c.share-item.is,
    sym (ap (λ id. id.index) c.id.ensures) ∙ c.if-id-index.true,
  ),
  λ h. refl,
)

pub loop-share-preserved : goal.loop-share-preserved
loop-share-preserved g c k d =
    below_more (λ k. (get_or c.args.shares.now k d).id.index ≡ c.args.index → ⊥) c.loop-share.share-index (λ k l. c.loop-share.invariant k d l) (λ e.
    c.if-id-index.false (ap (λ id. id.index) c.id.ensures
    ∙ ap (λ (x : Checked g.row.R.Denot g.row.R-Elem.Denot). x.id.index) (c.share-item.is ∙ get_or_default c.args.shares.now c.loop-share.share-index
    c.share-item.result d c.loop-share-test.true) ∙ e)) k
