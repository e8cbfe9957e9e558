use Rattle.std.proofs.Common.{ℕ, List, IsTrue, ◌∙◌, ap, subst}
use Rattle.std.specs.Prelude.{◌↔◌}
use Rattle.share_model.specs.Checked.{Checked}
use Rattle.share_merge.specs.Turns.{HasIndex}
use Rattle.share_core.specs.Lists.{Lists, IsGranted}
use Rattle.share_core.proofs.ListFacts.{free_if_not_granted, not_free_if_counted}
use Rattle.share_core.proofs.lists.ShareLists.is_free.Goals as goal

pub returns-then-not-has_index : goal.returns-then-not-has_index
returns-then-not-has_index g c =
    let counted = subst (λ (list : List (Checked g.row.R.Denot g.row.R-Elem.Denot)). IsTrue c.has_index.result ↔ HasIndex list c.args.index)
    (c.deref.ensures.value ∙ ap (λ (lists : Lists g.row.R.Denot g.row.R-Elem.Denot). lists.counted) c.self.view_is) c.has_index.ensures in
    let granted = subst (λ (list : List (ℕ × ℕ)). IsTrue c.is_granted.result ↔ IsGranted list c.args.index)
    (c.deref-then-not-has_index.ensures.value ∙ ap (λ (lists : Lists g.row.R.Denot g.row.R-Elem.Denot). lists.granted) c.self.view_is)
    c.is_granted.ensures in
    free_if_not_granted c.args.self.now c.args.index c.has_index.result c.is_granted.result c.if-not-has_index.true counted granted

pub returns-else-not-has_index : goal.returns-else-not-has_index
returns-else-not-has_index g c =
    let counted = subst (λ (list : List (Checked g.row.R.Denot g.row.R-Elem.Denot)). IsTrue c.has_index.result ↔ HasIndex list c.args.index)
    (c.deref.ensures.value ∙ ap (λ (lists : Lists g.row.R.Denot g.row.R-Elem.Denot). lists.counted) c.self.view_is) c.has_index.ensures in
    not_free_if_counted c.args.self.now c.args.index c.has_index.result c.if-not-has_index.false counted
