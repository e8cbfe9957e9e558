use Rattle.std.proofs.Common.{List, IsTrue, ◌∙◌, ap, subst}
use Rattle.std.specs.Prelude.{◌↔◌}
use Rattle.share_model.specs.Checked.{Checked}
use Rattle.share_merge.specs.Turns.{HasIndex}
use Rattle.share_core.specs.Lists.{Lists}
use Rattle.share_core.proofs.lists.ShareLists.is_counted.Goals as goal

pub returns : goal.returns
returns g c =
    subst (λ (list : List (Checked g.row.R.Denot g.row.R-Elem.Denot)). IsTrue c.has_index.result ↔ HasIndex list c.args.index)
    (c.deref.ensures.value ∙ ap (λ (lists : Lists g.row.R.Denot g.row.R-Elem.Denot). lists.counted) c.self.view_is) c.has_index.ensures
