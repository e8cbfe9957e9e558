use Rattle.std.proofs.Common.{List, IsTrue, subst}
use Rattle.std.specs.Prelude.{◌↔◌}
use Rattle.share_model.specs.Checked.{Checked}
use Rattle.share_merge.specs.Turns.{HasAll}
use Rattle.share_core.specs.Coordinations.{Coordination}
use Rattle.share_core.proofs.coordinator.Coordinator.done.Goals as goal

pub returns : goal.returns
returns g c =
    subst (λ (k : Coordination g.row.R.Denot g.row.R-Elem.Denot). IsTrue c.has_all.result ↔ HasAll k.setting.of k.lists.counted) c.self.view_is
    (subst (λ n. IsTrue c.has_all.result ↔ HasAll n c.self.inside.lists.counted) c.of.ensures.of
    (subst (λ (list : List (Checked g.row.R.Denot g.row.R-Elem.Denot)). IsTrue c.has_all.result ↔ HasAll c.of.result list) c.counted.ensures
    c.has_all.ensures))
