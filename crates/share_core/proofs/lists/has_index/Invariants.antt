use Rattle.std.proofs.Common.{◌≢◌, ℕ, ◌<◌, get_or}
use Rattle.share_model.specs.Checked.{Checked}
use Rattle.share_core.proofs.lists.has_index.Given as goal

abbrev pub invariant-loop-share : goal.invariant-loop-share
invariant-loop-share g l =
    (k : ℕ) (d : Checked g.row.R.Denot g.row.R-Elem.Denot) → k < l.share-index → (get_or l.shares k d).id.index ≢ l.index
