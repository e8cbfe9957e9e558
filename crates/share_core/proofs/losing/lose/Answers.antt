use Rattle.std.proofs.Common.{ℕ, List, length, nat_eq, arith, ap, ◌∙◌}
use Rattle.std.specs.Prelude.{count_by}
use Rattle.share_core.specs.Lists.{Lists, without_worker}
use Rattle.share_core.proofs.ListFacts.{length-without, same_lists}
use Rattle.share_core.proofs.losing.lose.Goals as goal

pub overflow_sub-result : goal.overflow_sub-result
overflow_sub-result g c =
    let parts = length-without (λ (h : ℕ × ℕ). nat_eq h.1 c.args.worker) c.lists.inside.granted.items in
    let left = ap length c.take_worker.ensures in
    omega (arith, parts, left, c.len.ensures, c.len-before.ensures)

pub returns : goal.returns
returns g c =
    let granted = ap (λ (lists : Lists g.row.R.Denot g.row.R-Elem.Denot). lists.granted) c.lists.view_is in
    let counted = ap (λ (lists : Lists g.row.R.Denot g.row.R-Elem.Denot). lists.counted) c.lists.view_is in
    let parts = length-without (λ (h : ℕ × ℕ). nat_eq h.1 c.args.worker) c.lists.inside.granted.items in
    let left = ap length c.take_worker.ensures in
    let count = ap (λ (list : List (ℕ × ℕ)). count_by (λ h. nat_eq h.1 c.args.worker) list) granted in (
      omega (arith, parts, left, c.len.ensures, c.len-before.ensures, count),
      same_lists counted (c.take_worker.ensures ∙ ap (without_worker c.args.worker) granted),
    )
