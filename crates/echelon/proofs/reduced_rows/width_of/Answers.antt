use Rattle.std.proofs.Common.{◌≡◌, ◌+◌, ◌-◌, length, get_or, sym, subst}
use Rattle.sparse_rows.specs.Entries.{IsBelow}
use Rattle.echelon.proofs.RowLemmas.{below_last}
use Rattle.echelon.proofs.reduced_rows.width_of.Goals as goal

pub returns-clause-below : goal.returns-clause-below
returns-clause-below g c =
    let e = c.index-entries-entries.result in
    let same : c.entries-entries.result.now ≡ c.args.row.now = c.entries-entries.ensures.entries in
    let at : c.from.result ≡ (get_or c.entries-entries.result.now (length c.entries-entries.result.now - 1) e).0 = c.from.ensures in
    subst (λ n. IsBelow (λ k. k) (n + 1) c.args.row.now) (sym at)
    (subst (λ es. IsBelow (λ k. k) ((get_or es (length es - 1) e).0 + 1) c.args.row.now) (sym same)
    (below_last g.R.Ring.zero 0 c.args.row.now e c.entries-entries.ensures.row))
