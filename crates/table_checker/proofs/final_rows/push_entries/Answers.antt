use Rattle.std.proofs.Common.{◌≡◌, ◌∷◌, rules}
use Rattle.table_checker.proofs.RowsRead.{reading_starts, next_row, next_combination, reads_on, reading_ends}
use Rattle.table_checker.proofs.final_rows.push_entries.Goals as goal

pub loop-entry-init : goal.loop-entry-init
loop-entry-init g c = reading_starts _ _ _ _ _ _ _ c.requires

pub push_entry-requires-clause-row : goal.push_entry-requires-clause-row
push_entry-requires-clause-row g c =
    let begins : c.loop-entry.rest.now ≡ c.in-Some.entry.now ∷ c.in-Some.behind.now = search rules in
    next_row _ _ _ _ _ _ _ _ _ _ c.loop-entry.invariant _ _ begins

pub push_entry-requires-clause-combination : goal.push_entry-requires-clause-combination
push_entry-requires-clause-combination g c =
    let begins : c.loop-entry.rest.now ≡ c.in-Some.entry.now ∷ c.in-Some.behind.now = search rules in
    next_combination _ _ _ _ _ _ _ _ _ _ c.loop-entry.invariant _ _ begins

pub loop-entry-preserved : goal.loop-entry-preserved
loop-entry-preserved g c =
    let begins : c.loop-entry.rest.now ≡ c.in-Some.entry.now ∷ c.in-Some.behind.now = search rules in
    reads_on _ _ _ _ _ _ _ _ _ _ c.loop-entry.invariant _ _ begins _ _ c.in_ok-push_entry.ensures

pub returns : goal.returns
returns g c = reading_ends _ _ _ _ _ _ _ _ _ _ c.loop-entry.invariant c.in_default.ensures.cases
