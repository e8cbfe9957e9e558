use Rattle.std.proofs.Common.{subst, sym, arith}
use Rattle.sparse_rows.specs.Entries.{IsRow, IsBelow}
use Rattle.sparse_rows.proofs.EntryLemmas.{IsRow-append}
use Rattle.sparse_rows.proofs.pairs.Pairs.push.Goals as goal

pub invariant_of-self-2 : goal.invariant_of-self-2
invariant_of-self-2 g c =
    subst (IsRow g.K.Key.number g.R.Ring.zero 0) (sym c.in_ok-push.ensures.items)
    (IsRow-append g.K.Key.number g.R.Ring.zero 0 c.args.key c.args.residue c.self.inside.pairs.items (omega arith) c.self.invariant
    (subst (IsBelow g.K.Key.number (g.K.Key.number c.args.key)) (sym c.self.view_is) c.requires.behind) c.requires.nonzero)

pub returns-clause-row : goal.returns-clause-row
returns-clause-row g c = invariant_of-self-2 g c
