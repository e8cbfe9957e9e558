use Rattle.known_sums.proofs.KnownLaws.{known_next, fresh_known}
use Rattle.known_sums.proofs.known_sums.KnownSums.note.Goals as goal

pub returns-then-is_new-clause-knows : goal.returns-then-is_new-clause-knows
returns-then-is_new-clause-knows g c = λ kept within knows.
    let t = c.args.table.now in
    known_next (g.R.Ring.modulus t.ring) (g.R.Ring.has t.ring) (g.R.Ring.value t.ring) t kept c.args.echelon.now.rows c.args.self.now.forms within knows

pub returns-then-self-len-clause-knows : goal.returns-then-self-len-clause-knows
returns-then-self-len-clause-knows g c = λ kept within knows.
    let t = c.args.table.now in
    known_next (g.R.Ring.modulus t.ring) (g.R.Ring.has t.ring) (g.R.Ring.value t.ring) t kept c.args.echelon.now.rows c.args.self.now.forms within knows

pub returns-clause-knows : goal.returns-clause-knows
returns-clause-knows g c = λ kept within knows.
    let t = c.args.table.now in
    fresh_known (g.R.Ring.modulus t.ring) (g.R.Ring.has t.ring) (g.R.Ring.value t.ring) t g.R.Ring.zero c.args.echelon.now.rows c.in_ok-forms.forms.rows
    c.in_ok-forms.forms.forms c.in_ok-forms.ensures
