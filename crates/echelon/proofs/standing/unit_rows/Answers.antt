use Rattle.std.proofs.Common.{◌≡◌, ◌+◌, ◌%◌, [], get_or, cond, eqb, sym, ◌∙◌, ap, arith}
use Rattle.echelon.specs.Lists.{entries_of}
use Rattle.echelon.specs.Inner.{unit_row}
use Rattle.echelon.proofs.Remains.{rest_same}
use Rattle.echelon.proofs.standing.unit_rows.Goals as goal

pub returns-clause-stand : goal.returns-clause-stand
returns-clause-stand g c = λ rows k l.
    let ring = c.args.ring.now in
    let m = g.R.Ring.modulus ring in
    let value = g.R.Ring.value ring in
    rest_same m value rows (unit_row k) (entries_of value (get_or c.loop-column.units.items k [])) (λ q.
    ap (λ x. x % m) (sym (
    ap (λ es. entries_of value es q) (c.loop-column.invariant.is k l)
    ∙ (let e : cond (eqb k q) (value (g.R.Ring.one ring)) 0 + 0 ≡ cond (eqb k q) (value (g.R.Ring.one ring)) 0 = omega arith in e)
    ∙ ap (λ v. cond (eqb k q) v 0) (g.met.R.Ring.value_one ring)
    )))
