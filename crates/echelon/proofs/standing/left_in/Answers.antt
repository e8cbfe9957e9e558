use Rattle.std.proofs.Common.{◌≡◌, ◌+◌, ◌%◌, sym, ◌∙◌, ap, arith}
use Rattle.zeta_model.proofs.ModularLemmas.{same-mod}
use Rattle.echelon.specs.Lists.{entries_of}
use Rattle.echelon.specs.Inner.{numbers_of}
use Rattle.echelon.proofs.Remains.{rest_between}
use Rattle.echelon.proofs.standing.left_in.Goals as goal

pub returns-clause-rest : goal.returns-clause-rest
returns-clause-rest g c = λ rows stand.
    let ring = c.args.ring.now in
    let m = g.R.Ring.modulus ring in
    let value = g.R.Ring.value ring in
    let total = g.R.Ring.total ring in
    rest_between m value rows (entries_of value c.args.entries.now) (λ q. numbers_of total c.args.sums.now q + entries_of value c.args.entries.now q)
    (numbers_of total c.add_standing.new.sums) (entries_of value c.in_ok-left.left)
    (λ q. ap (λ x. x % m) (let e : entries_of value c.args.entries.now q
    ≡ numbers_of total c.args.sums.now q + entries_of value c.args.entries.now q = omega (arith, c.requires.zero q) in e))
    (c.add_standing.ensures.rest rows stand)
    (λ q. sym (ap (λ x. x % m) (c.in_ok-left.ensures.entries q) ∙ same-mod m (numbers_of total c.add_standing.new.sums q)))
