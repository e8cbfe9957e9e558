use Rattle.std.proofs.Common.{ap, ◌∙◌, arith}
use Rattle.page_rows.specs.Written.{written}
use Rattle.cert_checker.specs.Inner.{IsMissing}
use Rattle.cert_checker.proofs.Telling.{told-missing}
use Rattle.cert_checker.proofs.completeness.told_missing.Goals as goal

pub returns-in_ok-pairs-in-Some : goal.returns-in_ok-pairs-in-Some
returns-in_ok-pairs-in-Some g c =
    let ring = c.args.table.now.ring in
    let r = g.met.R.Ring in
    let missing : IsMissing (g.R.Ring.modulus ring) (g.R.Ring.has ring) (g.R.Ring.value ring) c.args.table.now.columns g.R.Ring.zero
    c.args.list.now.rows c.in-Some.n c.in-Some.rest =
    rw c.in-Some.is at c.in_ok-n.ensures in
    told-missing (g.R.Ring.value ring) (g.R.Ring.modulus ring) (g.R.Ring.has ring) g.R.Ring.zero (omega (arith, r.modulus_from ring)) (r.has_zero ring)
    (r.value_zero ring) (r.value_below ring) (r.value_injective ring) c.args.table.now.columns c.args.list.now.rows c.in-Some.n c.in-Some.rest
    c.in_ok-pairs-in-Some.pairs missing
    (c.in_ok-pairs-in-Some.ensures.written ∙ ap (λ x. written (g.R.Ring.value x) c.in-Some.rest) c.ring.ensures)
