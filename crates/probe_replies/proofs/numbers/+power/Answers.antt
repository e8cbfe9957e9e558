use Rattle.std.proofs.Common.{◌≡◌, ◌≤◌, ◌*◌, ◌%◌, ◌^◌, true, sym, ap, ◌∙◌, arith}
use Rattle.std.proofs.Math.Nat.{mod-eq_of_lt, pow-zero}
use Rattle.truncated_sums.proofs.RunningSums.{power_even, power_odd}
use Rattle.probe_replies.proofs.numbers.+power.Goals as goal

pub returns-then-k-eq0-clause-value : goal.returns-then-k-eq0-clause-value
returns-then-k-eq0-clause-value g t c =
    let ring = c.args.ring.now in
    let m = g.R.Ring.modulus ring in
    let a = g.R.Ring.value ring c.args.a in
    let large : 3 ≤ m = g.met.R.Ring.modulus_from ring in
    let none : 0 ≡ c.args.k = omega arith in
    ap (g.R.Ring.value ring) c.one.ensures ∙ g.met.R.Ring.value_one ring ∙ sym (mod-eq_of_lt (omega arith))
    ∙ ap (λ x. x % m) (sym (pow-zero a) ∙ ap (λ k. a ^ k) none)

pub returns-then-k-eq0-2-clause-value : goal.returns-then-k-eq0-2-clause-value
returns-then-k-eq0-2-clause-value g t c =
    let ring = c.args.ring.now in
    let half = c.power-half.result in
    let has = c.power-half.ensures.has in
    ap (g.R.Ring.value ring) c.mul-square.ensures ∙ g.met.R.Ring.value_mul ring half half has has
    ∙ power_even (g.R.Ring.modulus ring) (g.R.Ring.value ring c.args.a) (g.R.Ring.value ring half) c.args.k (omega arith) c.power-half.ensures.value

pub returns-else-k-eq0-2-clause-value : goal.returns-else-k-eq0-2-clause-value
returns-else-k-eq0-2-clause-value g t c =
    let ring = c.args.ring.now in
    let m = g.R.Ring.modulus ring in
    let half = c.power-half.result in
    let has = c.power-half.ensures.has in
    let square = c.mul-square.result in
    let is : g.R.Ring.value ring square ≡ g.R.Ring.value ring half * g.R.Ring.value ring half % m =
    ap (g.R.Ring.value ring) c.mul-square.ensures ∙ g.met.R.Ring.value_mul ring half half has has in
    let has_square : g.R.Ring.has ring square ≡ true = ap (g.R.Ring.has ring) c.mul-square.ensures ∙ g.met.R.Ring.has_mul ring half half has has in
    ap (g.R.Ring.value ring) c.mul.ensures ∙ g.met.R.Ring.value_mul ring square c.args.a has_square c.requires
    ∙ power_odd m (g.R.Ring.value ring c.args.a) (g.R.Ring.value ring half) (g.R.Ring.value ring square) c.args.k (omega arith) c.power-half.ensures.value is
