use Rattle.std.proofs.Common.{◌≡◌, ◌+◌, ◌-◌, ◌*◌, ◌%◌, length, ◌∙◌, ap, sym, true, arith, mod-eq_of_lt}
use Rattle.zeta_model.specs.Modular.{Same}
use Rattle.zeta_model.proofs.ModularLemmas.{same-mod}
use Rattle.echelon.specs.Lists.{entries_of}
use Rattle.echelon.proofs.RowLemmas.{entries_of_behind, IsBelow_by_entries}
use Rattle.echelon.proofs.Leads.{undone_by_opposite}
use Rattle.echelon.proofs.FoundRows.{nonzero}
use Rattle.echelon.proofs.Remains.{rest_undone}
use Rattle.echelon.proofs.standing.standing_row.Goals as goal

pub returns-clause-below : goal.returns-clause-below
returns-clause-below g c =
    let ring = c.args.ring.now in
    let m = g.R.Ring.modulus ring in
    let value = g.R.Ring.value ring in
    let s = value c.neg.result in
    IsBelow_by_entries (g.R.Ring.has ring) value g.R.Ring.zero
    (nonzero m (g.R.Ring.has ring) value g.R.Ring.zero (g.met.R.Ring.has_zero ring) (g.met.R.Ring.value_zero ring) (g.met.R.Ring.value_injective ring)
    (g.met.R.Ring.value_below ring) (g.met.R.Ring.modulus_from ring))
    0 (length c.args.standing.now) c.scale.new.self c.scale.ensures.row c.scale.ensures.in_ring
    (λ q l.
    c.scale.ensures.entries q
    ∙ ap (λ x. s * x % m) (entries_of_behind value (length c.args.standing.now) q c.in_ok-left.left c.in_ok-left.ensures.below l)
    ∙ ap (λ x. x % m) (let e : s * 0 ≡ 0 = omega arith in e)
    ∙ mod-eq_of_lt (omega (arith, g.met.R.Ring.modulus_from ring)))

pub returns-clause-rest : goal.returns-clause-rest
returns-clause-rest g c = λ rows stand.
    let ring = c.args.ring.now in
    let m = g.R.Ring.modulus ring in
    let value = g.R.Ring.value ring in
    let s = value c.neg.result in
    let one : value c.one.result ≡ 1 = ap value c.one.ensures ∙ g.met.R.Ring.value_one ring in
    let rest : 1 % m ≡ 1 = mod-eq_of_lt (omega (arith, g.met.R.Ring.modulus_from ring)) in
    let has : g.R.Ring.has ring c.one.result ≡ true = ap (g.R.Ring.has ring) c.one.ensures ∙ g.met.R.Ring.has_one ring in
    let opposite : s ≡ (m - 1 % m) % m = ap value c.neg.ensures ∙ g.met.R.Ring.value_neg ring c.one.result has ∙ ap (λ x. (m - x) % m) (one ∙ sym rest) in
    let minus : Same m (s + 1) 0 = ap (λ x. x % m) (let e : s + 1 ≡ 1 + s = omega arith in e)
    ∙ undone_by_opposite m 1 s (omega (arith, g.met.R.Ring.modulus_from ring)) opposite in
    rest_undone m value rows (entries_of value c.args.behind.now) (entries_of value c.in_ok-left.left) (entries_of value c.scale.new.self) s
    (c.in_ok-left.ensures.rest rows stand) minus
    (λ q. ap (λ x. x % m) (c.scale.ensures.entries q) ∙ same-mod m (s * entries_of value c.in_ok-left.left q))
