use Rattle.std.proofs.Common.{◌≡◌, ◌≢◌, ℕ, ◌+◌, ◌-◌, ◌*◌, ◌%◌, ◌<◌, ◌≤◌, ◌++◌, [], ◌∷◌, true, cond, eqb, sym, ◌∙◌, ap, arith, mod-eq_of_lt}
use Rattle.std.proofs.lemmas.Bool.{ne_eqb}
use Rattle.zeta_model.specs.Modular.{Same}
use Rattle.zeta_model.proofs.ModularLemmas.{same-mod}
use Rattle.echelon.specs.Lists.{entries_of}
use Rattle.echelon.specs.Inner.{unit_row}
use Rattle.echelon.proofs.RowLemmas.{entries_of_behind, IsBelow_by_entries}
use Rattle.echelon.proofs.Leads.{undone_by_opposite}
use Rattle.echelon.proofs.FoundRows.{nonzero}
use Rattle.echelon.proofs.LessStanding.{unit_pair, less_lies}
use Rattle.echelon.proofs.reducing.less_standing.Goals as goal

pub returns-clause-below : goal.returns-clause-below
returns-clause-below g c =
    let ring = c.args.ring.now in
    let m = g.R.Ring.modulus ring in
    let value = g.R.Ring.value ring in
    let s = value c.neg.result in
    let unit : (q : ℕ) → entries_of value c.push.new.self q ≡ unit_row c.args.column q =
    unit_pair value c.args.column c.one.result c.push.new.self (c.in_ok-push.ensures.ok
    ∙ ap (λ r. r ++ (c.args.column, c.one.result) ∷ []) c.zero-row.ensures) (ap value c.one.ensures ∙ g.met.R.Ring.value_one ring) in
    IsBelow_by_entries (g.R.Ring.has ring) value g.R.Ring.zero
    (nonzero m (g.R.Ring.has ring) value g.R.Ring.zero (g.met.R.Ring.has_zero ring) (g.met.R.Ring.value_zero ring) (g.met.R.Ring.value_injective ring)
    (g.met.R.Ring.value_below ring) (g.met.R.Ring.modulus_from ring))
    0 c.args.columns c.add_scaled.new.self c.add_scaled.ensures.row c.add_scaled.ensures.in_ring
    (λ q l.
    let other : c.args.column ≢ q = omega (arith, c.requires.inside) in
    let none : unit_row c.args.column q ≡ 0 = ap (λ b. cond b 1 0) (ne_eqb c.args.column q other) in
    c.in_ok-add_scaled.ensures.ok q
    ∙ ap (λ x. x % m) ((λ i. (unit q ∙ none) i + s * entries_of_behind value c.args.columns q c.args.standing.now c.requires.below l i)
    ∙ (let e : 0 + s * 0 ≡ 0 = omega arith in e))
    ∙ mod-eq_of_lt (omega (arith, g.met.R.Ring.modulus_from ring)))

pub returns-clause-span : goal.returns-clause-span
returns-clause-span g c = λ rows rest.
    let ring = c.args.ring.now in
    let m = g.R.Ring.modulus ring in
    let value = g.R.Ring.value ring in
    let s = value c.neg.result in
    let unit : (q : ℕ) → entries_of value c.push.new.self q ≡ unit_row c.args.column q =
    unit_pair value c.args.column c.one.result c.push.new.self (c.in_ok-push.ensures.ok
    ∙ ap (λ r. r ++ (c.args.column, c.one.result) ∷ []) c.zero-row.ensures) (ap value c.one.ensures ∙ g.met.R.Ring.value_one ring) in
    let x = entries_of value c.args.standing.now in
    let one : value c.one-2.result ≡ 1 = ap value c.one-2.ensures ∙ g.met.R.Ring.value_one ring in
    let whole : 1 % m ≡ 1 = mod-eq_of_lt (omega (arith, g.met.R.Ring.modulus_from ring)) in
    let has : g.R.Ring.has ring c.one-2.result ≡ true = ap (g.R.Ring.has ring) c.one-2.ensures ∙ g.met.R.Ring.has_one ring in
    let opposite : s ≡ (m - 1 % m) % m =
    ap value c.neg.ensures ∙ g.met.R.Ring.value_neg ring c.one-2.result has ∙ ap (λ x. (m - x) % m) (one ∙ sym whole) in
    let minus : Same m (s + 1) 0 = ap (λ x. x % m) (let e : s + 1 ≡ 1 + s = omega arith in e)
    ∙ undone_by_opposite m 1 s (omega (arith, g.met.R.Ring.modulus_from ring)) opposite in
    less_lies m value rows c.args.column s x (entries_of value c.add_scaled.new.self) rest minus
    (λ q. ap (λ x. x % m) (c.in_ok-add_scaled.ensures.ok q) ∙ same-mod m (entries_of value c.push.new.self q + s * x q)
    ∙ ap (λ u. (u + s * x q) % m) (unit q))
