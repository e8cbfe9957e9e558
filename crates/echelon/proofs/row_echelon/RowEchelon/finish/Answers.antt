use Rattle.std.proofs.Common.{sym, subst, arith}
use Rattle.echelon.specs.States.{IsRowList}
use Rattle.echelon.specs.Finishes.{SameSpanOf, AreUses}
use Rattle.echelon.proofs.Reduced.{same_span, are_uses, is_row_list}
use Rattle.echelon.proofs.row_echelon.RowEchelon.finish.Goals as goal

pub of-requires : goal.of-requires
of-requires g c =
    let s = c.args.self.now in
    let kept = c.reduction.ensures.elimination in
    let list : IsRowList (g.R.Ring.modulus s.ring) (g.R.Ring.has s.ring) (g.R.Ring.value s.ring) g.R.Ring.zero s.columns c.in_ok-made.made.rows.items =
    is_row_list (g.R.Ring.modulus s.ring) (g.R.Ring.has s.ring) (g.R.Ring.value s.ring) g.R.Ring.zero s.columns s.numbers s.rows
    (omega (arith, g.met.R.Ring.modulus_from s.ring)) kept.forward kept.fit c.in_ok-made.made.rows.items c.in_ok-made.made.uses.items
    c.in_ok-made.ensures.made (omega (arith, kept.few)) in
    subst (λ r. IsRowList (g.R.Ring.modulus r) (g.R.Ring.has r) (g.R.Ring.value r) g.R.Ring.zero c.columns.result c.in_ok-made.made.rows.items)
    (sym c.ring.ensures)
    (subst (λ n. IsRowList (g.R.Ring.modulus s.ring) (g.R.Ring.has s.ring) (g.R.Ring.value s.ring) g.R.Ring.zero n c.in_ok-made.made.rows.items)
    (sym c.columns.ensures) list)

pub returns-clause-span : goal.returns-clause-span
returns-clause-span g c =
    let s = c.args.self.now in
    let kept = c.reduction.ensures.elimination in
    subst (λ t. SameSpanOf (g.R.Ring.modulus s.ring) (g.R.Ring.value s.ring) s.rows t.rows) (sym c.of.ensures)
    (same_span (g.R.Ring.modulus s.ring) (g.R.Ring.has s.ring) (g.R.Ring.value s.ring) g.R.Ring.zero s.columns s.numbers s.rows
    (omega (arith, g.met.R.Ring.modulus_from s.ring)) kept.forward kept.fit c.in_ok-made.made.rows.items c.in_ok-made.made.uses.items
    c.in_ok-made.ensures.made)

pub returns-clause-uses : goal.returns-clause-uses
returns-clause-uses g c =
    let s = c.args.self.now in
    let kept = c.reduction.ensures.elimination in
    subst (λ t. AreUses (g.R.Ring.modulus s.ring) (g.R.Ring.has s.ring) (g.R.Ring.value s.ring) s.numbers s.rows t.rows c.in_ok-made.made.uses.items)
    (sym c.of.ensures)
    (are_uses (g.R.Ring.modulus s.ring) (g.R.Ring.has s.ring) (g.R.Ring.value s.ring) g.R.Ring.zero s.columns s.numbers s.rows
    (omega (arith, g.met.R.Ring.modulus_from s.ring)) kept.forward kept.fit c.in_ok-made.made.rows.items c.in_ok-made.made.uses.items
    c.in_ok-made.ensures.made)
