use Rattle.std.proofs.Common.{◌≡◌, ◌+◌, ◌*◌, [], sym, ◌∙◌, ap, subst, arith}
use Rattle.std.proofs.lemmas.Option.{get_or_from_slice_get}
use Rattle.zeta_model.specs.Modular.{Same}
use Rattle.lyndon_words.specs.Lyndon.{joined}
use Rattle.table_model.specs.MonomialWords.{column_at}
use Rattle.lyndon_polys.specs.Inner.{leading, earlier_fault}
use Rattle.lyndon_polys.proofs.EarliestFaults.{Found, found_unit, found_fault, found_some, found_no}
use Rattle.lyndon_polys.proofs.units.first_fault.Goals as goal
use Rattle.lyndon_polys.proofs.units.first_fault.Goals.{in-Ok, in-Err}

pub loop-i-preserved : goal.loop-i-preserved
loop-i-preserved g c =
    let ring = c.args.ring.now in
    let m = g.R.Ring.modulus ring in
    let columns = c.args.columns.now in
    let i = c.loop-i.i in
    let p = c.at-column.result.now in
    let at : column_at columns.list i ≡ p = get_or_from_slice_get columns.list i p [] c.at-column.ensures.at in
    elim c.match-leading_inverse.branch [
      | in-Ok w ↦ subst (Found m columns (i + 1)) (sym w.first-is)
          (found_unit m columns i c.loop-i.first (
            g.R.Ring.value ring w.in-Ok.field-0,
            subst (λ q. Same m (leading q * g.R.Ring.value ring w.in-Ok.field-0) 1)
                (sym at) w.in-Ok.ensures.inverse,
          ) c.loop-i.invariant)
      | in-Err w ↦ subst (Found m columns (i + 1))
          (sym (w.first-is ∙ w.earlier-first.ensures ∙ ap (earlier_fault c.loop-i.first w.in-Err.residue) (w.word.ensures.joined ∙ ap joined (sym at))))
          (found_fault m columns i w.in-Err.residue c.loop-i.first
          (subst (λ q. Same m (leading q) w.in-Err.residue)
          (sym at) w.in-Err.ensures.residue) w.in-Err.ensures.small w.in-Err.ensures.none c.loop-i.invariant)
    ]

pub returns-clause-some : goal.returns-clause-some
returns-clause-some g c =
    found_some (g.R.Ring.modulus c.args.ring.now) c.args.columns.now c.requires c.loop-i.first c.loop-i.i
    (omega (arith, c.loop-i.auto.i-end, c.loop-i-test.false, c.len-i-end.ensures.length)) c.loop-i.invariant

pub returns-clause-none : goal.returns-clause-none
returns-clause-none g c =
    found_no (g.R.Ring.modulus c.args.ring.now) c.args.columns.now c.requires c.loop-i.first c.loop-i.i
    (omega (arith, c.loop-i.auto.i-end, c.loop-i-test.false, c.len-i-end.ensures.length)) c.loop-i.invariant
