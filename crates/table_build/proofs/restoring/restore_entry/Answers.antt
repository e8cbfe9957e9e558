use Rattle.std.proofs.Common.{◌≡◌, ◌⊎◌, ◌+◌, length, true, false, refl, ◌++◌, ◌∷◌, [], suc, Err, ap, sym, subst, ◌∙◌}
use Rattle.std.specs.Prelude.{◌↔◌, IsTrue, All}
use Rattle.zeta_model.specs.Inverses.{HasInverse}
use Rattle.echelon.specs.Offers.{IsNotForward}
use Rattle.file_model.specs.Pages.{pairs_of}
use Rattle.sparse_rows.specs.Entries.{IsBelow, AllIn}
use Rattle.page_rows.specs.Written.{written, AreResidues}
use Rattle.page_rows.proofs.PagePairs.{row-residues, combination-residues, keys-below}
use Rattle.page_rows.proofs.Writing.{bound-written}
use Rattle.table_build.specs.Inner.{AreRows, AreRowsOf, Stands}
use Rattle.table_build.proofs.OfferedBlocks.{rows_more}
use Rattle.table_build.proofs.Restorings.{others_of, suits_of, forward_of, one_more_row}
use Rattle.table_build.proofs.restoring.restore_entry.Goals as goal

pub has_own-requires : goal.has_own-requires
has_own-requires g c =
    let e = c.args.entry.now in
    let m = g.R.Ring.modulus c.args.offering.now.table.ring in
    record {
      residues = subst (λ ring. AreResidues (λ k. k) (g.R.Ring.modulus ring) e.combination) (sym c.ring-ring.ensures)
          (combination-residues (e.number + 1) m e.combination c.requires.combination_data c.requires.combination);
    }

pub row_of_data-requires : goal.row_of_data-requires
row_of_data-requires g c =
    let e = c.args.entry.now in
    let table = c.args.offering.now.table in
    record {
      residues = subst (λ ring. AreResidues (λ k. k) (g.R.Ring.modulus ring) e.row) (sym c.ring-ring.ensures)
          (row-residues _ (g.R.Ring.modulus table.ring) e.row c.requires.row_data c.requires.row);
    }

pub restore-requires-clause-below : goal.restore-requires-clause-below
restore-requires-clause-below g c =
    let e = c.args.entry.now in
    let table = c.args.offering.now.table in
    let has = g.R.Ring.has table.ring in
    let value = g.R.Ring.value table.ring in
    let row = c.in_ok-row.row in
    let is = subst (λ ring. written (g.R.Ring.value ring) row ≡ e.row) c.ring-ring.ensures c.in_ok-row.ensures.written in
    let high = length table.columns.list in
    subst (λ n. IsBelow (λ k. k) n row) (sym c.requires.can.columns)
    ((bound-written (λ k. k) g.R.Ring.zero has value row high).0
    (subst (IsBelow (λ k. k) high) (sym is) (keys-below high (g.R.Ring.modulus table.ring) e.row c.requires.row)))

pub returns-then-not-has_others-clause-suits : goal.returns-then-not-has_others-clause-suits
returns-then-not-has_others-clause-suits g c = λ earlier are.
    let e = c.args.entry.now in
    let ring = c.args.offering.now.table.ring in
    let m = g.R.Ring.modulus ring in
    let kept = c.args.kept.now in
    let others = subst (λ ns. IsTrue c.has_others.result ↔ All (λ x. (x.0 ≡ e.number) ⊎ Stands ns x.0) e.combination) c.deref.ensures.value
    c.has_others.ensures in (
      (λ bad. absurd (let no : false ≡ true = bad in cc)),
      λ suits.
          let all = others_of g.R.Ring.zero (g.R.Ring.has ring) (g.R.Ring.value ring) earlier kept.numbers.items kept.rows.items are m e
          c.requires.row_data c.requires.combination_data _ (e.number + 1) c.requires.row c.requires.combination suits in
          let no : c.has_others.result ≡ true = others.1 all in cc,
    )

pub returns-then-not-branch-clause-suits : goal.returns-then-not-branch-clause-suits
returns-then-not-branch-clause-suits g c = λ earlier are.
    let e = c.args.entry.now in
    let own = subst (λ ring. IsTrue c.in_ok-has_own.field-0 ↔ HasInverse (g.R.Ring.modulus ring) (pairs_of e.combination e.number)) c.ring-ring.ensures
    c.in_ok-has_own.ensures in
    ((λ bad. absurd (let no : false ≡ true = bad in cc)), λ suits. let no : c.in_ok-has_own.field-0 ≡ true = own.1 suits.own in cc)

pub returns-in-Err-NotForward-clause-suits : goal.returns-in-Err-NotForward-clause-suits
returns-in-Err-NotForward-clause-suits g c = λ earlier are.
    let e = c.args.entry.now in
    let ring = c.args.offering.now.table.ring in
    let kept = c.args.kept.now in
    let can = c.requires.can in
    let row = c.in_ok-row.row in
    let echelon = c.args.offering.now.echelon in
    let is = subst (λ r. written (g.R.Ring.value r) row ≡ e.row) c.ring-ring.ensures c.in_ok-row.ensures.written in
    let refused : IsNotForward (g.R.Ring.modulus ring) (g.R.Ring.value ring) echelon.above kept.rows.items e.number row =
    subst (λ rs. IsNotForward (g.R.Ring.modulus ring) (g.R.Ring.value ring) echelon.above rs e.number row) (sym c.requires.same_rows)
    (subst (λ r. IsNotForward (g.R.Ring.modulus r) (g.R.Ring.value r) echelon.above echelon.rows e.number row) can.ring
    (c.restore.ensures.not_forward.0 (c.in-Err-NotForward.is ∙ ap Err c.in-Err-NotForward.field-0-is))) in (
      (λ bad. absurd (let no : false ≡ true = bad in cc)),
      λ suits.
          absurd (forward_of g.R.Ring.zero (g.R.Ring.has ring) (g.R.Ring.value ring) earlier kept.numbers.items kept.rows.items are (g.R.Ring.modulus ring) e
          c.requires.row_data c.requires.combination_data _ (e.number + 1) c.requires.row c.requires.combination row is echelon.above can.above suits refused),
    )

pub returns-clause-rows : goal.returns-clause-rows
returns-clause-rows g c = λ yes.
    let e = c.args.entry.now in
    let ring = c.args.offering.now.table.ring in
    let has = g.R.Ring.has ring in
    let kept = c.args.kept.now in
    let row = c.in_ok-row.row in
    let pushed = c.in_ok-push.ensures in
    let in_ring = subst (λ r. AllIn (g.R.Ring.has r) row) c.ring-ring.ensures c.in_ok-row.ensures.in_ring in
    subst (λ ns. AreRows has (suc e.number) ns c.push.new.self.rows.items) (sym pushed.0)
    (subst (AreRows has (suc e.number) (kept.numbers.items ++ e.number ∷ [])) (sym pushed.1)
    (rows_more has e.number kept.numbers.items kept.rows.items row c.requires.rows in_ring))

pub returns-clause-taken : goal.returns-clause-taken
returns-clause-taken g c = λ earlier are yes.
    let e = c.args.entry.now in
    let ring = c.args.offering.now.table.ring in
    let value = g.R.Ring.value ring in
    let kept = c.args.kept.now in
    let row = c.in_ok-row.row in
    let pushed = c.in_ok-push.ensures in
    let is = subst (λ r. written (g.R.Ring.value r) row ≡ e.row) c.ring-ring.ensures c.in_ok-row.ensures.written in
    subst (λ ns. AreRowsOf value (earlier ++ e ∷ []) ns c.push.new.self.rows.items) (sym pushed.0)
    (subst (AreRowsOf value (earlier ++ e ∷ []) (kept.numbers.items ++ e.number ∷ [])) (sym pushed.1)
    (one_more_row g.R.Ring.zero (g.R.Ring.has ring) value earlier kept.numbers.items kept.rows.items are (g.R.Ring.modulus ring) e
    c.requires.row_data c.requires.combination_data _ (e.number + 1) c.requires.row c.requires.combination row is))

pub returns-clause-suits : goal.returns-clause-suits
returns-clause-suits g c = λ earlier are.
    let e = c.args.entry.now in
    let ring = c.args.offering.now.table.ring in
    let kept = c.args.kept.now in
    let can = c.requires.can in
    let row = c.in_ok-row.row in
    let echelon = c.args.offering.now.echelon in
    let is = subst (λ r. written (g.R.Ring.value r) row ≡ e.row) c.ring-ring.ensures c.in_ok-row.ensures.written in
    let others = subst (λ ns. IsTrue c.has_others.result ↔ All (λ x. (x.0 ≡ e.number) ⊎ Stands ns x.0) e.combination) c.deref.ensures.value
    c.has_others.ensures in
    let own = subst (λ r. IsTrue c.in_ok-has_own.field-0 ↔ HasInverse (g.R.Ring.modulus r) (pairs_of e.combination e.number)) c.ring-ring.ensures
    c.in_ok-has_own.ensures in
    let forward : ¬ (IsNotForward (g.R.Ring.modulus ring) (g.R.Ring.value ring) echelon.above kept.rows.items e.number row) = λ not.
    let here = subst (λ rs. IsNotForward (g.R.Ring.modulus ring) (g.R.Ring.value ring) echelon.above rs e.number row) c.requires.same_rows not in
    let bad = c.restore.ensures.not_forward.1 (subst (λ r. IsNotForward (g.R.Ring.modulus r) (g.R.Ring.value r) echelon.above echelon.rows e.number row)
    (sym can.ring) here) in
    let done = c.in-Ok.is in cc in (
      (λ yes. suits_of g.R.Ring.zero (g.R.Ring.has ring) (g.R.Ring.value ring) earlier kept.numbers.items kept.rows.items are (g.R.Ring.modulus ring) e
          c.requires.row_data c.requires.combination_data _ (e.number + 1) c.requires.row c.requires.combination row is echelon.above forward
          (own.0 c.if-not-branch.false) (others.0 c.if-not-has_others.false)),
      λ suits. refl,
    )
