use Rattle.std.proofs.Common.{◌++◌, ◌+◌, List, length, refl, ap, sym, subst, ◌∙◌}
use Rattle.std.specs.Prelude.{◌↔◌, IsTrue, IfOk}
use Rattle.std.specs.List.{AllByRecursion}
use Rattle.page_codec.specs.declared.parts.ForwardEntry.{ForwardEntry}
use Rattle.page_codec.specs.Places.{AreBelow}
use Rattle.std.proofs.lemmas.List.{append-nil}
use Rattle.file_model.specs.Resuming.{entries_of_page, AllSuit}
use Rattle.table_build.specs.Inner.{AreRowsOf}
use Rattle.table_build.proofs.Restorings.{no_entries}
use Rattle.table_build.proofs.restoring.restore_page.Goals as goal

pub returns-in_default : goal.returns-in_default
returns-in_default g c =
    let offering = c.args.offering.now in
    let kept = c.args.kept.now in
    let none = no_entries c.args.page.now c.in_default.not-Forward in
    let value = g.R.Ring.value offering.table.ring in
    let m = g.R.Ring.modulus offering.table.ring in
    let same = λ (earlier : List ForwardEntry). sym (append-nil earlier) ∙ ap (λ es. earlier ++ es) (sym none) in
    record {
      can = λ yes p is. absurd (c.in_default.not-Forward p is);
      plain = λ not. (refl, refl, refl);
      table = (refl, refl);
      numbers = λ yes. c.requires.numbers;
      same_rows = λ yes. c.requires.same_rows;
      taken = λ earlier h yes. subst (λ es. AreRowsOf value es kept.numbers.items kept.rows.items) (same earlier) h;
      suits = λ earlier h all. ((λ yes. subst (AllSuit m) (same earlier) all), λ whole. refl);
    }

pub restore_entries-requires-clause-in_table : goal.restore_entries-requires-clause-in_table
restore_entries-requires-clause-in_table g c =
    let table = c.args.offering.now.table in
    let Fits = AllByRecursion (λ (e : ForwardEntry). AreBelow (length table.columns.list) (g.R.Ring.modulus table.ring) e.row
    × AreBelow (e.number + 1) (g.R.Ring.modulus table.ring) e.combination) in
    subst Fits (ap entries_of_page c.in-Forward.is ∙ sym c.as_slice.ensures) c.requires.in_table

pub returns-clause-suits : goal.returns-clause-suits
returns-clause-suits g c = λ earlier are all.
    let m = g.R.Ring.modulus c.args.offering.now.table.ring in
    subst (λ es. IfOk c.restore_entries.result (λ suits. IsTrue suits ↔ AllSuit m (earlier ++ es))) (c.as_slice.ensures ∙ sym (ap entries_of_page c.in-Forward.is))
    (c.restore_entries.ensures.suits earlier are all)
