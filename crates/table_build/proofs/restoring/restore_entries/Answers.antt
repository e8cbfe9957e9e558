use Rattle.std.proofs.Common.{◌≡◌, ◌++◌, ◌∷◌, ◌+◌, [], suc, List, length, true, false, refl, subst, ◌∙◌, rules, arith}
use Rattle.std.proofs.lemmas.List.{nil_from_length}
use Rattle.page_codec.specs.declared.parts.ForwardEntry.{ForwardEntry}
use Rattle.file_model.specs.Resuming.{Suits}
use Rattle.table_build.specs.Inner.{AreRows, AreRowsOf}
use Rattle.table_build.proofs.Restorings.{restoring_starts, restored_suit, none_suits, restores_on}
use Rattle.table_build.proofs.restoring.restore_entries.Goals as goal

pub loop-entry-init : goal.loop-entry-init
loop-entry-init g c =
    let offering = c.args.offering.now in
    let kept = c.args.kept.now in
    let ring = offering.table.ring in
    let first = c.args.first in
    record {
      going = restoring_starts (g.R.Ring.has ring) (g.R.Ring.value ring) (g.R.Ring.modulus ring) (length offering.table.columns.list) (first + 64)
          c.args.entries.now kept.numbers.items kept.rows.items offering.table offering.names.items offering.kept.ring offering.echelon first (omega arith)
          c.requires.entries c.requires.in_table c.requires.can c.requires.rows;
      table = (refl, refl);
      numbers = c.requires.numbers;
      same_rows = c.requires.same_rows;
    }

pub loop-entry-preserved : goal.loop-entry-preserved
loop-entry-preserved g c =
    let l = c.loop-entry in
    let old = c.args.offering.now in
    let was = c.args.kept.now in
    let ring = old.table.ring in
    let value = g.R.Ring.value ring in
    let entry = c.in-Some.entry.now in
    let new = c.restore_entry.new.offering in
    let kept = c.restore_entry.new.kept in
    let begins : l.rest.now ≡ entry ∷ c.in-Some.behind.now = search rules in
    let same = l.invariant.table.0 in
    let yes = c.if-not-branch.false in
    let done = c.in_ok-restore_entry.ensures in
    record {
      going = restores_on (g.R.Ring.has ring) value (g.R.Ring.modulus ring) (length old.table.columns.list) (c.args.first + 64) c.args.entries.now
          was.numbers.items was.rows.items l.offering.table l.offering.names.items l.offering.kept.ring l.offering.echelon l.kept.numbers.items
          l.kept.rows.items l.rest.now l.invariant.going entry c.in-Some.behind.now begins new.table new.names.items new.kept.ring new.echelon
          kept.numbers.items kept.rows.items (done.can yes)
          (subst (λ t. AreRows (g.R.Ring.has t.ring) (suc entry.number) kept.numbers.items kept.rows.items) same (done.rows yes))
          (subst (λ t. (earlier : List ForwardEntry) → AreRowsOf (g.R.Ring.value t.ring) earlier l.kept.numbers.items l.kept.rows.items
          → AreRowsOf (g.R.Ring.value t.ring) (earlier ++ entry ∷ []) kept.numbers.items kept.rows.items) same (λ earlier h. done.taken earlier h yes))
          (subst (λ t. (earlier : List ForwardEntry) → AreRowsOf (g.R.Ring.value t.ring) earlier l.kept.numbers.items l.kept.rows.items
          → Suits (g.R.Ring.modulus t.ring) earlier entry) same (λ earlier h. (done.suits earlier h).0 yes));
      table = (c.restore_entry.ensures.table.0 ∙ same, c.restore_entry.ensures.table.1 ∙ l.invariant.table.1);
      numbers = done.numbers yes;
      same_rows = done.same_rows yes;
    }

pub returns-then-not-branch-clause-suits : goal.returns-then-not-branch-clause-suits
returns-then-not-branch-clause-suits g c = λ earlier are all.
    let l = c.loop-entry in
    let old = c.args.offering.now in
    let was = c.args.kept.now in
    let ring = old.table.ring in
    let entry = c.in-Some.entry.now in
    let begins : l.rest.now ≡ entry ∷ c.in-Some.behind.now = search rules in
    let done = c.in_ok-restore_entry.ensures in
    let none = subst (λ t. (front : List ForwardEntry) → AreRowsOf (g.R.Ring.value t.ring) front l.kept.numbers.items l.kept.rows.items
    → ¬ (Suits (g.R.Ring.modulus t.ring) front entry)) l.invariant.table.0
    (λ front h suits. let no : c.in_ok-restore_entry.field-0 ≡ true = (done.suits front h).1 suits in
    let not : c.in_ok-restore_entry.field-0 ≡ false = c.if-not-branch.true in cc) in (
      (λ bad. absurd (let no : false ≡ true = bad in cc)),
      λ whole. absurd
          (none_suits (g.R.Ring.has ring) (g.R.Ring.value ring) (g.R.Ring.modulus ring) (length old.table.columns.list) (c.args.first + 64) c.args.entries.now
          was.numbers.items was.rows.items l.offering.table l.offering.names.items l.offering.kept.ring l.offering.echelon l.kept.numbers.items
          l.kept.rows.items l.rest.now l.invariant.going entry c.in-Some.behind.now begins none earlier are whole),
    )

pub returns-clause-suits : goal.returns-clause-suits
returns-clause-suits g c = λ earlier are all.
    let l = c.loop-entry in
    let old = c.args.offering.now in
    let was = c.args.kept.now in
    let ring = old.table.ring in
    let ended : l.rest.now ≡ [] = nil_from_length l.rest.now c.in_default.ensures.cases in (
      (λ yes. restored_suit (g.R.Ring.has ring) (g.R.Ring.value ring) (g.R.Ring.modulus ring) (length old.table.columns.list) (c.args.first + 64)
          c.args.entries.now was.numbers.items was.rows.items l.offering.table l.offering.names.items l.offering.kept.ring l.offering.echelon
          l.kept.numbers.items l.kept.rows.items l.rest.now l.invariant.going ended earlier are all),
      λ suits. refl,
    )
