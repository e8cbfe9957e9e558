use Rattle.std.proofs.Common.{◌≡◌, ℕ, ◌+◌, ◌-◌, ◌%◌, ◌<◌, [], ◌++◌, List, length, get_or, take, drop, sym, ◌∙◌, ap, subst, inl, inr, arith}
use Rattle.std.specs.Prelude.{IfSome}
use Rattle.std.proofs.lemmas.Bool.{cases_lt}
use Rattle.outside_io.specs.Causes.{Rose}
use Rattle.outside_io.specs.Traces.{Trace}
use Rattle.zeta_model.proofs.ModularLemmas.{same-add_left}
use Rattle.linear_model.specs.Rows.{combination, SameRow}
use Rattle.page_codec.specs.declared.page.Page.{Page}
use Rattle.page_file.specs.Files.{IsSealed}
use Rattle.echelon.specs.Lists.{row_at}
use Rattle.echelon.specs.Offers.{used_at}
use Rattle.table_build.specs.Inner.{AreTotals, IsRun, AllKept, sealed_combination}
use Rattle.table_build.proofs.GrownLists.{written_back}
use Rattle.table_build.proofs.AddedInTurn.{added_behind}
use Rattle.table_build.proofs.AddedSums.{none_plus, plus_none}
use Rattle.table_build.proofs.CauseSteps.{cause_more}
use Rattle.table_build.proofs.SealSteps.{told_one, told_both}
use Rattle.std.proofs.lemmas.Result.{err_from_is_err_and}
use Rattle.row_sums.specs.Totals.{total_at}
use Rattle.table_build.proofs.rereading.with_sealed.Goals as goal

pub returns-in_err-add_block-clause-fault : goal.returns-in_err-add_block-clause-fault
returns-in_err-add_block-clause-fault g c =
    let ring = c.args.ring.now in
    let m = g.R.Ring.modulus ring in
    let value = g.R.Ring.value ring in
    let numbers = c.args.kept.now.numbers.items in
    let rows = c.args.kept.now.rows.items in
    let told = g.D.Disk.trace c.args.disk.now in
    let some : c.loop-block.block < c.args.blocks = omega (arith, c.loop-block-test.true) in
    let Others : Trace → Type 0 = λ t. (pages : List Page) → IsSealed pages t.now.contents → (blocks : ℕ) → c.loop-block.block < blocks
    → ¬ (AllKept m g.R.Ring.zero value blocks numbers rows pages) in
    let Other : Trace → Type 0 = λ t. (pages : List Page) → IsSealed pages t.now.contents
    → ¬ (AllKept m g.R.Ring.zero value c.args.blocks numbers rows pages) in
    let p = err_from_is_err_and c.from_residual-in_err-add_block.result c.from_residual-in_err-add_block.ensures.1 in
    let cause = cause_more (Rose (g.D.Disk.faults c.loop-block.disk) (g.D.Disk.faults c.add_block.new.disk)) (IfSome (g.D.Disk.trace c.loop-block.disk) Others)
    (Rose (g.D.Disk.faults c.args.disk.now) (g.D.Disk.faults c.add_block.new.disk)) (IfSome told Other) (λ _ _. ⊥) (λ _ _. ⊥)
    (λ r. omega (arith, r, c.loop-block.invariant.faults))
    (λ others. told_one Others Other told (λ t h pages sealed. h pages sealed c.args.blocks some)
    (subst (λ o. IfSome o Others) c.loop-block.invariant.disk others))
    (λ _ _ never. never) c.in_err-add_block.field-0.0 c.in_err-add_block.ensures.fault in
    rw p.1 (rw p.2 cause)

pub loop-block-preserved : goal.loop-block-preserved
loop-block-preserved g c =
    let ring = c.args.ring.now in
    let m = g.R.Ring.modulus ring in
    let value = g.R.Ring.value ring in
    let total = g.R.Ring.total ring in
    let numbers = c.args.kept.now.numbers.items in
    let uses = c.args.uses.now in
    let is_sum = g.R.Ring.is_sum ring in
    let told = g.D.Disk.trace c.args.disk.now in
    let before = c.loop-block.sums.items in
    let after = c.add_block.new.sums in
    let block = c.loop-block.block in
    let done = c.loop-block.done in
    let end = c.end_of_block-end.result in
    let before_is : c.deref_mut.result.now ≡ before = c.deref_mut.ensures.value in
    let run : IsRun numbers block done end = subst (λ ns. IsRun ns block done end) c.deref-in-loop-block.ensures.value c.end_of_block-end.ensures in
    let First : Trace → Type 0 = λ t. (pages : List Page) → IsSealed pages t.now.contents → (j : ℕ) → j < length uses
    → SameRow m (total_at total (get_or before j []))
    (combination done (λ i. sealed_combination pages (get_or numbers i 0)) (used_at value numbers (get_or uses j []))) in
    let Then : Trace → Type 0 = λ t. (pages : List Page) → IsSealed pages t.now.contents → (j : ℕ) → j < length uses
    → SameRow m (total_at total (get_or after j []))
    (λ q. total_at total (get_or c.deref_mut.result.now j []) q + combination (end - done) (λ i. sealed_combination pages (get_or numbers (done + i) 0))
    (λ i. used_at value numbers (get_or uses j []) (done + i)) q) in
    let Both : Trace → Type 0 = λ t. (pages : List Page) → IsSealed pages t.now.contents → (j : ℕ) → j < length uses
    → SameRow m (total_at total (get_or after j []))
    (combination end (λ i. sealed_combination pages (get_or numbers i 0)) (used_at value numbers (get_or uses j []))) in
    let has_totals : AreTotals is_sum numbers (length uses) after = c.add_block.ensures.totals in
    let count : length after ≡ length before = omega (arith, has_totals.count_is, c.loop-block.invariant.totals.count_is) in
    let whole : c.loop-block.sums.len ≡ length before = omega (arith, ap length before_is, c.deref_mut.ensures.len) in
    let back : take c.loop-block.sums.len (after ++ drop (length after) before) ≡ after =
    written_back c.loop-block.sums.len after before whole count in
    let then : IfSome told Then = subst (λ o. IfSome o Then) c.loop-block.invariant.disk c.in_ok-add_block.ensures.told in
    record {
      totals = subst (AreTotals is_sum numbers (length uses)) (sym back) has_totals;
      told = subst (λ sums. IfSome told (λ t. (pages : List Page) → IsSealed pages t.now.contents → (j : ℕ) → j < length uses
          → SameRow m (total_at total (get_or sums j []))
          (combination end (λ i. sealed_combination pages (get_or numbers i 0)) (used_at value numbers (get_or uses j []))))) (sym back)
          (told_both First Then Both told
          (λ t first then pages sealed j l q. plus_none m _ _ (added_behind m done end (λ i. sealed_combination pages (get_or numbers i 0))
          (used_at value numbers (get_or uses j [])) (λ _. 0) (total_at total (get_or before j [])) (total_at total (get_or after j [])) run.order
          (none_plus m _ _ (first pages sealed j l))
          (λ q. then pages sealed j l q ∙ ap (λ sums. (total_at total (get_or sums j []) q
          + combination (end - done) (λ i. sealed_combination pages (get_or numbers (done + i) 0)) (λ i. used_at value numbers (get_or uses j []) (done + i)) q) % m)
          before_is)) q) c.loop-block.invariant.told then);
      within = run.within;
      before = λ i l. elim (cases_lt i done) [
        | inl early ↦ omega (arith, run.before i early)
        | inr late ↦ omega (arith, run.inside i late l)
      ];
      behind = λ i l inside. omega (arith, run.behind i l inside);
      same = c.add_block.ensures.same ∙ c.loop-block.invariant.same;
      disk = c.add_block.ensures.disk ∙ c.loop-block.invariant.disk;
      faults = omega (arith, c.add_block.ensures.faults, c.loop-block.invariant.faults);
    }

pub returns-clause-told : goal.returns-clause-told
returns-clause-told g c =
    let ring = c.args.ring.now in
    let m = g.R.Ring.modulus ring in
    let value = g.R.Ring.value ring in
    let total = g.R.Ring.total ring in
    let told = g.D.Disk.trace c.args.disk.now in
    let numbers = c.args.kept.now.numbers.items in
    let uses = c.args.uses.now in
    let starts = c.args.starts.items in
    let sums = c.loop-block.sums.items in
    let made = c.in_ok-all_ended.field-0.items in
    let done = c.loop-block.done in
    let all : done ≡ length numbers = elim (cases_lt done (length numbers)) [
      | inl less ↦ absurd (omega (arith, c.loop-block.invariant.behind done (omega arith) less, c.requires.rows.below done less, c.loop-block-test.false))
      | inr late ↦ omega (arith, late, c.loop-block.invariant.within)
    ] in
    let Sealed : ℕ → Trace → Type 0 = λ n t. (pages : List Page) → IsSealed pages t.now.contents → (j : ℕ) → j < length uses
    → SameRow m (total_at total (get_or sums j [])) (combination n (λ i. sealed_combination pages (get_or numbers i 0)) (used_at value numbers (get_or uses j []))) in
    let End : Trace → Type 0 = λ t. (pages : List Page) → IsSealed pages t.now.contents → (j : ℕ) → j < length starts → SameRow m (row_at value made j)
    (λ q. row_at value starts j q + combination (length numbers) (λ i. sealed_combination pages (get_or numbers i 0)) (used_at value numbers (get_or uses j [])) q) in
    told_one (Sealed done) End told (λ t known pages sealed j l q.
    let as_uses : j < length uses = omega (arith, l, c.requires.sums.uses_count) in
    let made_is : SameRow m (row_at value made j) (λ q. row_at value starts j q + total_at total (get_or sums j []) q) =
    subst (λ ss. SameRow m (row_at value made j) (λ q. row_at value ss j q + total_at total (get_or sums j []) q)) c.deref-2.ensures.value
    (subst (λ ss. SameRow m (row_at value made j) (λ q. row_at value c.deref-2.result.now j q + total_at total (get_or ss j []) q)) c.deref-3.ensures.value
    (c.in_ok-all_ended.ensures.made j (omega (arith, l, ap length c.deref-2.ensures.value)))) in
    made_is q ∙ same-add_left m _ _ (row_at value starts j q) (known pages sealed j as_uses q)
    ∙ ap (λ n. (row_at value starts j q + combination n (λ i. sealed_combination pages (get_or numbers i 0)) (used_at value numbers (get_or uses j [])) q) % m) all)
    c.loop-block.invariant.told
