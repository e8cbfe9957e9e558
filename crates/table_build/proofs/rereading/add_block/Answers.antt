use Rattle.std.proofs.Common.{◌≡◌, ℕ, ◌+◌, ◌-◌, ◌<◌, ◌≤◌, [], Some, List, length, get_or, slice_get, sym, ◌∙◌, ap, subst, arith}
use Rattle.std.specs.Prelude.{IfSome}
use Rattle.outside_io.specs.Causes.{Rose}
use Rattle.linear_model.specs.Rows.{combination, SameRow}
use Rattle.page_codec.specs.declared.page.Page.{Page}
use Rattle.page_file.specs.Files.{IsSealed}
use Rattle.echelon.specs.Lists.{row_at}
use Rattle.echelon.specs.Offers.{used_at}
use Rattle.file_model.specs.Resuming.{combination_in}
use Rattle.table_build.specs.Inner.{IsKeptPage, AllKept, between, entries_on, sealed_combination}
use Rattle.table_build.proofs.CauseSteps.{cause_more}
use Rattle.table_build.proofs.SealSteps.{told_one}
use Rattle.sparse_rows.specs.Entries.{IsBelow}
use Rattle.sparse_rows.proofs.EntryLemmas.{below_more}
use Rattle.row_sums.specs.Totals.{total_at}
use Rattle.table_build.proofs.KeptBlocks.{between_at, between_length}
use Rattle.table_build.proofs.RereadPages.{told_not_all, block_added}
use Rattle.std.proofs.lemmas.Result.{err_from_is_err_and}
use Rattle.table_build.proofs.rereading.add_block.Goals as goal

pub returns-in_err-combinations-clause-fault : goal.returns-in_err-combinations-clause-fault
returns-in_err-combinations-clause-fault g c =
    let ring = c.args.ring.now in
    let m = g.R.Ring.modulus ring in
    let value = g.R.Ring.value ring in
    let told = g.D.Disk.trace c.args.disk.now in
    let numbers = c.args.kept.now.numbers.items in
    let rows = c.args.kept.now.rows.items in
    let block = c.args.block in
    let done = c.args.done in
    let end = c.args.end in
    let some : done < end = omega (arith, c.if-done-end.false, c.requires.run.order) in
    let p = err_from_is_err_and c.from_residual.result c.from_residual.ensures.1 in
    let cause = cause_more (Rose (g.D.Disk.faults c.args.disk.now) (g.D.Disk.faults c.read_block.new.disk))
    (IfSome told (λ t. (pages : List Page) → IsSealed pages t.now.contents → (page : Page) → slice_get pages (1 + block) ≡ Some page
    → ¬ (IsKeptPage m g.R.Ring.zero value block (between done end c.deref.result.now) (between done end c.deref-2.result.now) page)))
    (Rose (g.D.Disk.faults c.args.disk.now) (g.D.Disk.faults c.read_block.new.disk))
    (IfSome told (λ t. (pages : List Page) → IsSealed pages t.now.contents → (blocks : ℕ) → block < blocks
    → ¬ (AllKept m g.R.Ring.zero value blocks numbers rows pages)))
    (λ _ _. ⊥) (λ _ _. ⊥) (λ r. r)
    (λ other. told_not_all m g.R.Ring.zero value block done end numbers rows c.args.file.now told c.requires.run some c.requires.within c.requires.suits
    (subst (λ ns. IfSome told (λ t. (pages : List Page) → IsSealed pages t.now.contents → (page : Page) → slice_get pages (1 + block) ≡ Some page
    → ¬ (IsKeptPage m g.R.Ring.zero value block (between done end ns) (between done end rows) page))) c.deref.ensures.value
    (subst (λ rs. IfSome told (λ t. (pages : List Page) → IsSealed pages t.now.contents → (page : Page) → slice_get pages (1 + block) ≡ Some page
    → ¬ (IsKeptPage m g.R.Ring.zero value block (between done end c.deref.result.now) (between done end rs) page))) c.deref-2.ensures.value other)))
    (λ _ _ never. never) c.in_err-combinations.field-0.0 c.in_err-combinations.ensures.fault in
    rw p.1 (rw p.2 cause)

pub add_all_used-requires-clause-below : goal.add_all_used-requires-clause-below
add_all_used-requires-clause-below g c = λ j lj i li.
    let numbers = c.args.kept.now.numbers.items in
    let totals = c.requires.totals in
    let done = c.args.done in
    let end = c.args.end in
    let own : length c.in_ok-combinations.combinations.items ≡ length (between done end numbers) =
    subst (λ ns. length c.in_ok-combinations.combinations.items ≡ length (between done end ns)) c.deref.ensures.value c.in_ok-combinations.ensures.count in
    let short : length (between done end numbers) ≡ end - done = between_length done end numbers c.requires.run.within in
    let rows_are : c.deref-3.result.now ≡ c.in_ok-combinations.combinations.items = c.deref-3.ensures.value in
    let inside : i < length (between done end numbers) = omega (arith, li, own, ap length rows_are) in
    let at : get_or (between done end c.deref.result.now) i 0 ≡ get_or numbers (done + i) 0 =
    ap (λ ns. get_or (between done end ns) i 0) c.deref.ensures.value ∙ between_at done end numbers i 0 (omega (arith, inside, short)) in
    let low : get_or numbers (done + i) 0 + 1 ≤ totals.bound = omega (arith, totals.above (done + i) (omega (arith, inside, short, c.requires.run.within))) in
    subst (λ n. IsBelow (λ k. k) n (get_or c.deref-3.result.now i [])) (sym (totals.size j lj))
    (subst (λ cs. IsBelow (λ k. k) totals.bound (get_or cs i [])) (sym rows_are)
    (below_more (λ k. k) (get_or numbers (done + i) 0 + 1) totals.bound (get_or c.in_ok-combinations.combinations.items i []) low
    (subst (λ n. IsBelow (λ k. k) (n + 1) (get_or c.in_ok-combinations.combinations.items i [])) at
    (c.in_ok-combinations.ensures.below i (subst (λ ns. i < length (between done end ns)) (sym c.deref.ensures.value) inside)))))

pub returns-clause-told : goal.returns-clause-told
returns-clause-told g c =
    let ring = c.args.ring.now in
    let m = g.R.Ring.modulus ring in
    let value = g.R.Ring.value ring in
    let total = g.R.Ring.total ring in
    let told = g.D.Disk.trace c.args.disk.now in
    let numbers = c.args.kept.now.numbers.items in
    let block = c.args.block in
    let done = c.args.done in
    let end = c.args.end in
    let uses = c.args.uses.now in
    let before = c.args.sums.now in
    let after = c.add_all_used.new.sums in
    let rows = c.in_ok-combinations.combinations.items in
    let numbers_are : c.deref.result.now ≡ numbers = c.deref.ensures.value in
    let rows_are : c.deref-3.result.now ≡ rows = c.deref-3.ensures.value in
    let count : length rows ≡ length (between done end numbers) =
    subst (λ ns. length rows ≡ length (between done end ns)) numbers_are c.in_ok-combinations.ensures.count in
    let Sums : (rs : List _) (ns : List ℕ) → Type 0 = λ rs ns. (j : ℕ) → j < length uses → SameRow m (total_at total (get_or after j []))
    (λ q. total_at total (get_or before j []) q + combination (length rs) (row_at value rs) (used_at value (between done end ns) (get_or uses j [])) q) in
    let sums : Sums rows numbers = subst (λ rs. Sums rs numbers) rows_are (subst (λ ns. Sums c.deref-3.result.now ns) numbers_are c.add_all_used.ensures.added) in
    told_one (λ t. (pages : List Page) → IsSealed pages t.now.contents → (i : ℕ) → i < length (between done end c.deref.result.now) → (q : ℕ)
    → row_at value rows i q ≡ combination_in (entries_on (slice_get pages (1 + block))) (get_or (between done end c.deref.result.now) i 0) q)
    (λ t. (pages : List Page) → IsSealed pages t.now.contents → (j : ℕ) → j < length uses → SameRow m (total_at total (get_or after j []))
    (λ q. total_at total (get_or before j []) q + combination (end - done) (λ i. sealed_combination pages (get_or numbers (done + i) 0))
    (λ i. used_at value numbers (get_or uses j []) (done + i)) q)) told
    (λ t known pages sealed j l.
    block_added m value block done end numbers c.requires.run pages (get_or uses j []) rows (total_at total (get_or before j []))
    (total_at total (get_or after j [])) count
    (subst (λ ns. (i : ℕ) → i < length (between done end ns) → (q : ℕ)
    → row_at value rows i q ≡ combination_in (entries_on (slice_get pages (1 + block))) (get_or (between done end ns) i 0) q) numbers_are (known pages sealed))
    (sums j l)) c.in_ok-combinations.ensures.told
