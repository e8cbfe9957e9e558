use Rattle.std.proofs.Common.{◌≡◌, ℕ, ◌+◌, ◌-◌, ◌*◌, ◌<◌, ◌≤◌, [], List, length, get_or, subst, arith}
use Rattle.std.specs.Prelude.{IfSome, None}
use Rattle.outside_io.specs.Causes.{Rose}
use Rattle.outside_io.specs.Traces.{Trace}
use Rattle.linear_model.specs.Rows.{combination, SameRow}
use Rattle.page_codec.specs.declared.page.Page.{Page}
use Rattle.page_file.specs.Files.{IsSealed}
use Rattle.echelon.specs.Lists.{row_at}
use Rattle.echelon.specs.Offers.{used_at}
use Rattle.table_build.specs.Inner.{AreSums, AllKept, between, sealed_combination}
use Rattle.table_build.proofs.CauseSteps.{cause_more}
use Rattle.table_build.proofs.KeptBlocks.{between_length}
use Rattle.table_build.proofs.SealSteps.{told_one}
use Rattle.table_build.proofs.FinalSums.{AreFinalSums, group_told, finals_untold, final_sums}
use Rattle.table_build.proofs.groups.made_group.Goals as goal

pub returns-in-Err-with_sealed-clause-fault : goal.returns-in-Err-with_sealed-clause-fault
returns-in-Err-with_sealed-clause-fault g c = λ columns course all have.
    let ring = c.args.ring.now in
    let m = g.R.Ring.modulus ring in
    let has = g.R.Ring.has ring in
    let value = g.R.Ring.value ring in
    let blocks = c.args.blocks in
    let old = g.D.Disk.trace c.args.disk.now in
    let numbers = c.args.sealed.now.numbers.items in
    let rows = c.args.sealed.now.rows.items in
    let finals = c.args.finals.now.rows.rows in
    let uses = c.args.finals.now.uses.items in
    let rose : Type 0 = Rose (g.D.Disk.faults c.args.disk.now) (g.D.Disk.faults c.with_sealed.new.disk) in
    cause_more rose (IfSome old (λ t. (pages : List Page) → IsSealed pages t.now.contents → ¬ (AllKept m g.R.Ring.zero value blocks numbers rows pages)))
    rose (old ≡ None) (λ _ _. ⊥) (λ _ _. ⊥) (λ r. r)
    (finals_untold m g.R.Ring.zero has value (g.met.R.Ring.has_zero ring) (g.met.R.Ring.value_zero ring) (g.met.R.Ring.value_injective ring)
    (g.met.R.Ring.value_below ring) course columns blocks numbers rows finals uses old all have c.requires.rows c.args.file.now old c.requires.suits
    have.forward)
    (λ _ _ never. never) c.in-Err-with_sealed.fault c.in-Err-with_sealed.ensures.fault

pub returns-in-Ok-with_sealed-clause-recorded : goal.returns-in-Ok-with_sealed-clause-recorded
returns-in-Ok-with_sealed-clause-recorded g c = λ columns course all have.
    let ring = c.args.ring.now in
    let m = g.R.Ring.modulus ring in
    let has = g.R.Ring.has ring in
    let value = g.R.Ring.value ring in
    let blocks = c.args.blocks in
    let first = c.args.first in
    let old = g.D.Disk.trace c.args.disk.now in
    let numbers = c.args.sealed.now.numbers.items in
    let rows = c.args.sealed.now.rows.items in
    let finals = c.args.finals.now.rows.rows in
    let uses = c.args.finals.now.uses.items in
    let stop = c.min-stop.result in
    let starts = c.in-Ok.starts.items in
    let made = c.in-Ok-with_sealed.combinations.items in
    let uses_are : c.deref.result.now ≡ uses = c.deref.ensures.value in
    let sums_are : AreSums has (length starts) (between (64 * first) stop uses) made =
    subst (λ (us : List (List (ℕ × g.row.R-Elem.Denot))). AreSums has (length starts) (between (64 * first) stop us) made) uses_are
    c.in-Ok-with_sealed.ensures.count in
    let size : length (between (64 * first) stop uses) ≡ stop - 64 * first =
    between_length (64 * first) stop uses (omega (arith, c.min-stop.ensures, c.len.ensures)) in
    let count : length made ≡ stop - 64 * first = omega (arith, size, sums_are.uses_count, sums_are.starts_count) in
    let fits : 64 * first + length made ≤ length finals =
    omega (arith, count, c.min-stop.ensures, c.len.ensures, c.requires.uses, c.requires.order, c.requires.within) in
    let Known : List (List (ℕ × g.row.R-Elem.Denot)) → Trace → Type 0 = λ us t. (pages : List Page) → IsSealed pages t.now.contents → (j : ℕ)
    → j < length starts
    → SameRow m (row_at value made j) (λ q. row_at value starts j q + combination (length numbers) (λ i. sealed_combination pages (get_or numbers i 0))
    (used_at value numbers (get_or (between (64 * first) stop us) j [])) q) in
    let sums : IfSome old (λ t. (pages : List Page) → IsSealed pages t.now.contents → AreFinalSums m value numbers (64 * first) uses made pages) =
    told_one (Known uses) (λ t. (pages : List Page) → IsSealed pages t.now.contents → AreFinalSums m value numbers (64 * first) uses made pages) old
    (λ t known pages sealed. final_sums m value numbers (64 * first) stop uses starts made pages c.in-Ok.ensures.zero (omega (arith, count))
    (λ j l. known pages sealed j (omega (arith, l, sums_are.starts_count))))
    (subst (λ us. IfSome old (Known us)) uses_are c.in-Ok-with_sealed.ensures.told) in
    group_told m g.R.Ring.zero has value (g.met.R.Ring.has_zero ring) (g.met.R.Ring.value_zero ring) (g.met.R.Ring.value_injective ring)
    (g.met.R.Ring.value_below ring) course columns blocks numbers rows finals uses old all have c.requires.rows first made fits
    c.args.file.now old c.requires.suits have.forward sums
