use Rattle.std.proofs.Common.{◌≡◌, ℕ, ◌*◌, ◌<◌, ◌≤◌, List, [], length, get_or}
use Rattle.std.specs.Prelude.{IfSome}
use Rattle.linear_model.specs.Rows.{combination, SameRow}
use Rattle.row_sums.specs.Totals.{total_at}
use Rattle.page_codec.specs.declared.page.Page.{Page}
use Rattle.page_file.specs.Files.{IsSealed}
use Rattle.echelon.specs.Offers.{used_at}
use Rattle.table_build.specs.Inner.{AreTotals, sealed_combination}
use Rattle.table_build.proofs.rereading.with_sealed.Given as goal

abbrev pub invariant-loop-block : goal.invariant-loop-block
invariant-loop-block g l = record {
  totals : AreTotals (g.R.Ring.is_sum l.ring) l.kept.numbers.items (length l.uses) l.sums.items;
  told : IfSome (g.D.Disk.trace l.fn.disk) (λ t. (pages : List Page) → IsSealed pages t.now.contents → (j : ℕ) → j < length l.uses
      → SameRow (g.R.Ring.modulus l.ring) (total_at (g.R.Ring.total l.ring) (get_or l.sums.items j []))
      (combination l.done (λ i. sealed_combination pages (get_or l.kept.numbers.items i 0))
      (used_at (g.R.Ring.value l.ring) l.kept.numbers.items (get_or l.uses j []))));
  within : l.done ≤ length l.kept.numbers.items;
  before : (i : ℕ) → i < l.done → get_or l.kept.numbers.items i 0 < 64 * l.block;
  behind : (i : ℕ) → l.done ≤ i → i < length l.kept.numbers.items → 64 * l.block ≤ get_or l.kept.numbers.items i 0;
  same : l.file ≡ l.fn.file;
  disk : g.D.Disk.trace l.disk ≡ g.D.Disk.trace l.fn.disk;
  faults : g.D.Disk.faults l.fn.disk ≤ g.D.Disk.faults l.disk;
}
