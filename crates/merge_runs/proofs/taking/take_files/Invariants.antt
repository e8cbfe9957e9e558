use Rattle.std.proofs.Common.{◌≡◌, [], map, take}
use Rattle.lyndon_polys.specs.Tables.{RingTable}
use Rattle.merge_program.specs.declared.words.TableWords.{TableWords}
use Rattle.merge_runs.specs.Disks.{NoneFell}
use Rattle.merge_runs.specs.Inner.{Stands, HasTaken}
use Rattle.merge_runs.proofs.taking.take_files.Given as goal

abbrev pub invariant-loop-k : goal.invariant-loop-k
invariant-loop-k g l = record {
  taken : (merge : TableWords) (table : RingTable g.row.R.Denot) → Stands g.R.Ring.value merge table [] l.initial.coordinator
      → HasTaken g.R.Ring.value merge table (take l.k (map g.D.Disk.trace l.initial.disks)) l.coordinator;
  same : map g.D.Disk.trace l.disks ≡ map g.D.Disk.trace l.initial.disks;
  faults : NoneFell (map g.D.Disk.faults l.initial.disks) (map g.D.Disk.faults l.disks);
}
