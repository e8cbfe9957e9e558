use Rattle.std.proofs.Common.{◌≡◌, length}
use Rattle.echelon.specs.Inner.{AllStand, AreWithin}
use Rattle.echelon.proofs.standing.standing_rows.Given as goal

abbrev pub invariant-loop-count : goal.invariant-loop-count
invariant-loop-count g l = record {
  count : length l.standing.items ≡ l.columns;
  within : AreWithin (g.R.Ring.has l.ring) l.standing.items;
  stand : AllStand (g.R.Ring.modulus l.ring) (g.R.Ring.value l.ring) l.rows l.standing.items;
}
