use Rattle.std.proofs.Common.{◌≡◌, [], length, get_or}
use Rattle.echelon.specs.Offers.{used_at}
use Rattle.echelon.specs.States.{AllIns}
use Rattle.table_build.proofs.AddedInTurn.{AreInTurn}
use Rattle.table_build.proofs.summing.added_in_turn.Given as goal

abbrev pub invariant-loop-j : goal.invariant-loop-j
invariant-loop-j g l = record {
  count : length l.sums.items ≡ l.j;
  in_ring : AllIns (g.R.Ring.has l.ring) l.sums.items;
  sums : AreInTurn (g.R.Ring.modulus l.ring) (g.R.Ring.value l.ring) l.starts (λ j. used_at (g.R.Ring.value l.ring) l.numbers (get_or l.uses j []))
      l.sums.items;
}
