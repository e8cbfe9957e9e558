use Rattle.share_merge.proofs.RowPlaces.{HasPlaces}
use Rattle.share_merge.proofs.places.places.Given as goal

abbrev pub invariant-loop-place : goal.invariant-loop-place
invariant-loop-place g l = HasPlaces g.R.Ring.modulus g.R.Ring.has g.R.Ring.value l.shares l.place l.places.items
