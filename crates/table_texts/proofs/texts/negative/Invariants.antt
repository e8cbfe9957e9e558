use Rattle.std.proofs.Common.{◌≡◌, ◌<◌, ◌++◌, length}
use Rattle.std.specs.Prelude.{All}
use Rattle.whole_runs.specs.FileTexts.{negated}
use Rattle.table_texts.proofs.texts.negative.Given as goal

abbrev pub invariant-loop-pair : goal.invariant-loop-pair
invariant-loop-pair g l = record {
  joined : l.negated.items ++ negated (g.R.Ring.modulus l.ring) l.rest ≡ negated (g.R.Ring.modulus l.ring) l.initial.rest;
  below : All (λ e. e.1 < g.R.Ring.modulus l.ring) l.rest;
}

abbrev pub decreases-loop-pair : goal.decreases-loop-pair
decreases-loop-pair g l = length l.rest
