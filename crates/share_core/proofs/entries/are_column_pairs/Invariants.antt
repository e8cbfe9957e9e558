use Rattle.std.proofs.Common.{◌+◌, drop}
use Rattle.std.specs.Prelude.{◌↔◌}
use Rattle.page_codec.specs.Bounds.{Chain, IsPair, ArePairs}
use Rattle.share_core.proofs.entries.are_column_pairs.Given as goal

abbrev pub invariant-loop-pair : goal.invariant-loop-pair
invariant-loop-pair l = ArePairs 2048 l.pairs ↔ Chain (λ low e. IsPair low 2048 e) (λ low e. e.0 + 1) l.low (drop l.pair-index l.pairs)
