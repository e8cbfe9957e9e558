use Rattle.std.proofs.Common.{◌≡◌, ◌-◌}
use Rattle.page_codec.specs.Inner.{times_at, pair_at}
use Rattle.page_codec.proofs.Loop.{with_front}
use Rattle.page_codec.proofs.reading.number_pairs_at.Given as goal

abbrev pub invariant-loop : goal.invariant-loop
invariant-loop l = with_front l.pairs.items (times_at (pair_at 4) (l.count - l.counter) l.rest) ≡ times_at (pair_at 4) l.count l.bytes
