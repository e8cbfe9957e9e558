use Rattle.std.proofs.Common.{◌≡◌, ◌-◌, length}
use Rattle.page_codec.specs.Inner.{times_at, word_at}
use Rattle.page_codec.proofs.Loop.{with_front}
use Rattle.page_codec.proofs.decoding.words_at.Given as goal

abbrev pub invariant-loop : goal.invariant-loop
invariant-loop l = record {
  read : with_front l.words (times_at word_at (l.count - l.counter) l.rest) ≡ times_at word_at l.count l.bytes;
  many : length l.words ≡ l.counter;
}
