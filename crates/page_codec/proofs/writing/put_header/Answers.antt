use Rattle.std.proofs.Common.{◌≤◌, ◌++◌, length, Some, None, arith}
use Rattle.std.specs.List.{flat_map}
use Rattle.byteorder.specs.Endian.{little_bytes}
use Rattle.page_codec.specs.Spelling.{word_spelling, limits_spelling, mark}
use Rattle.page_codec.proofs.Appending.{wrote_both}
use Rattle.page_codec.proofs.Lengths.{each}
use Rattle.page_codec.proofs.writing.put_header.Goals as goal

pub put_words-requires-clause-words : goal.put_words-requires-clause-words
put_words-requires-clause-words c =
    let is = c.requires.params in
    let most = is.weight_to in
    each (λ before u. Some u) (λ w. length w ≤ 24) (λ before u a. let weight = a.weight in omega arith) None c.args.p.now.preferred is.preferred.in_order

pub returns : goal.returns
returns c =
    let words = flat_map word_spelling c.args.p.now.preferred in
    let count = little_bytes 1 (length c.args.p.now.preferred) in
    let counted = wrote_both c.put_limits.new.out c.put_u8.new.out c.put_words.new.out count words
    (rw c.len.ensures.length at c.put_u8.ensures) c.put_words.ensures in
    let limited = wrote_both c.put.new.out c.put_limits.new.out c.put_words.new.out (limits_spelling c.args.p.now)
    (count ++ words) c.put_limits.ensures counted in
    wrote_both c.args.out.now c.put.new.out c.put_words.new.out (mark 2) (limits_spelling c.args.p.now ++ (count ++ words)) c.put.ensures limited
