use Rattle.std.proofs.Common.{◌≡◌, ◌<◌, true, false, ◌++◌, ◌∷◌, [], length, length-append, arith, ap}
use Rattle.page_codec.specs.Inner.{word_at}
use Rattle.page_codec.proofs.Loop.{goes_on, ends, is_done}
use Rattle.page_codec.proofs.decoding.words_at.Goals as goal

pub returns-in_default : goal.returns-in_default
returns-in_default c = ends word_at c.loop.words c.args.count c.loop.counter c.loop.rest.now _ c.loop-test.true c.in_default.ensures c.loop.invariant.read

pub returns-then-not-push : goal.returns-then-not-push
returns-then-not-push c =
    let many = c.loop.invariant.many in
    let room : length c.loop.words < 16 = omega arith in
    let yes : c.push.result ≡ true = c.push.ensures.room.1 room in
    let no : c.push.result ≡ false = c.if-not-push.true in
    absurd (cc (yes, no))

pub loop-preserved : goal.loop-preserved
loop-preserved c =
    let pushed : c.push.new.self ≡ c.loop.words ++ c.in-Some.read.0 ∷ [] = c.push.ensures.pushed c.if-not-push.false in
    record {
      read = rw pushed (goes_on word_at c.loop.words c.args.count c.loop.counter c.loop.rest.now c.in-Some.read.0 c.in-Some.read.1.now _ c.loop-test.true
          c.in-Some.ensures c.loop.invariant.read);
      many = let many = c.loop.invariant.many in omega (arith, ap length pushed, length-append c.loop.words (c.in-Some.read.0 ∷ []));
    }

pub returns : goal.returns
returns c = is_done word_at c.loop.words c.args.count c.loop.counter c.loop.rest.now _ c.loop-test.false c.loop.invariant.read
