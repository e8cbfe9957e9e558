use Rattle.std.proofs.Common.{◌+◌, refl, sym, subst, ◌∙◌}
use Rattle.std.proofs.lemmas.List.{take_all}
use Rattle.word_letters.proofs.Following.{Follows, stuck-longest, stuck-none, unfinished-longest, unfinished-none}
use Rattle.word_letters.proofs.Kept.{Kept-same, Kept-whole, Kept-along}
use Rattle.word_letters.proofs.word.Word.parse.Goals as goal
use Rattle.word_letters.proofs.word.Word.parse.Goals.{in-Some-whole_number, in_default}

pub returns-in-None-clause-err : goal.returns-in-None-clause-err
returns-in-None-clause-err c =
    let k = c.loop-at.invariant in
    let l = c.loop-at-test.true in
    let e = c.in-None.ensures in (
      stuck-none c.args.bytes.now c.loop-at.at _ c.loop-at.place k.numbers k.follows l refl
          (sym e),
      stuck-longest c.args.bytes.now c.loop-at.at _ c.loop-at.place k.numbers k.follows l refl (sym e),
    )

pub loop-at-preserved : goal.loop-at-preserved
loop-at-preserved c =
    let k = c.loop-at.invariant in
    let l = c.loop-at-test.true in
    let e = sym c.in-Some.ensures in
    elim c.match-whole_number.branch [
      | in-Some-whole_number w ↦
          Kept-along c.args.bytes.now (c.loop-at.at + 1) _ _ _ _ _ _ _ _ w.place-is w.weight-is (w.zero-is
          ∙ w.zero_after-zero.ensures) w.w-is
          (Kept-whole c.args.bytes.now c.loop-at.at _ c.loop-at.place c.in-Some.next c.loop-at.weight c.loop-at.zero c.loop-at.w k l refl e w.in-Some-whole_number.k (sym w.in-Some-whole_number.ensures) w.with_z-w.result w.with_z-w.ensures)
      | in_default w ↦
          Kept-along c.args.bytes.now (c.loop-at.at + 1) _ _ _ _ _ _ _ _ w.place-is w.weight-is w.zero-is w.w-is
          (Kept-same c.args.bytes.now c.loop-at.at _ c.loop-at.place c.in-Some.next c.loop-at.weight c.loop-at.zero c.loop-at.w k l refl e
          (sym w.in_default.ensures))
    ]

pub returns-then-not-is_end-clause-err : goal.returns-then-not-is_end-clause-err
returns-then-not-is_end-clause-err c =
    let k = c.loop-at.invariant in
    let e = c.if-not-is_end.ensures in
    let whole = take_all c.loop-at.at c.args.bytes.now c.loop-at-test.false in
    let f : Follows c.args.bytes.now c.loop-at.place k.numbers = subst (λ front. Follows front c.loop-at.place k.numbers) whole k.follows in (
      unfinished-none c.args.bytes.now c.loop-at.place k.numbers f (λ p. let t = e.1 p in
          cc),
      unfinished-longest c.args.bytes.now c.loop-at.place k.numbers f,
    )
