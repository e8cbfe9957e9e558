use Rattle.std.proofs.Common.{◌≡◌, ◌+◌, get_or, length, sym, ap, subst, ◌∙◌, arith}
use Rattle.line_tokens.specs.Machine.{number_after}
use Rattle.line_tokens.specs.Prefixes.{Accepted, IsStop}
use Rattle.line_tokens.proofs.HeldNumbers.{held_small}
use Rattle.line_tokens.proofs.MakingLemmas.{Making, goes_on_marked, goes_on_unmarked}
use Rattle.line_tokens.proofs.StopLemmas.{going_on, stuck, ended}
use Rattle.dual_reply.specs.Inner.{on_mark, maker, start}
use Rattle.dual_reply.specs.Places.{places, limit}
use Rattle.dual_reply.specs.Tails.{tails, holds_runs, holds_marks}
use Rattle.dual_reply.specs.declared.place.Place.TheVariants.{Start}
use Rattle.dual_reply.proofs.reader.read.Goals as goal
use Rattle.dual_reply.proofs.reader.read.Goals.{in-Some-mark_of+in_ok-take, in_default-mark_of}

pub returns-in_default : goal.returns-in_default
returns-in_default c =
    stuck places Start c.args.line.now tails c.loop-at.spot c.loop-at.at c.loop-at-test.true (sym c.in_default.ensures) c.loop-at.invariant.going

pub number_after-number-requires : goal.number_after-number-requires
number_after-number-requires c = held_small places limit holds_runs holds_marks c.loop-at.spot c.loop-at.number c.loop-at.invariant.making.held

pub loop-at-preserved : goal.loop-at-preserved
loop-at-preserved c =
    let line = c.args.line.now in
    let i = c.loop-at.at in
    let s = c.loop-at.spot in
    let t = c.in-Some.next in
    let n = c.loop-at.number in
    let d = c.loop-at.draft in
    let inv = c.loop-at.invariant in
    let go = sym c.step.ensures ∙ c.in-Some.is in
    let num = sym c.number_after-number.ensures in
    record {
      going = going_on places Start line s t i c.loop-at-test.true go inv.going;
      making = elim c.match-mark_of.branch [
        | in-Some-mark_of+in_ok-take w ↦
            let q = w.in-Some-mark_of.mark in
            let made : on_mark q n d ≡ c.match-mark_of.draft = sym w.in_ok-take.ensures ∙ sym w.draft-is in
            let r = goes_on_marked places maker limit Start start line holds_runs holds_marks s t n d i q c.loop-at-test.true go
            (sym c.mark_of.ensures ∙ w.in-Some-mark_of.is) inv.making in
            subst (λ v. Making places maker limit Start start line t v c.match-mark_of.draft (i + 1)) num
            (subst (λ v. Making places maker limit Start start line t (number_after s n (get_or line i 0)) v (i + 1)) made r)
        | in_default-mark_of w ↦
            let r = goes_on_unmarked places maker limit Start start line holds_runs holds_marks s t n d i c.loop-at-test.true go
            (sym c.mark_of.ensures ∙ w.in_default-mark_of.is) inv.making in
            subst (λ v. Making places maker limit Start start line t v c.match-mark_of.draft (i + 1)) num
            (subst (λ v. Making places maker limit Start start line t (number_after s n (get_or line i 0)) v (i + 1)) (sym w.draft-is) r)
      ];
    }

pub returns-else-ends : goal.returns-else-ends
returns-else-ends c =
    let line = c.args.line.now in
    let i : c.loop-at.at ≡ length line = omega arith in
    let e = ended places Start line tails c.loop-at.spot c.loop-at.at i c.loop-at.invariant.going in
    subst (IsStop (Accepted places Start) line) i (e.1 (ap places.ends (sym c.place.ensures) ∙ sym c.ends.ensures ∙ c.if-ends.false))
