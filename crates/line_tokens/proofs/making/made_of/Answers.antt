use Rattle.std.proofs.Common.{◌≡◌, ◌+◌, ◌<◌, None, ap, sym, subst, ◌∙◌, Some, get_or}
use Rattle.line_tokens.specs.Machine.{place_of, number_after}
use Rattle.line_tokens.proofs.HeldNumbers.{held_small, held_after, fits_width}
use Rattle.line_tokens.proofs.MakingLemmas.{Making, never_stuck, goes_on_marked, goes_on_unmarked, made_whole}
use Rattle.line_tokens.proofs.making.made_of.Goals as goal
use Rattle.line_tokens.proofs.making.made_of.Goals.{in-Some-mark_of+in_ok-take, in_default-mark_of}

pub unreachable-requires : goal.unreachable-requires
unreachable-requires g c =
    never_stuck g.P.Places.machine g.M.LineMaker.maker g.P.Places.limit c.args.start c.args.before c.args.line.now c.requires.accepted
    c.loop-byte.spot c.loop-byte.number c.loop-byte.made c.loop-byte.byte-index c.loop-byte-test.true (sym c.step.ensures
    ∙ c.in_default.is) c.loop-byte.invariant

pub take-requires-clause-within : goal.take-requires-clause-within
take-requires-clause-within g c =
    subst (λ p. c.loop-byte.number < g.P.Places.limit p) (sym c.place.ensures)
    (held_small g.P.Places.machine g.P.Places.limit g.met.P.Places.holds_runs g.met.P.Places.holds_marks c.loop-byte.spot c.loop-byte.number c.loop-byte.invariant.held)

pub number_after-number-requires : goal.number_after-number-requires
number_after-number-requires g c =
    let m = g.P.Places.machine in
    let b = get_or c.args.line.now c.loop-byte.byte-index 0 in
    let n = number_after c.loop-byte.spot c.loop-byte.number b in
    let h = held_after m g.P.Places.limit g.met.P.Places.holds_runs g.met.P.Places.holds_marks c.loop-byte.spot c.loop-byte.number b c.in-Some.next
    (sym c.step.ensures ∙ c.in-Some.is) c.loop-byte.invariant.held in
    fits_width n (g.P.Places.limit (place_of c.in-Some.next))
    (held_small m g.P.Places.limit g.met.P.Places.holds_runs g.met.P.Places.holds_marks c.in-Some.next n h)
    (g.met.P.Places.limit_small (place_of c.in-Some.next))

pub loop-byte-preserved : goal.loop-byte-preserved
loop-byte-preserved g c =
    let m = g.P.Places.machine in
    let k = g.M.LineMaker.maker in
    let line = c.args.line.now in
    let i = c.loop-byte.byte-index in
    let s = c.loop-byte.spot in
    let n = c.loop-byte.number in
    let d = c.loop-byte.made in
    let go = sym c.step.ensures ∙ c.in-Some.is in
    let num = sym c.number_after-number.ensures in
    elim c.match-mark_of.branch [
      | in-Some-mark_of+in_ok-take w ↦
          let q = w.in-Some-mark_of.mark in
          let made : k.on_mark (place_of s) q n d ≡ c.match-mark_of.made =
          ap (λ p. k.on_mark p q n d) (sym w.place.ensures) ∙ sym w.in_ok-take.ensures ∙ sym w.made-is in
          let r = goes_on_marked m k g.P.Places.limit c.args.start c.args.before line g.met.P.Places.holds_runs g.met.P.Places.holds_marks s c.in-Some.next n d i q c.loop-byte-test.true go (sym c.mark_of.ensures ∙ w.in-Some-mark_of.is) c.loop-byte.invariant in
          subst (λ v. Making m k g.P.Places.limit c.args.start c.args.before line c.in-Some.next v c.match-mark_of.made (i + 1)) num
          (subst (λ v. Making m k g.P.Places.limit c.args.start c.args.before line c.in-Some.next (number_after s n (get_or line i 0)) v (i + 1)) made r)
      | in_default-mark_of w ↦
          let none : c.mark_of.result ≡ None = w.in_default-mark_of.is in
          let r = goes_on_unmarked m k g.P.Places.limit c.args.start c.args.before line g.met.P.Places.holds_runs g.met.P.Places.holds_marks s c.in-Some.next n d i c.loop-byte-test.true go (sym c.mark_of.ensures ∙ none) c.loop-byte.invariant in
          subst (λ v. Making m k g.P.Places.limit c.args.start c.args.before line c.in-Some.next v c.match-mark_of.made (i + 1)) num
          (subst (λ v. Making m k g.P.Places.limit c.args.start c.args.before line c.in-Some.next (number_after s n (get_or line i 0)) v (i + 1))
          (sym w.made-is) r)
    ]

pub end-requires : goal.end-requires
end-requires g c = record {
  within = subst (λ p. c.loop-byte.number < g.P.Places.limit p) (sym c.place-2.ensures)
      (held_small g.P.Places.machine g.P.Places.limit g.met.P.Places.holds_runs g.met.P.Places.holds_marks c.loop-byte.spot c.loop-byte.number c.loop-byte.invariant.held);
}

pub returns : goal.returns
returns g c =
    let m = g.P.Places.machine in
    let k = g.M.LineMaker.maker in
    made_whole m k g.P.Places.limit c.args.start c.args.before c.args.line.now c.requires.accepted c.loop-byte.spot c.loop-byte.number c.loop-byte.made c.loop-byte.byte-index c.loop-byte-test.false c.loop-byte.invariant
    ∙ ap (λ p. Some (k.at_end p c.loop-byte.number c.loop-byte.made)) (sym c.place-2.ensures)
    ∙ ap Some (sym c.in_ok-end.ensures)
