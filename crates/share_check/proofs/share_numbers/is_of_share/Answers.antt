use Rattle.std.proofs.Common.{ℕ, ◌≤◌, length, refl, ◌∙◌, subst, arith}
use Rattle.std.proofs.lemmas.List.{take_all}
use Rattle.std.proofs.lemmas.List.Elements.{All-more}
use Rattle.share_model.specs.Dealing.{InShare}
use Rattle.share_check.specs.Inner.{AreOfShare}
use Rattle.share_check.proofs.share_numbers.is_of_share.Goals as goal

pub loop-entry-preserved : goal.loop-entry-preserved
loop-entry-preserved g c =
    let Of = λ (e : ℕ × g.row.R-Elem.Denot). InShare c.args.id.index c.args.id.of e.0 in
    let item = c.entry-item.result in
    All-more Of c.entries-entries.result.now c.loop-entry.entry-index item c.loop-entry-test.true c.loop-entry.invariant
    (subst Of c.entry-item.is (c.is_in_share.ensures.0 c.if-not-is_in_share.false))

pub returns : goal.returns
returns g c =
    let entries = c.entries-entries.result.now in
    let all : length entries ≤ c.loop-entry.entry-index = omega (arith, c.loop-entry-test.false) in (
      λ _. subst (AreOfShare c.args.id.index c.args.id.of) (take_all c.loop-entry.entry-index entries all ∙ c.entries-entries.ensures.entries)
          c.loop-entry.invariant,
      λ _. refl,
    )
