use Rattle.std.proofs.Common.{◌≡◌, refl, sym, subst, ◌∙◌, arith}
use Rattle.word_sums.specs.Terms.{AllIn as AllTermsIn}
use Rattle.cert_checker.proofs.PlacingWords.{PlacingWords, place_within, placing-start, placing-more, placing-none, placing-end}
use Rattle.cert_checker.proofs.placed.placed.Goals as goal

pub loop-word-init : goal.loop-word-init
loop-word-init g c =
    let has = g.R.Ring.has c.args.ring.now in
    let value = g.R.Ring.value c.args.ring.now in
    let items = c.into_iter-word-iterator.result in
    let same : items ≡ c.args.sum.now = c.into_iter-word-iterator.ensures.into_iter_gives ∙ c.iter-word-items.ensures.rest in
    subst (λ es. PlacingWords has value c.args.columns.now items es items) (sym c.in_ok-pairs.ensures.items)
    (placing-start has value c.args.columns.now items (subst (AllTermsIn has) (sym same) c.requires.in_ring))

pub overflow_cast-place : goal.overflow_cast-place
overflow_cast-place g c =
    let within = place_within c.args.columns.now c.in-Some.word.now c.place_of_word.result c.place_of_word.ensures.word c.in-Some-place_of_word.place
    c.in-Some-place_of_word.is in
    omega (arith, c.requires.few)

pub loop-word-preserved-in-Continue-branch-2 : goal.loop-word-preserved-in-Continue-branch-2
loop-word-preserved-in-Continue-branch-2 g c =
    placing-more _ _ _ _ _ c.loop-word.word-iterator c.next.new.self c.in-Some.word.now c.in-Some.residue.now c.in-Some.ensures.steps c.loop-word.invariant
    c.place_of_word.result c.place_of_word.ensures.word c.in-Some-place_of_word.place _ _ c.in-Some-place_of_word.is refl c.in_ok-push.ensures.items

pub loop-word-preserved : goal.loop-word-preserved
loop-word-preserved g c =
    placing-none _ _ _ _ _ c.loop-word.word-iterator c.next.new.self c.in-Some.word.now c.in-Some.residue.now c.in-Some.ensures.steps c.loop-word.invariant
    c.place_of_word.result c.place_of_word.ensures.word c.in_default.is

pub returns : goal.returns
returns g c =
    let has = g.R.Ring.has c.args.ring.now in
    let value = g.R.Ring.value c.args.ring.now in
    let items = c.into_iter-word-iterator.result in
    let same : items ≡ c.args.sum.now = c.into_iter-word-iterator.ensures.into_iter_gives ∙ c.iter-word-items.ensures.rest in
    let kept = subst (λ es. PlacingWords has value c.args.columns.now es c.loop-word.pairs.items c.loop-word.word-iterator) same c.loop-word.invariant in
    placing-end has value c.args.columns.now c.args.sum.now (g.R.Ring.modulus c.args.ring.now) g.R.Ring.zero c.loop-word.pairs.items
    c.loop-word.word-iterator c.in-None.ensures.steps.0 kept
