use Rattle.std.proofs.Common.{◌≡◌, Bool, true, false, List, cond, ap, sym, ◌∙◌, arith}
use Rattle.zeta_model.specs.declared.Letter.{Letter}
use Rattle.zeta_model.specs.Sums.{same_word, single}
use Rattle.zeta_model.proofs.SumLemmas.{sum_of-take_more}
use Rattle.zeta_model.proofs.word_list.WordList.count.Goals as goal
use Rattle.zeta_model.proofs.word_list.WordList.count.Goals.{then-is_same, else-is_same}

-- the test decides what the word adds
tested : (word read item : List Letter) (answer b : Bool) → answer ≡ same_word word read → read ≡ item → answer ≡ b → single item word ≡ cond b 1 0
tested word read item answer b is value was = ap (λ c. cond c 1 0) (ap (same_word word) (sym value) ∙ sym is ∙ was)

pub loop-other-preserved : goal.loop-other-preserved
loop-other-preserved c =
    let more = sum_of-take_more (λ w. w.items) c.as_slice-other-items.result.now c.loop-other.other-index c.other-item.result c.args.word.now c.loop-other-test.true c.other-item.is in
    let before = c.loop-other.invariant.counted in
    let bounded = c.loop-other.invariant.bounded in
    elim c.if-is_same.branch [
      | then-is_same w ↦
          let one : single c.other-item.result.items c.args.word.now ≡ 1 = tested _ _ _ _ true c.is_same.ensures c.deref.ensures.value w.if-is_same.true in
          let is = w.places-is in
          record { counted = omega arith; bounded = omega arith }
      | else-is_same w ↦
          let none : single c.other-item.result.items c.args.word.now ≡ 0 =
          tested _ _ _ _ false c.is_same.ensures c.deref.ensures.value w.if-is_same.false in
          let is = w.places-is in
          record { counted = omega arith; bounded = omega arith }
    ]
