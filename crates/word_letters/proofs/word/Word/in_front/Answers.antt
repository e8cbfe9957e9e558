use Rattle.std.proofs.Common.{◌≡◌, ◌+◌, ◌*◌, ◌/◌, ◌%◌, ◌<◌, ◌∷◌, length, ap, ◌∙◌, arith}
use Rattle.word_letters.specs.Packing.{word_of, packed_of}
use Rattle.word_letters.proofs.Packings.{IsPacked-from, word_of-from, packed_of-front, weight_of}
use Rattle.word_letters.proofs.word.Word.in_front.Goals as goal
use Rattle.word_letters.proofs.word.Word.in_front.Goals.{After-weight}

room : (c : After-weight) → length (word_of c.self.inside.packed) < 24
room c = omega (arith, weight_of _ c.self.invariant, ap length c.self.view_is)

packed : (c : After-weight) → (c.rank.result * 8388608 + c.self.inside.packed / 32 / 2) * 32 + (c.weight.result + 1)
    ≡ packed_of (c.args.a ∷ word_of c.self.inside.packed)
packed c =
    let e : c.weight.result ≡ c.self.inside.packed % 32 = omega (arith, weight_of _ c.self.invariant, ap length c.self.view_is) in
    (λ i. (c.rank.result * 8388608 + c.self.inside.packed / 32 / 2) * 32 + (e i + 1))
    ∙ packed_of-front _ c.args.a (c.rank.result * 8388608) c.self.invariant (room c) (ap (λ r. r * 8388608) c.rank.ensures)

pub invariant_of-result : goal.invariant_of-result
invariant_of-result c = let r = room c in IsPacked-from _ _ (packed c) (omega arith)

pub returns : goal.returns
returns c =
    let r = room c in
    word_of-from _ _ (packed c) (omega arith) ∙ ap (λ w. c.args.a ∷ w) c.self.view_is
