use Rattle.std.proofs.Common.{◌≡◌, List, ◌∷◌, length, reverse, drop, sym, ap, subst, ◌∙◌, arith, length-drop}
use Rattle.std.proofs.lemmas.List.{length-reverse}
use Rattle.zeta_model.specs.declared.Letter.{Letter}
use Rattle.lyndon_words.specs.Lyndon.{joined, IsFactors}
use Rattle.lyndon_words.specs.Monomials.{IsMonomial}
use Rattle.lyndon_words.specs.Inner.{join_front}
use Rattle.lyndon_words.proofs.OneWay.{IsFactors-unique}
use Rattle.lyndon_words.proofs.JoinFront.{factors_of, IsFactors-factors_of, length-factors_of}
use Rattle.lyndon_words.proofs.Factorising.{drop-back, found_factors, found_monomial, length-monomial}
use Rattle.lyndon_words.proofs.factorise.factors.Goals as goal

pub put_front-requires-clause-room : goal.put_front-requires-clause-room
put_front-requires-clause-room c =
    let rest : List Letter = drop c.loop-place.place c.args.w in
    omega (arith, length-reverse c.loop-place.stack.items, ap length c.loop-place.invariant.found, length-factors_of rest, length-drop c.loop-place.place c.args.w)

pub put_front-requires-clause-fits : goal.put_front-requires-clause-fits
put_front-requires-clause-fits c =
    let rest : List Letter = drop c.loop-place.place c.args.w in
    let whole : joined (reverse c.loop-place.stack.items) ≡ rest = ap joined c.loop-place.invariant.found ∙ (IsFactors-factors_of rest).whole in
    omega (arith, ap length whole, ap length c.of.ensures, length-drop c.loop-place.place c.args.w)

pub loop-place-preserved : goal.loop-place-preserved
loop-place-preserved c =
    let rest : List Letter = drop c.loop-place.place c.args.w in
    let begins : drop _ c.args.w ≡ c.letter.result ∷ rest = drop-back c.args.w c.loop-place.place c.letter.result (omega arith) c.letter.ensures in
    record {
      within = omega arith;
      found = c.put_front.ensures.items ∙ (λ i. join_front (c.of.ensures i) (c.loop-place.invariant.found i)) ∙ ap factors_of (sym begins);
      capacity = c.put_front.ensures.capacity ∙ c.loop-place.invariant.capacity;
    }

pub turned-requires : goal.turned-requires
turned-requires c =
    let fs : List (List Letter) = reverse c.loop-place.stack.items in
    let m : IsMonomial fs = found_monomial c.args.w fs c.requires (omega arith)
    (found_factors c.args.w fs c.loop-place.place c.loop-place.invariant.found (omega arith)) in
    omega (arith, length-monomial fs m, m.within, length-reverse c.loop-place.stack.items)

pub invariant_of-result : goal.invariant_of-result
invariant_of-result c =
    let fs : List (List Letter) = reverse c.loop-place.stack.items in
    let m : IsMonomial fs = found_monomial c.args.w fs c.requires (omega arith)
    (found_factors c.args.w fs c.loop-place.place c.loop-place.invariant.found (omega arith)) in
    (subst IsMonomial (sym c.turned.ensures.items) m, c.turned.ensures.capacity)

pub returns-clause-monomial : goal.returns-clause-monomial
returns-clause-monomial c =
    let fs : List (List Letter) = reverse c.loop-place.stack.items in
    let m : IsMonomial fs = found_monomial c.args.w fs c.requires (omega arith)
    (found_factors c.args.w fs c.loop-place.place c.loop-place.invariant.found (omega arith)) in
    subst IsMonomial (sym c.turned.ensures.items) m

pub returns-clause-factors : goal.returns-clause-factors
returns-clause-factors c =
    let fs : List (List Letter) = reverse c.loop-place.stack.items in
    subst (IsFactors c.args.w) (sym c.turned.ensures.items) (found_factors c.args.w fs c.loop-place.place c.loop-place.invariant.found (omega arith))

pub returns-clause-unique : goal.returns-clause-unique
returns-clause-unique c =
    let fs : List (List Letter) = reverse c.loop-place.stack.items in
    λ us f. IsFactors-unique c.args.w us fs f (found_factors c.args.w fs c.loop-place.place c.loop-place.invariant.found (omega arith))
    ∙ sym c.turned.ensures.items
