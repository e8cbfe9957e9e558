-- The factors are counted from the front: equal ones stand side by side.
use Rattle.std.proofs.Common.{◌≡◌, ℕ, suc, ◌+◌, ◌*◌, ◌<◌, ◌≤◌, inl, inr, Bool, true, false, List, [], ◌∷◌, ◌++◌, length, take, drop, get_or, Some, cond, refl, sym, ap, subst, ◌∙◌, arith, length-take}
use mathlib.Core.Bool.{true≢false}
use Rattle.std.specs.List.{slice_get}
use Rattle.std.proofs.Math.Seq.{drop-cons}
use Rattle.std.proofs.lemmas.List.{take_more, take-append-drop}
use Rattle.std.proofs.lemmas.Option.{slice_get_within, get_or_from_slice_get}
use Rattle.zeta_model.specs.declared.Letter.{Letter}
use Rattle.zeta_model.specs.Sums.{same_word, sum_of}
use Rattle.zeta_model.proofs.SumLemmas.{sum_of-push}
use Rattle.zeta_model.proofs.WordOrder.{same_word-one, same_word-itself}
use Rattle.zeta_model.proofs.ProductWords.{single-other}
use Rattle.lyndon_words.specs.Lyndon.{IsBefore, Falls}
use Rattle.lyndon_words.proofs.WordLess.{Precedes}
use Rattle.leading_word.specs.Shuffles.{factorials_of}
use Rattle.leading_word.proofs.AtMosts.{AtMost, at_most_cases, not_before-at_most, not_both}
use Rattle.leading_word.proofs.Ways.{single-itself}
use Rattle.leading_word.proofs.LastFactor.{NoneBefore}
use Rattle.leading_word.proofs.Factorials.{factorials_of-push, sum_of-within, factorials_of-fits}
use Rattle.leading_word.proofs.GreatestWords.{none_before}

abbrev Word : Type 0
Word = List Letter

-- a word before one that is before none of the words does not stand among them
none-lesser : (b u : Word) (us : List Word) → Precedes b u → NoneBefore u us → sum_of us b ≡ 0
none-lesser b u [] p n = refl
none-lesser b u (d ∷ us) p n =
    let low : AtMost u d = not_before-at_most u d n.0 in
    omega (arith, single-other d b (λ e. not_both b u p (subst (AtMost u) (sym e) low)), none-lesser b u us p n.1)

-- the words so far, the last of them, how often it stands there, and the product of the factorials
pub record Seen (us : List Word) (last : Word) (run count : ℕ) : Type 0 where
  pub product : count ≡ factorials_of us
  pub places : run ≡ sum_of us last
  pub others : (b : Word) → NoneBefore b us → (b ≡ last → ⊥) → sum_of us b ≡ 0

pub seen-none : Seen [] [] 0 1
seen-none = record { product = refl; places = refl; others = λ b n ne. refl }

pub seen-more : (us : List Word) (u last : Word) (vs : List Word) (run count r : ℕ) → Falls (us ++ u ∷ vs) → Seen us last run count
    → r ≡ cond (same_word u last) (run + 1) 1 → Seen (us ++ u ∷ []) u r (count * r)
seen-more us u last vs run count r f s h = record {
  product = (λ i. s.product i * which (same_word u last) refl h i) ∙ sym (factorials_of-push us u);
  places = which (same_word u last) refl h ∙ omega (arith, sum_of-push us u u, single-itself u);
  others = λ b n ne. omega (arith, sum_of-push us u b, single-other u b ne, less b n ne);
}
  where
    which : (b : Bool) → same_word u last ≡ b → r ≡ cond b (run + 1) 1 → r ≡ sum_of us u + 1
    which true t g = g ∙ ap (λ n. n + 1) s.places ∙ ap (λ t. sum_of us t + 1) (sym (same_word-one u last t))
    which false t g = omega (arith, g, s.others u (none_before us u vs f) (λ e. true≢false (sym (same_word-itself u) ∙ ap (same_word u) e ∙ t)))

    last_one : (us : List Word) (b : Word) → NoneBefore b (us ++ u ∷ []) → ¬ (IsBefore u b)
    last_one [] b n = n.0
    last_one (d ∷ us) b n = last_one us b n.1

    less : (b : Word) → NoneBefore b (us ++ u ∷ []) → (b ≡ u → ⊥) → sum_of us b ≡ 0
    less b n ne = elim (at_most_cases b u (not_before-at_most b u (last_one us b n))) [
      | inl p ↦ none-lesser b u us p (none_before us u vs f)
      | inr e ↦ absurd (ne e)
    ]

pub seen-fits : (p : List Word) (i : ℕ) (last : Word) (run count : ℕ) → length p ≤ 12 → Seen (take i p) last run count → (run ≤ 12) × (count ≤ 479001600)
seen-fits p i last run count h s =
    let few : length (take i p) ≤ 12 = omega (arith, length-take i p) in
    (omega (arith, few, s.places, sum_of-within (take i p) last), omega (arith, s.product, factorials_of-fits (take i p) few))

-- the step of a loop over the places of a list
pub seen-step : (p : List Word) (i : ℕ) (u last : Word) (run count r : ℕ) → Falls p → slice_get p i ≡ Some u → Seen (take i p) last run count
    → r ≡ cond (same_word u last) (run + 1) 1 → Seen (take (i + 1) p) u r (count * r)
seen-step p i u last run count r f g s h =
    let within : i < length p = slice_get_within p i u g in
    let here : get_or p i u ≡ u = get_or_from_slice_get p i u u g in
    let front : take (i + 1) p ≡ take i p ++ u ∷ [] = take_more p i u within ∙ ap (λ t. take i p ++ t ∷ []) here in
    let whole : take i p ++ u ∷ drop (suc i) p ≡ p =
    ap (λ t. take i p ++ t) (sym (drop-cons p i u within ∙ ap (λ t. t ∷ drop (suc i) p) here)) ∙ take-append-drop i p in
    subst (λ t. Seen t u r (count * r)) (sym front) (seen-more (take i p) u last (drop (suc i) p) run count r (subst Falls (sym whole) f) s h)
