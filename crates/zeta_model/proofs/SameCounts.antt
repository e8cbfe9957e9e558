-- Two lists of words hold the same words equally often exactly where their sums are the same.
use Rattle.std.proofs.Common.{◌≡◌, ℕ, ◌+◌, ◌<◌, Bool, true, false, List, [], ◌∷◌, ◌++◌, cond, refl, sym, ap, ◌∙◌, arith}
use Rattle.std.specs.List.{count_by}
use Rattle.std.proofs.lemmas.List.Recursion.{is_count_by}
use Rattle.zeta_model.specs.declared.Letter.{Letter}
use Rattle.zeta_model.specs.Product.{total, SameWords}
use Rattle.zeta_model.specs.Sums.{same_word, single, sum_of}
use Rattle.zeta_model.proofs.Totals.{total-append}
use Rattle.zeta_model.proofs.WordOrder.{same_word-one, same_word-itself}

abbrev Word : Type 0
Word = List Letter

-- the sum of a list counts the places of a word
pub sum_of-count_by : (ws : List Word) (t : Word) → sum_of ws t ≡ count_by (same_word t) ws
sum_of-count_by ws t = is_count_by (λ vs. sum_of vs t) (same_word t) refl (λ w vs. step (same_word t w) (sum_of vs t)) ws
  where
    step : (b : Bool) (n : ℕ) → cond b 1 0 + n ≡ cond b (1 + n) n
    step true n = refl
    step false n = omega arith

single-itself : (w : Word) → single w w ≡ 1
single-itself w = ap (λ b. cond b 1 0) (same_word-itself w)

-- the words before and behind a place of the word
Around : Word → List Word → Type 0
Around u vs = (front : List Word) × (back : List Word) × (vs ≡ front ++ u ∷ back)

split_first : (u v : Word) (vs : List Word) (b : Bool) → same_word u v ≡ b → (0 < sum_of vs u → Around u vs) → 0 < sum_of (v ∷ vs) u → Around u (v ∷ vs)
unfolding Around
split_first u v vs true e more p = ([], vs, ap (λ w. w ∷ vs) (sym (same_word-one u v e)))
split_first u v vs false e more p =
    let none : single v u ≡ 0 = ap (λ b. cond b 1 0) e in
    let r = more (omega arith) in
    (v ∷ r.0, r.1, ap (λ ws. v ∷ ws) r.2)

split_at : (u : Word) (vs : List Word) → 0 < sum_of vs u → Around u vs
split_at u [] p = absurd (omega arith)
split_at u (v ∷ vs) p = split_first u v vs (same_word u v) refl (split_at u vs) p

total-split : (f : Word → ℕ) (front back : List Word) (u : Word) → total f (front ++ u ∷ back) ≡ f u + total f (front ++ back)
total-split f front back u = omega (arith, total-append f front (u ∷ back), total-append f front back)

pub sums-SameWords : (us vs : List Word) → ((t : Word) → sum_of us t ≡ sum_of vs t) → SameWords us vs
unfolding Around
sums-SameWords [] [] same f = refl
sums-SameWords [] (v ∷ vs) same f = absurd (omega (arith, same v, single-itself v))
sums-SameWords (u ∷ us) vs same f =
    let r = split_at u vs (omega (arith, same u, single-itself u)) in
    let whole : (g : Word → ℕ) → total g vs ≡ g u + total g (r.0 ++ r.1) = λ g. ap (total g) r.2 ∙ total-split g r.0 r.1 u in
    let less : (t : Word) → sum_of us t ≡ sum_of (r.0 ++ r.1) t = λ t. omega (arith, same t, whole (λ w. single w t)) in
    omega (arith, sums-SameWords us (r.0 ++ r.1) less f, whole f)
